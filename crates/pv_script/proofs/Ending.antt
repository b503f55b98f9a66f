-- How a play ended that did not run its whole text.
use Rattle.std.proofs.Common.{◌≡◌, ◌⊎◌, ℕ, ◌+◌, ◌≤◌, ◌==◌, Bool, List, [], ◌∷◌, ◌++◌, length, Option, Some, None, refl, ap, subst, ◌∙◌, arith, inr}
use Rattle.std.specs.Io.KnownBytes.{Consumes}
use Rattle.std.proofs.lemmas.List.{length-append}
use Rattle.pv_outside.specs.Counts.{Rose}
use Rattle.pv_outside.specs.declared.status.Status.TheVariants.{Done, Memory}
use Rattle.pv_script.specs.Grammar.{HasNoForm}
use Rattle.pv_network.specs.World.{World}
use Rattle.pv_input.specs.declared.text.ReadEnd.{ReadEnd}
use Rattle.pv_input.specs.declared.text.ReadEnd.TheVariants as reads
use Rattle.pv_script.specs.declared.ends.AnswerEnd.TheVariants as answering
use Rattle.pv_script.specs.declared.ends.RunEnd.{RunEnd}
use Rattle.pv_script.specs.declared.ends.RunEnd.TheVariants.{BadLine, Unanswered}
use Rattle.pv_input.specs.Reading.{IsReadEnd, IsReadWhole, IsAllLeft, read_status}
use Rattle.pv_script.specs.Ends.{IsRunEnd, run_status}
use Rattle.pv_script.specs.Play.{IsPlayOf, StopsAtBadLine, AreCommands, IsScript}
use Rattle.pv_script.proofs.Running.{stops_at_once}

module _ (centres : ℕ) (first : World) (text : List ℕ) (left : Option (List ℕ)) (ended : Bool) (before now : Option (List ℕ)) (faults_before faults_now : ℕ) where
  -- the script was not read to its end
  pub not_read : (end : ReadEnd) → IsReadEnd text faults_before faults_now end → IsPlayOf centres first text None left ended before before (read_status end)
  not_read reads.TooLong is = is
  not_read reads.Fault is = is.0
  not_read reads.Memory is = (omega (arith, ap length is), stops_at_once centres first text before)

  -- its lines were not all run
  pub not_run : (end : RunEnd) → IsReadWhole text left ended → IsRunEnd centres first text before now faults_before faults_now end
      → IsPlayOf centres first text None left ended before now (run_status end)
  not_run (BadLine number) read is = (read, is)
  not_run (Unanswered answering.Fault) read is = (read, is.1)
  not_run (Unanswered answering.Memory) read is = (read.within, is)

-- ---- a valid script

-- a line that is not a valid command is none of a script's
no_bad : (centres number at : ℕ) (run later : List (List ℕ)) (bad : List ℕ) → at ≡ length run + number
    → AreCommands centres number (run ++ bad ∷ later) → HasNoForm centres (at == 1) bad → ⊥
no_bad centres number at [] later bad is are none =
    let here : at ≡ number = omega (arith, is) in
    subst (λ (n : ℕ). HasNoForm centres (n == 1) bad) here none are.0.0 are.0.1
no_bad centres number at (line ∷ run) later bad is are none =
    no_bad centres (number + 1) at run later bad (omega (arith, is)) are.1 none

never_stops : (centres : ℕ) (first : World) (text : List ℕ) (number : ℕ) (before now : Option (List ℕ))
    → StopsAtBadLine centres first text number before now → IsScript centres text → ⊥
never_stops centres first text number before now stops script =
    no_bad centres 1 number stops.run stops.later stops.bad (omega (arith, stops.place))
    (subst (AreCommands centres 1) stops.lines script.lines) stops.none

-- a text that was read out of another is no longer than that
no_longer : (text read : List ℕ) (left now : Option (List ℕ)) → left ≡ Some text → Consumes left now read → length read ≤ length text
no_longer text read None now is consumes = absurd cc
no_longer text read (Some all) None is consumes = absurd consumes
no_longer text read (Some all) (Some rest) is consumes =
    let same : text ≡ all = cc in
    omega (arith, ap (λ (l : List ℕ). length l) same, ap (λ (l : List ℕ). length l) consumes, length-append read rest)

-- it is read to its end, unless a read failed or memory ran out
pub read_completes : (centres : ℕ) (text read : List ℕ) (left now : Option (List ℕ)) (faults_before faults_now : ℕ) (end : ReadEnd)
    → IsReadEnd read faults_before faults_now end → left ≡ Some text → Consumes left now read → IsScript centres text
    → (Rose faults_before faults_now → ⊥) → (read_status end ≡ Done) ⊎ (read_status end ≡ Memory)
read_completes centres text read left now faults_before faults_now reads.TooLong is all consumes script none =
    absurd (omega (arith, is, no_longer text read left now all consumes, script.within))
read_completes centres text read left now faults_before faults_now reads.Fault is all consumes script none = absurd (none is.1)
read_completes centres text read left now faults_before faults_now reads.Memory is all consumes script none = inr refl

-- a text that was all that was left is that text
all_read : (text read : List ℕ) (left : Option (List ℕ)) → left ≡ Some text → IsAllLeft left read → text ≡ read
all_read text read None is all = absurd cc
all_read text read (Some there) is all = let same : text ≡ there = cc in same ∙ all

-- all its lines are run, unless a write failed or memory ran out
pub run_completes : (centres : ℕ) (first : World) (text read : List ℕ) (left : Option (List ℕ)) (ended : Bool) (before now : Option (List ℕ))
    (faults_before faults_now : ℕ) (end : RunEnd) → IsRunEnd centres first read before now faults_before faults_now end
    → IsReadWhole read left ended → left ≡ Some text → IsScript centres text → (Rose faults_before faults_now → ⊥)
    → (run_status end ≡ Done) ⊎ (run_status end ≡ Memory)
run_completes centres first text read left ended before now faults_before faults_now (BadLine number) is whole all script none =
    absurd (never_stops centres first read number before now is (subst (IsScript centres) (all_read text read left all whole.all) script))
run_completes centres first text read left ended before now faults_before faults_now (Unanswered answering.Fault) is whole all script none =
    absurd (none is.0)
run_completes centres first text read left ended before now faults_before faults_now (Unanswered answering.Memory) is whole all script none = inr refl
