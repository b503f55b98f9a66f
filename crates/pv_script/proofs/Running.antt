-- What was run and written, line by line.
use Rattle.std.proofs.Common.{◌≡◌, ℕ, ◌+◌, ◌≤◌, ◌==◌, Bool, List, [], ◌∷◌, ◌++◌, length, take, Option, flat_map, refl, sym, ap, subst, ◌∙◌, append_assoc, arith}
use Rattle.std.specs.Io.KnownBytes.{Appends}
use Rattle.std.proofs.lemmas.Grind.{flat_map-append}
use Rattle.std.proofs.lemmas.List.{append-nil, length-append}
use Rattle.std.proofs.Math.Seq.{take-append-add}
use Rattle.pv_words.specs.Lines.{lines_of}
use Rattle.pv_network.specs.declared.outcome.Outcome.{Outcome}
use Rattle.pv_network.specs.World.{World}
use Rattle.pv_network.specs.Step.{Choice}
use Rattle.pv_network.specs.Standing.{State, StandsFor}
use Rattle.pv_script.specs.declared.ends.AnswerEnd.TheVariants as answering
use Rattle.pv_script.specs.declared.ends.RunEnd.{RunEnd}
use Rattle.pv_script.specs.declared.ends.RunEnd.TheVariants.{BadLine, Unanswered}
use Rattle.pv_script.specs.declared.grammar.Command.{Command}
use Rattle.pv_script.specs.declared.tally.Tally.{Tally}
use Rattle.pv_script.specs.Ends.{HasRun, IsTallied, IsLineEnd, IsRunEnd}
use Rattle.pv_script.specs.Grammar.{ReadsLine, HasNoForm, IsCommandChoice}
use Rattle.pv_script.specs.Play.{IsTranscript, StopsAfterLine}
use Rattle.pv_script.specs.Tally.{outcomes_to, outcomes_of, tally_of, AddsOutcomes}
use Rattle.pv_script.specs.Fates.{fate_of, fates_of, HasFates, HasFatesOf}
use Rattle.pv_script.specs.Transcript.{AreRead, answer_to, answers, world_after_command, world_after_all}
use Rattle.pv_input.proofs.CallerLemmas.{Appends-none, Appends-more}
use Rattle.pv_script.proofs.Counting.{outcomes_of-push, adds_none, adds_more, adds_all}
use Rattle.pv_script.proofs.Fates.{no_fates, fates-append, all_fates}

-- ---- one command more

-- the world after one command more
world_after_command-push : (w : World) (runs : List (Command × Choice)) (run : Command × Choice)
    → world_after_all w (runs ++ run ∷ []) ≡ world_after_command (world_after_all w runs) run.0 run.1
world_after_command-push w [] run = refl
world_after_command-push w (first ∷ runs) run = world_after_command-push (world_after_command w first.0 first.1) runs run

-- what is written for one command more
answers-push : (w : World) (runs : List (Command × Choice)) (run : Command × Choice)
    → answers w (runs ++ run ∷ []) ≡ answers w runs ++ answer_to (world_after_all w runs) run.0 run.1
answers-push w [] run = append-nil (answer_to w run.0 run.1)
answers-push w (first ∷ runs) run =
    ap (λ (l : List ℕ). answer_to w first.0 first.1 ++ l) (answers-push (world_after_command w first.0 first.1) runs run)
    ∙ sym (append_assoc (answer_to w first.0 first.1) _ _)

-- one line more reads as one command more
read-push : (w : World) (centres number at : ℕ) (lines : List (List ℕ)) (runs : List (Command × Choice)) (line : List ℕ) (run : Command × Choice)
    → at ≡ length lines + number → AreRead w centres number lines runs → ReadsLine centres (at == 1) line run.0
    → IsCommandChoice (world_after_all w runs) run.0 run.1 → AreRead w centres number (lines ++ line ∷ []) (runs ++ run ∷ [])
read-push w centres number at [] [] line run is read reads choice =
    let here : at ≡ number = omega (arith, is) in
    (subst (λ (n : ℕ). ReadsLine centres (n == 1) line run.0) here reads, choice, tt)
read-push w centres number at [] (c ∷ cs) line run is read reads choice = absurd read
read-push w centres number at (l ∷ ls) [] line run is read reads choice = absurd read
read-push w centres number at (l ∷ ls) (c ∷ cs) line run is read reads choice =
    (read.0, read.1, read-push (world_after_command w c.0 c.1) centres (number + 1) at ls cs line run (omega (arith, is)) read.2 reads choice)

-- the fates with those of one command more
fates-push : (w : World) (runs : List (Command × Choice)) (run : Command × Choice) → HasFates (answers w runs) (fates_of w runs)
    → HasFatesOf (answer_to (world_after_all w runs) run.0 run.1) (outcomes_to (world_after_all w runs) run.0 run.1)
    → HasFates (answers w (runs ++ run ∷ [])) (fates_of w (runs ++ run ∷ []))
fates-push w runs run before here =
    let after = world_after_all w runs in
    let fates = ap (flat_map fate_of) (outcomes_of-push w runs run) ∙ flat_map-append fate_of (outcomes_of w runs) (outcomes_to after run.0 run.1) in
    subst (λ (l : List Bool). HasFates (answers w (runs ++ run ∷ [])) l) (sym fates)
    (subst (λ (l : List ℕ). HasFates l (fates_of w runs ++ flat_map fate_of (outcomes_to after run.0 run.1))) (sym (answers-push w runs run))
    (fates-append (answers w runs) (answer_to after run.0 run.1) _ _ before here))

-- ---- the run so far

module _ (centres : ℕ) (first : World) (text : List ℕ) (before : Option (List ℕ)) where
  -- the lines before the rest were run, the network stands for the world after them, their answers were written, and what came of
  -- them was counted, and its fates are said
  pub record Progress (rest : List ℕ) (number : ℕ) (network : State) (now : Option (List ℕ)) (tally : Tally) : Type 0 where
    pub done : List (List ℕ)
    pub lines : lines_of text ≡ done ++ lines_of rest
    pub count : length done ≡ number
    pub transcript : IsTranscript centres first done before now
    pub stands : StandsFor network (world_after_all first transcript.runs)
    pub counted : AddsOutcomes (tally_of []) tally (outcomes_of first transcript.runs)
    pub fates : HasFates (answers first transcript.runs) (fates_of first transcript.runs)

  -- no line has no answer
  nothing_written : IsTranscript centres first [] before before
  nothing_written = record { runs = []; read = tt; written = Appends-none before }

  -- before the first line nothing was run, written or counted
  pub begins : (network : State) → StandsFor network first → Progress text 0 network before (tally_of [])
  unfolding nothing_written
  begins network stands =
      record { done = []; lines = refl; count = refl; transcript = nothing_written; stands = stands; counted = adds_none (tally_of []); fates = no_fates }

  -- nothing was run yet
  pub stops_at_once : StopsAfterLine centres first text before before
  stops_at_once = record { run = []; later = lines_of text; lines = refl; transcript = nothing_written }

  -- no line is left
  pub all_played : (rest : List ℕ) (number : ℕ) (network : State) (now : Option (List ℕ)) (tally : Tally)
      → Progress rest number network now tally → length rest ≡ 0 → IsTallied centres first text network before now tally
  all_played (byte ∷ rest) number network now tally p none = absurd (omega (arith, none))
  all_played [] number network now tally p none =
      let t = p.transcript in
      let all : p.done ≡ lines_of text = sym (append-nil p.done) ∙ sym p.lines in
      record {
        played = record {
          transcript = record { runs = t.runs; read = subst (λ (l : List (List ℕ)). AreRead first centres 1 l t.runs) all t.read; written = t.written };
          fates = all_fates (answers first t.runs) (fates_of first t.runs) p.fates;
          stands = p.stands;
          one_list = p.stands.sound.law;
          owed = λ c serial. (p.stands.charged c).owed serial;
        };
        counted = adds_all tally (outcomes_of first t.runs) p.counted;
      }

  module _ (rest line later : List ℕ) (number : ℕ) (old : State) (mid now : Option (List ℕ)) (from : Tally) (p : Progress rest number old mid from)
      (is : lines_of rest ≡ line ∷ lines_of later) where
    -- the lines with the next one
    longer : lines_of text ≡ (p.done ++ line ∷ []) ++ lines_of later
    longer = p.lines ∙ ap (λ (l : List (List ℕ)). p.done ++ l) is ∙ sym (append_assoc p.done (line ∷ []) (lines_of later))

    -- one line more was run
    pub goes_on : (new : State) (to : Tally) → HasRun centres (number + 1 == 1) line old new mid now from to
        → Progress later (number + 1) new now to
    goes_on new to run =
        let runs = p.transcript.runs in
        let step = run.2 (world_after_all first runs) p.stands in
        let next : Command × Choice = (run.0, step.0) in
        let counted = adds_more _ from to _ _ p.counted step.4 in
        record {
          done = p.done ++ line ∷ [];
          lines = longer;
          count = omega (arith, length-append p.done (line ∷ []), p.count);
          transcript = record {
            runs = runs ++ next ∷ [];
            read = read-push first centres 1 (number + 1) p.done runs line next (omega (arith, p.count)) p.transcript.read run.1 step.1;
            written = subst (λ (l : List ℕ). Appends before now l) (sym (answers-push first runs next)) (Appends-more before mid now (answers first runs) _ p.transcript.written step.3);
          };
          stands = subst (λ (w : World). StandsFor new w) (sym (world_after_command-push first runs next)) step.2;
          counted = subst (λ (l : List Outcome). AddsOutcomes (tally_of []) to l) (sym (outcomes_of-push first runs next)) counted;
          fates = fates-push first runs next p.fates step.5;
        }

    -- the next line was not run
    pub stops : (faults_before faults_mid faults_now : ℕ) (end : RunEnd) → faults_before ≤ faults_mid
        → IsLineEnd centres line (number + 1) old mid now faults_mid faults_now end
        → IsRunEnd centres first text before now faults_before faults_now end
    stops faults_before faults_mid faults_now (BadLine bad) counted end = record {
      run = p.done;
      bad = line;
      later = lines_of later;
      lines = p.lines ∙ ap (λ (l : List (List ℕ)). p.done ++ l) is;
      place = omega (arith, p.count, end.0);
      none = subst (λ (n : ℕ). HasNoForm centres (n == 1) line) (sym end.0) end.1;
      transcript = subst (λ (k : Option (List ℕ)). IsTranscript centres first p.done before k) (sym end.2) p.transcript;
    }
    stops faults_before faults_mid faults_now (Unanswered answering.Fault) counted end =
        let runs = p.transcript.runs in
        let step = end.2.1 (world_after_all first runs) p.stands in
        let next : Command × Choice = (end.0, step.0) in
        let prefix = ap (take (length (answers first runs) + step.2)) (answers-push first runs next) ∙ take-append-add (answers first runs) _ step.2 in (
          omega (arith, counted, end.2.0),
          record {
            run = p.done ++ line ∷ [];
            later = lines_of later;
            runs = runs ++ next ∷ [];
            lines = longer;
            read = read-push first centres 1 (number + 1) p.done runs line next (omega (arith, p.count)) p.transcript.read end.1 step.1;
            count = length (answers first runs) + step.2;
            written = subst (λ (l : List ℕ). Appends before now l) (sym prefix) (Appends-more before mid now (answers first runs) _ p.transcript.written step.3);
          },
        )
    stops faults_before faults_mid faults_now (Unanswered answering.Memory) counted end = record {
      run = p.done;
      later = line ∷ lines_of later;
      lines = p.lines ∙ ap (λ (l : List (List ℕ)). p.done ++ l) is;
      transcript = subst (λ (k : Option (List ℕ)). IsTranscript centres first p.done before k) (sym end.2) p.transcript;
    }
