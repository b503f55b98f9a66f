-- How an evening ended, from how its script was run.
use Rattle.std.proofs.Common.{◌≡◌, ℕ, ◌≤◌, List, length, None, Result, Ok, Err, refl, sym, ap, subst, ◌∙◌, arith}
use Rattle.std.specs.Prelude.{◌==◌, IfErr}
use Rattle.pv_gen.specs.Script.{script_of}
use Rattle.pv_gen.specs.declared.writing.TheConstants.{LAST_NUMBER}
use Rattle.pv_network.specs.Standing.{State, StandsFor}
use Rattle.pv_network.specs.Step.{Choice}
use Rattle.pv_network.specs.World.{World}
use Rattle.pv_script.specs.declared.ends.AnswerEnd.TheVariants as answering
use Rattle.pv_script.specs.declared.ends.RunEnd.{RunEnd}
use Rattle.pv_script.specs.declared.ends.RunEnd.TheVariants as ends
use Rattle.pv_script.specs.declared.grammar.Command.{Command}
use Rattle.pv_script.specs.declared.tally.Tally.{Tally}
use Rattle.pv_script.specs.Ends.{IsRunEnd, IsTallied}
use Rattle.pv_script.specs.Evening.{IsEvening, world_after_evening, summary_text, summary_of}
use Rattle.pv_script.specs.Play.{first_world}
use Rattle.pv_script.specs.Transcript.{AreRead}
use Rattle.pv_script.proofs.Generated.{AreMadeLines, no_bad_line, all_made, lines_of-script_of}

-- what follows from an error
pub map_err : {T E : Type 0} (r : Result T E) (P Q : E → Type 0) → IfErr r P → ((e : E) → P e → Q e) → IfErr r Q
map_err (Ok done) P Q is then = tt
map_err (Err e) P Q is then = then e is

module _ (number : ℕ) (some : 1 ≤ number) (within : number ≤ LAST_NUMBER) where
  -- the run of a generated script, of which nothing is kept, ends before its end only if memory runs out
  pub only_memory : (end : RunEnd) → IsRunEnd 1 (first_world 1) (script_of number) None None 0 0 end
      → end ≡ ends.Unanswered answering.Memory
  only_memory (ends.BadLine place) stops =
      let lines = sym (lines_of-script_of number some within) ∙ stops.lines in
      let made = subst AreMadeLines lines (all_made number some within) in
      absurd (no_bad_line stops.run stops.later stops.bad (place == 1) made stops.none)
  only_memory (ends.Unanswered answering.Fault) stops = absurd (omega (arith, stops.0))
  only_memory (ends.Unanswered answering.Memory) stops = refl

  -- the lines that were run are those of the script, and the summary is that of what came of them
  pub summed : (old new : State) (tally : Tally) (line : List ℕ) → IsTallied 1 (first_world 1) (script_of number) old None None tally
      → ((w : World) → StandsFor old w → StandsFor new w × (line ≡ summary_text (length w.update.records) tally))
      → (runs : List (Command × Choice)) × IsEvening number runs × StandsFor new (world_after_evening runs) × (line ≡ summary_of runs)
  summed old new tally line ran sums =
      let runs = ran.played.transcript.runs in
      let lines = lines_of-script_of number some within in
      let read = subst (λ (l : List (List ℕ)). AreRead (first_world 1) 1 1 l runs) lines ran.played.transcript.read in
      let done = sums (world_after_evening runs) ran.played.stands in
      (runs, read, done.0, done.1 ∙ ap (summary_text (length (world_after_evening runs).update.records)) ran.counted)
