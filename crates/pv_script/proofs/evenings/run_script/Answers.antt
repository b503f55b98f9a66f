use Rattle.std.proofs.Common.{ℕ, ◌≤◌, List, length, None, sym, subst, ◌∙◌}
use Rattle.std.specs.Prelude.{IfOk, IfErr}
use Rattle.pv_input.specs.declared.text.TheConstants.{LONGEST_TEXT}
use Rattle.pv_script.specs.Ends.{IsRunEnd, IsTallied}
use Rattle.pv_script.specs.Play.{first_world}
use Rattle.pv_script.proofs.Generated.{length-script_of}
use Rattle.pv_script.proofs.Summing.{map_err, only_memory}
use Rattle.pv_script.proofs.evenings.run_script.Goals as goal

-- the generated script is no longer than a script may be
pub run-requires-clause-short : goal.run-requires-clause-short
run-requires-clause-short c =
    let text = sym (c.bytes.ensures ∙ c.in-Ok.ensures) in
    subst (λ (l : List ℕ). length l ≤ LONGEST_TEXT) text (length-script_of c.args.number c.requires.some c.requires.within)

-- it was run whole
pub returns-clause-ok : goal.returns-clause-ok
returns-clause-ok c =
    let text = c.bytes.ensures ∙ c.in-Ok.ensures in
    subst (λ (l : List ℕ). IfOk c.run.result (λ played. IsTallied 1 (first_world 1) l played.0 None None played.1)) text c.run.ensures.ok

-- or memory ran out
pub returns-clause-memory : goal.returns-clause-memory
returns-clause-memory c =
    let text = c.bytes.ensures ∙ c.in-Ok.ensures in
    let ended = subst (λ (l : List ℕ). IfErr c.run.result (IsRunEnd 1 (first_world 1) l None None 0 0)) text c.run.ensures.err in
    map_err c.run.result _ _ ended (only_memory c.args.number c.requires.some c.requires.within)
