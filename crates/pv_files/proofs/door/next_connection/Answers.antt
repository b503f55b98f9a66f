use Rattle.std.proofs.Common.{◌≡◌, ◌∙◌, sym, true, false, rules}
use Rattle.pv_files.specs.Coming.{end_of, is_passed_over}
use Rattle.pv_files.proofs.Passing.{one_passed, none_left}
use Rattle.pv_files.proofs.door.next_connection.Goals as goal

-- an accept that is not made again comes after those that are passed over
pub returns-then-not-is_made_again-clause-decides : goal.returns-then-not-is_made_again-clause-decides
returns-then-not-is_made_again-clause-decides g c = λ passed next rest is all counts few.
    let so_far = c.loop-tries.invariant passed next rest is all counts in
    let ends : is_passed_over (end_of c.accept-answer.result) ≡ false = search rules in
    none_left next rest counts _ _ _ c.accept-answer.ensures.comes c.loop-tries._tries passed so_far.0 so_far.1 all ends

-- one that is made again is one of them
pub loop-tries-preserved : goal.loop-tries-preserved
loop-tries-preserved g c = λ passed next rest is all counts.
    let so_far = c.loop-tries.invariant passed next rest is all counts in
    let over : is_passed_over (end_of c.accept-answer.result) ≡ true = search rules in
    one_passed next rest counts _ _ _ c.accept-answer.ensures.comes c.loop-tries._tries passed so_far.0 so_far.1 over
