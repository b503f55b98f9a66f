use Rattle.std.proofs.Common.{◌≡◌, length, arith, sym, ◌∙◌}
use Rattle.std.specs.Vec.Iter.{into_iter_items}
use Rattle.pv_running.proofs.Ports.{taken_count}
use Rattle.pv_running.proofs.network.open_centres.Goals as goal

-- all doors were taken, row by row
pub returns-in-Ok-open_pair-clause-doors : goal.returns-in-Ok-open_pair-clause-doors
returns-in-Ok-open_pair-clause-doors g c =
    let none : length (into_iter_items c.open_pair-2.new.doors) ≡ 0 =
    omega (arith, c.in-Ok.ensures.left, c.in-Ok-open_pair.ensures.left, c.requires.doors) in
    taken_count _ _ _ _ _ _ _ (sym c.into_iter-doors.ensures.rest ∙ c.in-Ok.ensures.doors) c.in-Ok-open_pair.ensures.doors none
