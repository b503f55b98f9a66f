use Rattle.std.proofs.Common.{◌<◌, ◌∙◌, sym, append_assoc, arith}
use Rattle.std.proofs.lemmas.List.Elements.{All-push, All-head, All-tail, All-same}
use Rattle.std.proofs.lemmas.Grind.{common_steps}
use Rattle.pv_service.specs.declared.caller_stand.TheConstants.{MAX_ACCEPTED}
use Rattle.pv_centres.proofs.doors.next_doors.Goals as goal

-- one more door was taken, which was the first of the rest
pub loop-preserved : goal.loop-preserved
loop-preserved g c =
    let IsFresh = λ (d : g.row.O.Denot). g.O.Door.accepted d < MAX_ACCEPTED in
    let rest = All-same IsFresh _ _ (sym c.in-Some.ensures.items) c.loop.invariant.waiting in
    record {
      doors = grind (arith, common_steps, append_assoc);
      fresh = All-same IsFresh _ _ c.in_ok-push.ensures.items (All-push IsFresh _ _ c.loop.invariant.fresh (All-head IsFresh _ _ rest));
      waiting = All-tail IsFresh c.in-Some.door _ rest;
      count = c.in_ok-push.ensures.len ∙ omega (arith, c.loop.invariant.count);
      room = omega (arith, c.push.ensures.capacity, c.loop.invariant.room);
    }
