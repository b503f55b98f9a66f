use Rattle.std.proofs.Common.{◌≡◌, ◌<◌, sym, append_assoc, subst, arith, rules, vec_len}
use Rattle.std.proofs.lemmas.List.{map-append}
use Rattle.std.proofs.lemmas.List.Elements.{All-head, All-tail, All-same}
use Rattle.std.proofs.lemmas.Grind.{common_steps}
use Rattle.pv_service.specs.declared.caller_stand.TheConstants.{MAX_ACCEPTED}
use Rattle.pv_centres.proofs.Filling.{all_more, taken_count}
use Rattle.pv_centres.proofs.editors_row.row_of_editors.Goals as goal

-- one more door was taken, which was the first of the rest
pub loop-pass-preserved : goal.loop-pass-preserved
loop-pass-preserved g c =
    let IsFresh = λ (d : g.row.O.Denot). g.O.Door.accepted d < MAX_ACCEPTED in
    let row = c.loop-pass.invariant in
    let stand = c.in_ok-stand_of.ensures in
    let rest = All-same IsFresh _ _ (sym c.in-Some-next.ensures.items) row.waiting in
    let more = all_more c.loop-pass.stands.items c.in_ok-stand_of.field-0 _ c.in_ok-push.ensures.items in
    record {
      all = grind (arith, common_steps, append_assoc);
      passes = grind (arith, common_steps, map-append);
      doors = grind (arith, common_steps, map-append, append_assoc);
      calls = more (λ s. s.calls ≡ c.args.calls) row.calls stand.calls;
      fresh = more (λ s. g.O.Door.accepted s.door.value < MAX_ACCEPTED) row.fresh
          (subst IsFresh (sym stand.door) (All-head IsFresh _ _ rest));
      waiting = All-tail IsFresh c.in-Some-next.door _ rest;
      room = search (rules, arith);
    }

-- as many passes as doors
pub returns-clause-doors : goal.returns-clause-doors
returns-clause-doors g c =
    let count : vec_len c.loop-pass.stands ≡ vec_len c.args.doors = grind (arith, common_steps) in
    taken_count _ _ _ _ c.loop-pass.invariant.doors (omega (arith, count, c.loop-pass.stands.ok.0, c.args.doors.ok.0))
