use Rattle.std.proofs.Common.{rules, ◌≡◌, Some, None, refl, ◌∙◌}
use Rattle.std.specs.Prelude.{slice_get}
use Rattle.pv_edits.specs.Edits.{taken_of}
use Rattle.pv_udc.specs.contracts.rules.UdcRulesRules.TheImpl as udc
use Rattle.pv_closing.specs.Lacking.{lacked_items}
use Rattle.pv_closing.proofs.Bringing.{going_first}
use Rattle.pv_closing.proofs.Lacking.{number_read}
use Rattle.pv_closing.proofs.Lists.{found_at}
use Rattle.pv_closing.proofs.Taking.{item_leaves, item_taken, item_fewer, item_stopped, items_brought, items_all}
use Rattle.pv_closing.proofs.items.take_rest.Goals as goal

-- nothing was taken yet
pub loop-item-init : goal.loop-item-init
loop-item-init g c = record {
  going = going_first udc.ghosts g.D.Reports c.args.udc.now (lacked_items c.args.number c.args.centre.now.items c.args.udc.now.state)
      g.met.D.Disk.only_now g.met.D.Disk.now_is_known c.requires.hand;
  limits = refl;
}

-- an item was taken
pub loop-item-preserved : goal.loop-item-preserved
loop-item-preserved g c =
    let there = found_at c.args.centre.now.items c.taken.result (taken_of c.loop-item.udc.state.records c.args.number)
    (Some c.in-Some.item.now)
    (number_read c.args.number c.taken.result c.loop-item.udc.state c.state.result.now c.state.ensures c.taken.ensures) c.in-Some.ensures in
    record {
      going = item_taken udc.ghosts g.D.Reports (λ state edit place. refl) c.args.number c.args.centre.now.items c.args.udc.now
          c.loop-item.udc c.loop-item.invariant.going c.in-Some.item.now there c.take_item.new.udc c.in-Ok.ensures.stored
          c.take_item.ensures.moments c.take_item.ensures.counted;
      limits = c.take_item.ensures.limits ∙ c.loop-item.invariant.limits;
    }

pub loop-item-smaller : goal.loop-item-smaller
loop-item-smaller g c =
    let there = found_at c.args.centre.now.items c.taken.result (taken_of c.loop-item.udc.state.records c.args.number)
    (Some c.in-Some.item.now)
    (number_read c.args.number c.taken.result c.loop-item.udc.state c.state.result.now c.state.ensures c.taken.ensures) c.in-Some.ensures in
    item_fewer udc.ghosts g.D.Reports (λ state edit place. refl) c.args.number c.args.centre.now.items c.args.udc.now c.loop-item.udc
    c.loop-item.invariant.going c.in-Some.item.now there c.take_item.new.udc c.in-Ok.ensures.stored

-- one was not
pub returns-in-Err-clause-ends : goal.returns-in-Err-clause-ends
returns-in-Err-clause-ends g c =
    let there = found_at c.args.centre.now.items c.taken.result (taken_of c.loop-item.udc.state.records c.args.number)
    (Some c.in-Some.item.now)
    (number_read c.args.number c.taken.result c.loop-item.udc.state c.state.result.now c.state.ensures c.taken.ensures) c.in-Some.ensures in
    item_stopped udc.ghosts g.D.Reports (λ state edit place. refl) c.args.number c.args.centre.now.items c.args.udc.now
    c.loop-item.udc c.loop-item.invariant.going c.in-Some.item.now there c.take_item.new.udc c.in-Err.end c.in-Err.ensures.stopped

pub returns-in-Err-clause-moments : goal.returns-in-Err-clause-moments
returns-in-Err-clause-moments g c =
    let there = found_at c.args.centre.now.items c.taken.result (taken_of c.loop-item.udc.state.records c.args.number)
    (Some c.in-Some.item.now)
    (number_read c.args.number c.taken.result c.loop-item.udc.state c.state.result.now c.state.ensures c.taken.ensures) c.in-Some.ensures in
    item_leaves udc.ghosts g.D.Reports (λ state edit place. refl) c.args.number c.args.centre.now.items c.args.udc.now
    c.loop-item.udc c.loop-item.invariant.going c.in-Some.item.now there c.take_item.new.udc c.take_item.ensures.moments

-- all were taken
pub returns-clause-ends : goal.returns-clause-ends
returns-clause-ends g c =
    let past : None ≡ slice_get c.args.centre.now.items c.taken.result = search rules in
    let none = found_at c.args.centre.now.items c.taken.result (taken_of c.loop-item.udc.state.records c.args.number) None
    (number_read c.args.number c.taken.result c.loop-item.udc.state c.state.result.now c.state.ensures c.taken.ensures) past in
    items_brought udc.ghosts g.D.Reports (λ state edit place. refl) c.args.number c.args.centre.now.items c.args.udc.now
    c.loop-item.udc c.loop-item.invariant.going none

pub returns-clause-all : goal.returns-clause-all
returns-clause-all g c = λ is.
    let past : None ≡ slice_get c.args.centre.now.items c.taken.result = search rules in
    let none = found_at c.args.centre.now.items c.taken.result (taken_of c.loop-item.udc.state.records c.args.number) None
    (number_read c.args.number c.taken.result c.loop-item.udc.state c.state.result.now c.state.ensures c.taken.ensures) past in
    items_all udc.ghosts g.D.Reports (λ state edit place. refl) c.args.number c.args.centre.now.items c.args.udc.now c.loop-item.udc none
