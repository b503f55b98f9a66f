use Rattle.std.proofs.Common.{refl, sym, ◌∙◌}
use Rattle.pv_udc.specs.contracts.rules.UdcRulesRules.TheImpl as udc
use Rattle.pv_closing.specs.Lacking.{lacked_items}
use Rattle.pv_centres.specs.Ends.{rest_end}
use Rattle.pv_centres.proofs.Adding.{none_there}
use Rattle.pv_centres.proofs.Bringing.{adds_brought, rests}
use Rattle.pv_centres.proofs.Carrying.{has_taken}
use Rattle.pv_centres.proofs.Continuing.{adds_no_run, update_adds_run}
use Rattle.pv_centres.proofs.rest.take_from.Goals as goal

-- the items of the centre were brought
pub returns-in-Some-clause-records : goal.returns-in-Some-clause-records
returns-in-Some-clause-records g c =
    adds_brought udc.ghosts g.D.Reports c.args.update.now c.take_items.new.udc (lacked_items g.row.C c.in-Some.centre.state.items)
    c.take_items.ensures.stands c.take_items.ensures.limits

-- as far as there was room
pub returns-in-Some-clause-taken : goal.returns-in-Some-clause-taken
returns-in-Some-clause-taken g c none =
    let take = c.take_items in
    let ends = c.add_rest.ensures in
    rw (c.in-Some.is, ends.no_room) (has_taken udc.ghosts g.D.Reports (λ list. refl) (λ list edits stands. stands) c.args.update.now
    take.new.udc g.row.C c.in-Some.centre.state.items c.args.ends.now.no_room take.result take.ensures.ends take.ensures.room
    take.ensures.all (none_there c.args.ends.now.disk (rest_end take.result) (sym ends.disk ∙ none)).1)

-- nothing is in hand
pub returns-in-Some-clause-rests : goal.returns-in-Some-clause-rests
returns-in-Some-clause-rests g c none =
    let take = c.take_items in
    rw c.in-Some.is (rests udc.ghosts g.D.Reports c.args.update.now take.new.udc (lacked_items g.row.C c.in-Some.centre.state.items)
    take.result take.ensures.ends (none_there c.args.ends.now.disk (rest_end take.result) (sym c.add_rest.ensures.disk ∙ none)).1)

pub returns-in-Some-clause-kept : goal.returns-in-Some-clause-kept
returns-in-Some-clause-kept g c none hand =
    let take = c.take_items in
    rests udc.ghosts g.D.Reports c.args.update.now take.new.udc (lacked_items g.row.C c.in-Some.centre.state.items)
    take.result take.ensures.ends (none_there c.args.ends.now.disk (rest_end take.result) (sym c.add_rest.ensures.disk ∙ none)).1

-- the items that were taken up go on as a run
pub returns-in-Some-clause-runs : goal.returns-in-Some-clause-runs
returns-in-Some-clause-runs g c none =
    let take = c.take_items in
    update_adds_run c.what_is_lacked_is_to_be_stored.ensures.items g.row.C c.in-Some.centre.state.items g.D.Reports c.args.update.now
    take.new.udc take.result take.ensures.ends (none_there c.args.ends.now.disk (rest_end take.result)
    (sym c.add_rest.ensures.disk ∙ none)).1 take.ensures.limits

pub returns-in_default-clause-runs : goal.returns-in_default-clause-runs
returns-in_default-clause-runs g c none = adds_no_run udc.ghosts g.D.Reports c.args.update.now
