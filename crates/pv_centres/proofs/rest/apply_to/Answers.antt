use denote.Param.{number}
use Rattle.std.proofs.Common.{refl, ap, sym, ◌∙◌}
use Rattle.pv_irc.specs.History.{CentreState}
use Rattle.pv_irc.specs.contracts.rules.IrcRulesRules.TheImpl as irc
use Rattle.pv_closing.specs.Lacking.{lacked_records}
use Rattle.pv_centres.specs.Ends.{rest_end}
use Rattle.pv_centres.proofs.Adding.{none_there}
use Rattle.pv_centres.proofs.Bringing.{adds_brought, rests}
use Rattle.pv_centres.proofs.Carrying.{applies}
use Rattle.pv_centres.proofs.Continuing.{centre_adds_run}
use Rattle.pv_centres.proofs.rest.apply_to.Goals as goal

-- the records of the edit list were brought
pub returns-in-Some-clause-records : goal.returns-in-Some-clause-records
returns-in-Some-clause-records g c =
    rw c.in-Some.is (adds_brought (irc.ghosts (number g.row.C)) g.D.Reports c.in-Some.centre c.apply_records.new.centre
    (lacked_records c.args.update.now.state.records) c.apply_records.ensures.stands c.apply_records.ensures.limits)

-- as far as there was room
pub returns-in-Some-clause-applied : goal.returns-in-Some-clause-applied
returns-in-Some-clause-applied g c none =
    let applied = c.apply_records in
    let ends = c.add_rest.ensures in
    rw (c.in-Some.is, ends.no_room) (applies (irc.ghosts (number g.row.C)) g.D.Reports (λ state. refl)
    (λ state records stands. ap (λ (s : CentreState). s.applied) stands) (λ state rec place. refl) (λ state rec room. room)
    c.in-Some.centre applied.new.centre c.args.update.now.state.records c.args.ends.now.no_room applied.result applied.ensures.ends
    applied.ensures.all (none_there c.args.ends.now.disk (rest_end applied.result) (sym ends.disk ∙ none)).1)

-- nothing is in hand
pub returns-in-Some-clause-rests : goal.returns-in-Some-clause-rests
returns-in-Some-clause-rests g c none =
    let applied = c.apply_records in
    rests (irc.ghosts (number g.row.C)) g.D.Reports c.in-Some.centre applied.new.centre (lacked_records c.args.update.now.state.records)
    applied.result applied.ensures.ends (none_there c.args.ends.now.disk (rest_end applied.result) (sym c.add_rest.ensures.disk ∙ none)).1

-- the records that were applied go on as a run
pub returns-in-Some-clause-runs : goal.returns-in-Some-clause-runs
returns-in-Some-clause-runs g c none =
    let applied = c.apply_records in
    rw c.in-Some.is (centre_adds_run g.row.C c.what_is_lacked_is_to_be_stored.ensures.records c.args.update.now.state.records g.D.Reports
    c.in-Some.centre applied.new.centre applied.result applied.ensures.ends (none_there c.args.ends.now.disk (rest_end applied.result)
    (sym c.add_rest.ensures.disk ∙ none)).1 applied.ensures.limits)
