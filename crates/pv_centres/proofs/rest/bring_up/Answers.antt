use Rattle.std.proofs.Common.{refl}
use Rattle.pv_udc.specs.contracts.rules.UdcRulesRules.TheImpl as udc
use Rattle.pv_centres.proofs.Bringing.{adds_trans, if_some_later}
use Rattle.pv_centres.proofs.Carrying.{taken_later}
use Rattle.pv_centres.proofs.Continuing.{run_trans}
use Rattle.pv_centres.proofs.rest.bring_up.Goals as goal

-- records were added, centre by centre
pub returns-clause-records : goal.returns-clause-records
returns-clause-records g c =
    let first = c.take_from in
    let second = c.take_from-2 in
    let third = c.take_from-3 in
    let fourth = c.take_from-4 in
    let trans = adds_trans udc.ghosts g.D.Reports in
    trans c.args.update.now first.new.update fourth.new.update first.ensures.records
    (trans first.new.update second.new.update fourth.new.update second.ensures.records
    (trans second.new.update third.new.update fourth.new.update third.ensures.records fourth.ensures.records))

-- what was taken up stays so while the items of later centres are
pub returns-clause-first : goal.returns-clause-first
returns-clause-first g c none =
    let first = c.take_from in
    let second = c.take_from-2 in
    let third = c.take_from-3 in
    let fourth = c.take_from-4 in
    let trans = adds_trans udc.ghosts g.D.Reports in
    taken_later udc.ghosts g.D.Reports (λ list. refl) (λ list edits stands. stands)
    c.args.update.now first.new.update fourth.new.update 0 c.args.first.now first.new.ends.no_room fourth.new.ends.no_room
    first.ensures.records
    (trans first.new.update second.new.update fourth.new.update second.ensures.records
    (trans second.new.update third.new.update fourth.new.update third.ensures.records fourth.ensures.records))
    (λ noted. fourth.ensures.noted (third.ensures.noted (second.ensures.noted noted)))
    (first.ensures.taken (second.ensures.disk (third.ensures.disk (fourth.ensures.disk none))))

pub returns-clause-second : goal.returns-clause-second
returns-clause-second g c none =
    let first = c.take_from in
    let second = c.take_from-2 in
    let third = c.take_from-3 in
    let fourth = c.take_from-4 in
    let trans = adds_trans udc.ghosts g.D.Reports in
    taken_later udc.ghosts g.D.Reports (λ list. refl) (λ list edits stands. stands)
    c.args.update.now second.new.update fourth.new.update 1 c.args.second.now second.new.ends.no_room fourth.new.ends.no_room
    (trans c.args.update.now first.new.update second.new.update first.ensures.records second.ensures.records)
    (trans second.new.update third.new.update fourth.new.update third.ensures.records fourth.ensures.records)
    (λ noted. fourth.ensures.noted (third.ensures.noted noted))
    (second.ensures.taken (third.ensures.disk (fourth.ensures.disk none)))

pub returns-clause-third : goal.returns-clause-third
returns-clause-third g c none =
    let first = c.take_from in
    let second = c.take_from-2 in
    let third = c.take_from-3 in
    let fourth = c.take_from-4 in
    let trans = adds_trans udc.ghosts g.D.Reports in
    taken_later udc.ghosts g.D.Reports (λ list. refl) (λ list edits stands. stands)
    c.args.update.now third.new.update fourth.new.update 2 c.args.third.now third.new.ends.no_room fourth.new.ends.no_room
    (trans c.args.update.now first.new.update third.new.update first.ensures.records
    (trans first.new.update second.new.update third.new.update second.ensures.records third.ensures.records))
    fourth.ensures.records fourth.ensures.noted (third.ensures.taken (fourth.ensures.disk none))

-- nothing is in hand since the first items were taken up
pub returns-clause-rests : goal.returns-clause-rests
returns-clause-rests g c none =
    let second = c.take_from-2.ensures in
    let third = c.take_from-3.ensures in
    let fourth = c.take_from-4.ensures in
    if_some_later _ _ _
    (λ hand. fourth.kept none (third.kept (fourth.disk none) (second.kept (third.disk (fourth.disk none)) hand)))
    (c.take_from.ensures.rests (second.disk (third.disk (fourth.disk none))))

-- the items of each centre go on after those of the earlier ones
pub returns-clause-runs : goal.returns-clause-runs
returns-clause-runs g c none =
    let first = c.take_from in
    let second = c.take_from-2 in
    let third = c.take_from-3 in
    let fourth = c.take_from-4 in
    let trans = run_trans udc.ghosts g.D.Reports in
    let none3 = fourth.ensures.disk none in
    let none2 = third.ensures.disk none3 in
    trans c.args.update.now first.new.update fourth.new.update first.ensures.records.limits
    (first.ensures.runs (second.ensures.disk none2))
    (trans first.new.update second.new.update fourth.new.update second.ensures.records.limits (second.ensures.runs none2)
    (trans second.new.update third.new.update fourth.new.update third.ensures.records.limits (third.ensures.runs none3)
    (fourth.ensures.runs none)))
