use Rattle.std.proofs.Common.{◌<◌, ◌≤◌, ◌++◌, length, map, take, refl, sym, ◌∙◌, ap, subst, arith, rules}
use Rattle.std.proofs.lemmas.Option.{IfSome_then}
use Rattle.pv_node.specs.Opening.{StopShows, IsOutside}
use Rattle.pv_node.proofs.Records.{none_of}
use Rattle.pv_node.proofs.Reading.{read_count, disk_spells, read_more, next_is, next_fits, only_outside, stop_shows}
use Rattle.pv_node.proofs.replay.take_next.Goals as goal

pub returns-then-absorb_spelled-clause-took : goal.returns-then-absorb_spelled-clause-took
returns-then-absorb_spelled-clause-took g c = λ _ records read.
    let t = c.absorb_spelled.ensures.took c.if-absorb_spelled.true in
    let at = rw c.in-Ok-Some.field-0-is at c.in-Ok-Some.ensures in
    let below : c.args.journal.now.count < (g.R.Rules.limits_of c.args.state.now).records = omega (arith, at.answer.2, c.requires.limit) in (
      t.0,
      read_more g.R.Rules g.D.Reports g.met.R.Rules.grows g.met.R.Rules.same_room g.met.R.Rules.limits_stay _ _ _ _ records t.0 (take c.in-Ok-Some.size c.next.new.into) read (at.found (map g.R.Rules.spelling records) read.journal) t.1 t.2 t.3
          (t.4 ∙ ap (g.R.Rules.after c.args.state.now t.0) c.count-number.ensures.count) below,
      λ more stands.
          let spells = at.spelled (map g.R.Rules.spelling records) (map g.R.Rules.spelling more) read.journal (disk_spells g.R.Rules g.D.Reports _ records more stands) in
          next_is g.R.Rules g.D.Reports g.met.R.Rules.one_meaning _ records more t.0 _ spells.0 stands spells.1 t.1 t.2,
      t.5,
    )

pub returns-else-absorb_spelled-clause-opens : goal.returns-else-absorb_spelled-clause-opens
returns-else-absorb_spelled-clause-opens g c = λ records more read stands meets.
    let at = rw c.in-Ok-Some.field-0-is at c.in-Ok-Some.ensures in
    let spells = at.spelled (map g.R.Rules.spelling records) (map g.R.Rules.spelling more) read.journal (disk_spells g.R.Rules g.D.Reports _ records more stands) in
    let f = next_fits g.R.Rules g.D.Reports _ _ records more _ spells.0 read.stood stands meets.room spells.1 in
    c.absorb_spelled.ensures.refused c.if-absorb_spelled.false f.0 f.1 f.2 f.3

pub returns-else-absorb_spelled-clause-shown : goal.returns-else-absorb_spelled-clause-shown
returns-else-absorb_spelled-clause-shown g c = search (rules, read_count)

pub returns-in-Ok-None-clause-ended : goal.returns-in-Ok-None-clause-ended
returns-in-Ok-None-clause-ended g c = λ same records read.
    let at = rw c.in-Ok-None.field-0-is at c.in-Ok-None.ensures in (
      record {
        journal = at.ended refl (map g.R.Rules.spelling records) read.journal;
        each = read.each;
        meets = read.meets;
        stood = read.stood;
      },
      λ more stands. none_of g.R.Rules.spelling more (at.spelled (map g.R.Rules.spelling records) (map g.R.Rules.spelling more) read.journal (disk_spells g.R.Rules g.D.Reports _ records more stands)),
    )

pub returns-in-Err-clause-opens : goal.returns-in-Err-clause-opens
returns-in-Err-clause-opens g c = λ records more read stands meets.
    let within : length (records ++ more) ≤ c.args.journal.now.limit = omega (arith, meets.count, c.requires.limit) in
    subst IsOutside (sym c.of_node.ensures.value)
    (only_outside g.R.Rules g.D.Reports _ _ records more c.next.new.into c.in-Err.fault read within c.in-Err.ensures.answer
    (c.in-Err.ensures.spelled (map g.R.Rules.spelling records) (map g.R.Rules.spelling more) read.journal (disk_spells g.R.Rules g.D.Reports _ records more stands)))

pub returns-in-Err-clause-shown : goal.returns-in-Err-clause-shown
returns-in-Err-clause-shown g c = λ records read.
    IfSome_then _ (c.in-Err.ensures.shown (map g.R.Rules.spelling records) read.journal) (λ text shows.
    let r : StopShows g.R.Rules (g.R.Rules.limits_of c.args.state.now) text records c.args.state.now c.of_node.result =
    subst (λ fault. StopShows g.R.Rules (g.R.Rules.limits_of c.args.state.now) text records c.args.state.now fault) (sym c.of_node.ensures.value)
    (stop_shows g.R.Rules g.D.Reports c.args.journal.now (g.R.Rules.limits_of c.args.state.now) c.args.state.now records text c.next.new.into c.in-Err.fault read c.requires.limit c.in-Err.ensures.answer shows) in r)
