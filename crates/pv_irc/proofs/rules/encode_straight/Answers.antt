use Rattle.std.proofs.Common.{arith}
use Rattle.pv_fields.proofs.CallerLemmas.{appends_all, never_fails}
use Rattle.pv_irc.specs.Record.{centre_bytes}
use Rattle.pv_irc.specs.Lengths.{IsBody-centre}
use Rattle.pv_irc.proofs.rules.encode_straight.Goals as goal

pub returns-clause-ok : goal.returns-clause-ok
returns-clause-ok c =
    let fits = (IsBody-centre c.args.rec.now c.requires.within).1 in
    never_fails c.encode.result c.args.out.now c.encode.new.out (centre_bytes c.args.rec.now) c.encode.ensures
    (omega (arith, c.requires.room, fits))

pub returns-clause-appends : goal.returns-clause-appends
returns-clause-appends c =
    let fits = (IsBody-centre c.args.rec.now c.requires.within).1 in
    appends_all c.encode.result c.args.out.now c.encode.new.out (centre_bytes c.args.rec.now) c.encode.ensures
    (omega (arith, c.requires.room, fits))
