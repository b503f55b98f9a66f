use Rattle.std.proofs.Common.{arith}
use Rattle.pv_fields.proofs.CallerLemmas.{appends_all, never_fails}
use Rattle.pv_edits.specs.Record.{record_bytes}
use Rattle.pv_udc.specs.Sizes.{IsBody-record}
use Rattle.pv_udc.proofs.rules.encode_straight.Goals as goal

pub returns-clause-ok : goal.returns-clause-ok
returns-clause-ok c =
    let fits = (IsBody-record c.args.edit.now c.requires.within).1 in
    never_fails c.encode.result c.args.out.now c.encode.new.out (record_bytes c.args.edit.now) c.encode.ensures
    (omega (arith, c.requires.room, fits))

pub returns-clause-appends : goal.returns-clause-appends
returns-clause-appends c =
    let fits = (IsBody-record c.args.edit.now c.requires.within).1 in
    appends_all c.encode.result c.args.out.now c.encode.new.out (record_bytes c.args.edit.now) c.encode.ensures
    (omega (arith, c.requires.room, fits))
