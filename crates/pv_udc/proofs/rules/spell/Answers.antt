use Rattle.std.proofs.Common.{◌≡◌, length, ap, ◌∙◌, arith, rules}
use Rattle.std.proofs.lemmas.List.{take_at}
use Rattle.pv_fields.specs.Out.{room_of, Appends}
use Rattle.pv_fields.proofs.CallerLemmas.{slice_after, appends_all}
use Rattle.pv_edits.specs.Record.{record_bytes}
use Rattle.pv_udc.specs.Sizes.{IsBody-record}
use Rattle.pv_udc.proofs.rules.spell.Goals as goal
use Rattle.pv_udc.proofs.rules.spell.Goals.{After-written}

-- the spelling of the record was written
whole : (c : After-written) → Appends c.new-out.result c.encode.new.out (record_bytes c.args.edit.now)
whole c =
    let room : room_of c.new-out.result ≡ 2048 = ap length c.new-out.ensures.rest ∙ c.told-into in
    let fits = (IsBody-record c.args.edit.now c.requires).1 in
    appends_all c.encode.result c.new-out.result c.encode.new.out (record_bytes c.args.edit.now) c.encode.ensures
    (omega (arith, room, fits))

pub shape_of-into : goal.shape_of-into
shape_of-into c = let slice = (whole c).slice in search rules

pub returns-clause-within : goal.returns-clause-within
returns-clause-within c =
    let size = (slice_after c.new-out.result c.encode.new.out _ c.new-out.ensures.empty (whole c)).1 in
    let fits = (IsBody-record c.args.edit.now c.requires).1 in
    omega (arith, size, fits, c.written.ensures.count)

pub returns-clause-spelled : goal.returns-clause-spelled
returns-clause-spelled c =
    let after = slice_after c.new-out.result c.encode.new.out _ c.new-out.ensures.empty (whole c) in
    let bytes = record_bytes c.args.edit.now in
    let size : length bytes ≡ c.written.result = omega (arith, after.1, c.written.ensures.count) in
    rw after.0 (take_at bytes _ c.written.result size)
