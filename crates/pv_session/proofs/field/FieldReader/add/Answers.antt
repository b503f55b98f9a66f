use Rattle.std.proofs.Common.{inl, inr, sym, ◌∙◌}
use Rattle.std.specs.Prelude.{length}
use Rattle.std.proofs.lemmas.Bool.Decides.{leb_tells}
use Rattle.pv_session.proofs.FieldKeys.{added-none, added-one, added-full}
use Rattle.pv_session.proofs.field.FieldReader.add.Goals as goal

-- a byte that the field does not take
pub returns-then-not-takes_byte-clause-keys : goal.returns-then-not-takes_byte-clause-keys
returns-then-not-takes_byte-clause-keys c =
    let reading = c.self.inside in
    rw (← c.self.view_is)
    (added-none reading.field reading.is_full reading.keyed c.self.invariant.bytes c.self.invariant.fits c.args.byte
    (sym c.takes_byte.ensures ∙ c.if-not-takes_byte.true))

-- one for which there is a cell
pub returns-then-has_room-clause-keys : goal.returns-then-has_room-clause-keys
returns-then-has_room-clause-keys c =
    let reading = c.self.inside in
    let room = rw (← c.self.view_is) at c.has_room.ensures in
    rw (← c.self.view_is)
    (c.push.ensures ∙ added-one reading.field reading.is_full reading.keyed c.self.invariant.bytes c.self.invariant.fits c.args.byte
    (sym c.takes_byte.ensures ∙ c.if-not-takes_byte.false) (room.0 c.if-has_room.true))

-- one for which there is none
pub returns-else-has_room-clause-keys : goal.returns-else-has_room-clause-keys
returns-else-has_room-clause-keys c =
    let reading = c.self.inside in
    let room = rw (← c.self.view_is) at c.has_room.ensures in
    rw (← c.self.view_is)
    (added-full reading.field reading.is_full reading.keyed c.self.invariant.bytes c.self.invariant.fits c.args.byte
    (sym c.takes_byte.ensures ∙ c.if-not-takes_byte.false)
    (elim (leb_tells reading.field.length (length reading.keyed)) [
      | inl most ↦ most.1
      | inr less ↦ let never = sym (room.1 less.1) ∙ c.if-has_room.false in absurd cc
    ]))
