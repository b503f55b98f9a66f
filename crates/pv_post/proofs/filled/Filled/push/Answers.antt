use Rattle.std.proofs.Common.{length, subst, sym, ◌<◌}
use Rattle.pv_post.specs.declared.filled.TheConstants.{FILLED_BYTES}
use Rattle.pv_post.proofs.Filling.{IsFilledInside-set}
use Rattle.pv_post.proofs.filled.Filled.push.Goals as goal

-- the field has room for one byte more
pub invariant_of-self : goal.invariant_of-self
invariant_of-self c =
    let room = subst (λ text. length text < FILLED_BYTES) (sym c.self.view_is) c.requires.room in
    rw c.from.ensures (
    IsFilledInside-set c.self.inside.length c.self.inside.bytes c.args.byte c.self.invariant room c.requires.taken)
