use Rattle.std.proofs.Common.{length, subst, sym, ◌<◌}
use Rattle.pv_post.specs.declared.fields.TheConstants.{MAX_FIELDS}
use Rattle.pv_post.proofs.Filling.{AreFieldsInside-set}
use Rattle.pv_post.proofs.fields.Fields.push.Goals as goal

-- there is room for one field more
pub invariant_of-self : goal.invariant_of-self
invariant_of-self c =
    let room = subst (λ fields. length fields < MAX_FIELDS) (sym c.self.view_is) c.requires in
    rw (c.from.ensures, c.copy.ensures.same) (
    AreFieldsInside-set c.self.inside.count c.self.inside.places c.args.filled c.self.invariant room c.copy.ensures.filled)
