use Rattle.std.proofs.Common.{◌≡◌, length, rules}
use Rattle.pv_history.proofs.CallerLemmas.{prefix_length}
use Rattle.pv_group.proofs.Shelves.{shelf_taken, batch_empty, staged_none}
use Rattle.pv_group.proofs.vault.Vault.take.Goals as goal

-- the desk has counted as many as the vault
counted : (g : _) (c : goal.After-drop-all-inside g) → c.desk.inside.taken.total ≡ length c.self.inside.taken
counted g c = search rules

pub invariant_of-self : goal.invariant_of-self
invariant_of-self g c =
    let s = c.self.invariant.0 in
    let left = rw (← c.self.view_is) at c.requires.none_left in
    let d = c.desk.invariant in (
      rw (c.catch_up-2.ensures.value, c.swap.ensures.y_after)
          (shelf_taken g.R.Rules g.D.Reports g.N.Run.opening g.N.Run.limits _ s c.desk.inside.known c.desk.inside.taken.total
          c.desk.inside.staged d.1 (counted g c) (rw c.catch_up-2.ensures.value at c.catch_up-2.ensures.prefix) left d.0.meets.count),
      search rules,
      search (rules, prefix_length c.self.inside.taken c.catch_up-2.new.self c.catch_up-2.ensures.prefix, counted g c),
    )

pub invariant_of-desk : goal.invariant_of-desk
invariant_of-desk g c =
    let s = c.self.invariant.0 in
    let left = rw (← c.self.view_is) at c.requires.none_left in
    let d = c.desk.invariant in (
      d.0,
      staged_none g.R.Rules c.desk.inside.known _ c.swap.new.x
          (search (rules, counted g c, prefix_length c.self.inside.taken c.catch_up-2.new.self c.catch_up-2.ensures.prefix))
          (rw c.swap.ensures.x_after (batch_empty g.R.Rules g.D.Reports g.N.Run.opening g.N.Run.limits _ s left)),
      d.2,
      d.3,
      rw (c.catch_up-2.ensures.same, c.catch_up.ensures.same) d.4,
      d.5,
      d.6,
      d.7,
      d.8,
    )
