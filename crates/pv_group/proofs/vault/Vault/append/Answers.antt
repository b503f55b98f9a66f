use Rattle.std.proofs.Common.{inr, List, ◌++◌, arith, length, ap, sym, subst}
use Rattle.pv_journal.specs.Journal.{Holds, HoldsInHand, LeavesOnly}
use Rattle.pv_journal.specs.Text.{SpellsEither}
use Rattle.pv_journal.proofs.CallerLemmas.{spends_most}
use Rattle.pv_group.specs.Vault.{all_bodies}
use Rattle.pv_group.proofs.Moments.{leaves}
use Rattle.pv_group.proofs.Shelves.{shelf_stored, shelf_kept, at_rest_holds, first_packed, some_entries, of_batch, never_full, bodies_count}
use Rattle.pv_group.proofs.vault.Vault.append.Goals as goal

pub invariant_of-self : goal.invariant_of-self
invariant_of-self g c =
    let s = c.self.invariant.0 in
    let some = rw (← c.self.view_is) at c.requires.some in
    let rest = rw (← c.self.view_is) at c.requires.at_rest in
    let one = first_packed g.R.Rules g.D.Reports g.N.Run.opening g.N.Run.limits _ s some in
    let bodies = all_bodies g.R.Rules g.N.Run.opening c.self.inside.stored in
    let a = c.in-Ok.ensures.appended one.0 one.1 one.3 in (
      rw c.copy.ensures
          (shelf_stored g.R.Rules g.D.Reports g.N.Run.opening g.N.Run.limits _ s c.append_all.new.self c.clear.new.self
          c.append_all.ensures.limit c.clear.ensures
          (subst (λ (l : List (List _)). Holds g.D.Reports c.append_all.new.self (bodies ++ l)) (sym one.2)
          (a.stored bodies (at_rest_holds g.R.Rules g.D.Reports g.N.Run.opening _ _ s.group s.kept rest)))),
      c.self.invariant.1,
      c.self.invariant.2,
    )

pub invariant_of-self-in-Err-Disk : goal.invariant_of-self-in-Err-Disk
invariant_of-self-in-Err-Disk g c =
    let s = c.self.invariant.0 in
    let some = rw (← c.self.view_is) at c.requires.some in
    let rest = rw (← c.self.view_is) at c.requires.at_rest in
    let one = first_packed g.R.Rules g.D.Reports g.N.Run.opening g.N.Run.limits _ s some in
    let bodies = all_bodies g.R.Rules g.N.Run.opening c.self.inside.stored in
    let a = rw c.in-Err-Disk.field-0-is at c.in-Err-Disk.ensures.refused one.0 one.1 one.3 in (
      shelf_kept g.R.Rules g.D.Reports g.N.Run.opening g.N.Run.limits _ s c.append_all.new.self c.append_all.ensures.limit
          (inr (
            some_entries g.R.Rules g.D.Reports g.N.Run.opening g.N.Run.limits _ s some,
            subst (HoldsInHand g.D.Reports c.append_all.new.self bodies) (sym one.2)
                (a.holds bodies (at_rest_holds g.R.Rules g.D.Reports g.N.Run.opening _ _ s.group s.kept rest)),
          )),
      c.self.invariant.1,
      c.self.invariant.2,
    )

-- there is room for all that is taken
pub unreachable-requires : goal.unreachable-requires
unreachable-requires g c =
    let s = c.self.invariant.0 in
    let some = rw (← c.self.view_is) at c.requires.some in
    let rest = rw (← c.self.view_is) at c.requires.at_rest in
    let one = first_packed g.R.Rules g.D.Reports g.N.Run.opening g.N.Run.limits _ s some in
    let a = rw c.in-Err-Full.field-0-is at c.in-Err-Full.ensures.refused one.0 one.1 one.3 in
    omega (
      arith,
      a.full,
      never_full g.R.Rules g.D.Reports g.N.Run.opening g.N.Run.limits _ s rest,
      bodies_count g.R.Rules s.group,
      ap length one.2,
    )

pub returns-in-Ok-clause-moments : goal.returns-in-Ok-clause-moments
returns-in-Ok-clause-moments g c =
    rw (← c.self.view_is)
    (leaves g.R.Rules g.D.Reports g.N.Run.opening g.N.Run.limits _ c.self.invariant.0 c.append_all.new.self.disk c.self.inside.taken
    (of_batch g.R.Rules g.D.Reports g.N.Run.opening g.N.Run.limits _ c.self.invariant.0 (rw (← c.self.view_is) at c.requires.some)
    (λ bodies hand. LeavesOnly g.D.Reports c.self.inside.journal.disk c.append_all.new.self.disk (SpellsEither bodies hand))
    c.append_all.ensures.moments (rw (← c.self.view_is) at c.requires.at_rest)))

pub returns-in-Err-Disk-clause-moments : goal.returns-in-Err-Disk-clause-moments
returns-in-Err-Disk-clause-moments g c =
    rw (← c.self.view_is)
    (leaves g.R.Rules g.D.Reports g.N.Run.opening g.N.Run.limits _ c.self.invariant.0 c.append_all.new.self.disk c.self.inside.taken
    (of_batch g.R.Rules g.D.Reports g.N.Run.opening g.N.Run.limits _ c.self.invariant.0 (rw (← c.self.view_is) at c.requires.some)
    (λ bodies hand. LeavesOnly g.D.Reports c.self.inside.journal.disk c.append_all.new.self.disk (SpellsEither bodies hand))
    c.append_all.ensures.moments (rw (← c.self.view_is) at c.requires.at_rest)))

pub returns-in-Ok-clause-spends : goal.returns-in-Ok-clause-spends
returns-in-Ok-clause-spends g c =
    rw (← c.self.view_is) (spends_most g.D.Reports (omega arith) (λ no. cc no) c.in-Ok.ensures.spends)

pub returns-in-Err-Disk-clause-spends : goal.returns-in-Err-Disk-clause-spends
returns-in-Err-Disk-clause-spends g c =
    rw (← c.self.view_is)
    (spends_most g.D.Reports (omega arith) (λ fails. tt) (rw c.in-Err-Disk.field-0-is at c.in-Err-Disk.ensures.spends))

pub returns-in-Ok-clause-at_rest : goal.returns-in-Ok-clause-at_rest
returns-in-Ok-clause-at_rest g c =
    let some = rw (← c.self.view_is) at c.requires.some in
    let one = first_packed g.R.Rules g.D.Reports g.N.Run.opening g.N.Run.limits _ c.self.invariant.0 some in
    (c.in-Ok.ensures.appended one.0 one.1 one.3).at_rest
