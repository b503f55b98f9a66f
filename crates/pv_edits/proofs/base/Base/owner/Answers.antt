use Rattle.std.proofs.Common.{rules, ◌≡◌, sym, ap, ◌∙◌}
use Rattle.pv_account.specs.Profile.{Profile}
use Rattle.pv_edits.specs.declared.base.Base.TheInside.{Inside}
use Rattle.pv_edits.specs.Room.{lease_count}
use Rattle.pv_edits.proofs.Leases.{owner-none}
use Rattle.pv_edits.proofs.base.Base.owner.Goals as goal

-- no root is leased
pub returns-then-self-eq0 : goal.returns-then-self-eq0
returns-then-self-eq0 c =
    let base = c.self.inside in
    let none : base.leased ≡ 0 = search rules in
    let all : lease_count base.records.items ≡ 0 = sym c.self.invariant.leases_counted ∙ none in
    rw (← c.self.view_is) (ap (λ (b : Inside). b.operator.number) c.self-inside.view_is
    ∙ ap (λ (p : Profile). p.number) c.self.invariant.opening ∙ sym (owner-none base.records.items c.args.page all))
