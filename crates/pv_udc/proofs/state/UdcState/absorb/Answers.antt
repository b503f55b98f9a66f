use Rattle.std.proofs.Common.{◌≡◌, ◌<◌, length, sym, ap, ◌∙◌, arith}
use Rattle.pv_edits.specs.Standing.{with_record_at}
use Rattle.pv_edits.specs.declared.base.Base.{Base}
use Rattle.pv_udc.proofs.Growing.{IsKeptList-push}
use Rattle.pv_udc.proofs.state.UdcState.absorb.Goals as goal
use Rattle.pv_udc.proofs.state.UdcState.absorb.Goals.{After-push-2}

-- the place is the count
counted : (c : After-push-2) → c.args.place ≡ c.self.inside.count
counted c =
    let place : c.args.place ≡ length c.self.inside.base.records = rw (← c.self.view_is) at c.requires.next in
    place ∙ sym c.self.invariant.counted

-- the base has the record at the end
after : (c : After-push-2) → c.absorb.new.self ≡ with_record_at c.self.inside.base c.args.rec.now c.self.inside.count
after c = c.absorb.ensures ∙ ap (with_record_at c.self.inside.base c.args.rec.now) (counted c)

pub invariant_of-self : goal.invariant_of-self
invariant_of-self c =
    let within = rw (← c.self.view_is) at c.requires.within in
    let inside = c.self.inside in
    let kept = c.self.invariant in
    let below : inside.count < inside.limits.records = omega (arith, within, counted c) in
    let charged = c.push.ensures inside.limits.records inside.base.records kept.charged (omega (arith, below, kept.counted)) in
    let place : c.args.place ≡ length inside.base.records = counted c ∙ kept.counted in
    let replied = c.push-2.ensures inside.limits.records inside.base.records kept.replied place in
    rw (after c) (IsKeptList-push inside.base inside.limits inside.count inside.counts c.count_item.new.counts
    inside.charges c.push.new.self inside.replies c.push-2.new.self
    c.args.rec.now kept below c.count_item.ensures charged replied)

pub returns : goal.returns
returns c = rw (← c.self.view_is) (ap (λ (b : Base). record { limits = c.self.inside.limits; records = b.records }) (after c))
