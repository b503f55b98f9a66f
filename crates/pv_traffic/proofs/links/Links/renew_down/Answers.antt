use Rattle.std.proofs.Common.{arith, ◌∙◌, sym}
use Rattle.std.proofs.lemmas.List.{length-map}
use Rattle.pv_link.specs.Sending.{new_end}
use Rattle.pv_traffic.specs.Link.{places_with_end}
use Rattle.pv_traffic.specs.declared.way.Way.TheVariants as ways
use Rattle.pv_traffic.proofs.Rows.{links_renewed, count_renewed, within_renewed}
use Rattle.pv_traffic.proofs.links.Links.renew_down.Goals as goal

-- the places are where they were
pub invariant_of-self : goal.invariant_of-self
invariant_of-self c =
    let links = c.self.inside.links.items in
    rw c.renew_all.ensures (
      within_renewed c.self.inside.packets links new_end c.self.invariant.0,
      c.self.invariant.1 ∙ sym (count_renewed links new_end),
      omega (arith, length-map links (λ here. places_with_end ways.Down here new_end), c.self.invariant.2),
    )

pub returns : goal.returns
returns c = rw (← c.self.view_is, c.renew_all.ensures) (links_renewed c.self.inside.packets c.self.inside.links.items new_end)
