use Rattle.std.proofs.Common.{◌≡◌, ◌++◌, take, drop}
use Rattle.std.specs.Prelude.{map}
use Rattle.pv_link.specs.Sending.{new_end}
use Rattle.pv_traffic.specs.Link.{places_with_end}
use Rattle.pv_traffic.specs.declared.way.Way.TheVariants as ways
use Rattle.pv_traffic.proofs.links.renew_all.Given as goal

-- the ends of those before this one are new
abbrev pub invariant-loop-link : goal.invariant-loop-link
invariant-loop-link l =
    l.link-items ≡ map (λ here. places_with_end ways.Down here new_end) (take l.link-index l.fn.links.items)
    ++ drop l.link-index l.fn.links.items
