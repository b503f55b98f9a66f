use Rattle.std.proofs.Common.{◌≡◌}
use Rattle.std.specs.Prelude.{replicate}
use Rattle.pv_traffic.specs.Link.{no_places}
use Rattle.pv_traffic.proofs.links.Links.open.Given as goal

-- as many as were counted are new
abbrev pub invariant-loop : goal.invariant-loop
invariant-loop l = l.links.items ≡ replicate l.counter no_places
