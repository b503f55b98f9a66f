use Rattle.std.{proofs.Common.take, specs.Prelude.flat_map}
use Rattle.pv_frame.proofs.Vocabulary.{Appends, route_bytes}
use Rattle.pv_frame.proofs.frame.put_routes.Given as goal

-- the routes so far are appended
abbrev pub invariant-loop-route : goal.invariant-loop-route
invariant-loop-route l = Appends l.initial.out l.out (flat_map route_bytes (take l.route-index l.routes))
