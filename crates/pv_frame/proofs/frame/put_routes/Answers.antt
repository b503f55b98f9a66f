use Rattle.std.proofs.{Common.arith, lemmas.Grind.common_steps}
use Rattle.pv_fields.proofs.CallerLemmas.{room_for_one}
use Rattle.pv_frame.{specs.Codes.route_bytes, proofs.Lengths.length-route}
use Rattle.pv_frame.proofs.frame.put_routes.Goals as goal

pub put_run-requires : goal.put_run-requires
put_run-requires c =
    grind (arith, common_steps, length-route, room_for_one 4 route_bytes length-route c.args.routes.now c.loop-route.route-index)
