use Rattle.std.proofs.{Common.{[], map, None, arith, ◌∙◌, ap}, lemmas.{Grind.common_steps, List.{same_lists, length-map, get_or_default}}}
use Rattle.std.proofs.Math.ListN.{get_or-map}
use Rattle.pv_frame.specs.Codes.{route_of}
use Rattle.pv_frame.proofs.raw.routes_of.Goals as goal

-- each route is that of its four bytes
pub returns : goal.returns
returns c =
    let chunks = c.as_chunks.result.0.now in
    let routes = c.loop-digit.routes in
    same_lists routes (map route_of chunks) (grind (arith, common_steps, length-map chunks route_of)) (λ k d within.
    get_or_default routes k d None within
    ∙ grind (arith, length-map chunks route_of, get_or-map route_of chunks k [], get_or_default (map route_of chunks) k (route_of []) d))
    ∙ ap (map route_of) c.as_chunks.ensures.front
