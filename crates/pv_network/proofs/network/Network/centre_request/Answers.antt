use Rattle.std.proofs.Common.{ap, ◌∙◌}
use Rattle.std.specs.Prelude.{option_map}
use Rattle.pv_network.specs.Calls.{Calls, call_in}
use Rattle.pv_wishes.specs.Wishes.{request_for}
use Rattle.pv_network.specs.Cutting.{wish_of}
use Rattle.pv_network.proofs.Calling.{calls_there}
use Rattle.pv_network.proofs.network.Network.centre_request.Goals as goal

-- the call at the port is the world's
pub returns-in-Store-clause-request : goal.returns-in-Store-clause-request
returns-in-Store-clause-request c = λ w stands.
    let possible = rw c.in-Store.is at c.requires in
    let calls = calls_there _ w (rw (← c.self.view_is) at stands) c.in-Store.centre c.index.result.now
    (rw (← c.self.view_is) at possible.0) c.index.ensures in
    rw c.in-Store.is (c.request.ensures.request
    ∙ ap (λ (calls : Calls). option_map request_for (wish_of (call_in calls c.in-Store.port))) calls)
