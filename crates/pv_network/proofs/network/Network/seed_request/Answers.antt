use Rattle.std.proofs.Common.{ap}
use Rattle.pv_network.specs.Cutting.{request_of_edit}
use Rattle.pv_network.proofs.network.Network.seed_request.Goals as goal

-- it is made of the parts of the world's
pub returns-clause-request : goal.returns-clause-request
returns-clause-request c = λ w stands. ap request_of_edit (c.seeding-editor.ensures w stands)
