use Rattle.pv_network.proofs.network.Network.update_request.Goals as goal

-- the editor's line says what the choice says
pub returns-in-Edit-clause-request : goal.returns-in-Edit-clause-request
returns-in-Edit-clause-request c =
    let asked = rw c.bytes.ensures at c.line_request.ensures.request in
    rw c.in-Edit.is (asked.0, asked.1, asked.2)
