use Rattle.pv_service.proofs.rows.run_centre.Goals as goal

-- its callers were served beside its carrier
pub returns-clause-served : goal.returns-clause-served
returns-clause-served g c =
    let other = c.carry_beside.ensures.other in
    rw (← other.left, ← other.argument_is) other.call
