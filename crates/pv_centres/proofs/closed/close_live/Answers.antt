use Rattle.pv_centres.proofs.closed.close_live.Goals as goal

-- its node is given back
pub returns-in-Ok : goal.returns-in-Ok
returns-in-Ok g c = (c.in-Ok.closed.asked, c.in-Ok.ensures.closed)

-- or its disk is
pub returns-in-Err : goal.returns-in-Err
returns-in-Err g c = c.in-Err.ensures.left
