use Rattle.std.proofs.Common.{◌<◌, sym, arith}
use Rattle.pv_service.proofs.Serving.{serves_none, serves_more, accepted_so, ends_at_disk}
use Rattle.pv_service.proofs.editor_stand.serve_lines.Goals as goal

pub loop-init : goal.loop-init
loop-init g c = serves_none _ _ _ c.args.port.now.pass _

-- the door's count has not come to its end
pub serve_next-requires-clause-room : goal.serve_next-requires-clause-room
serve_next-requires-clause-room g c = omega (arith, accepted_so _ _ _ _ _ _ _ _ _ c.loop.invariant, c.requires.room, c.loop-test.true, c.ranges.calls.fits)

-- the disk failed in this one
pub returns-in-Some : goal.returns-in-Some
returns-in-Some g c =
    let left : c.loop.counter < c.args.calls = omega (arith, c.loop-test.true) in
    ends_at_disk _ _ _ _ _ _ _ _ _ c.loop.invariant c.args.calls left _ _ c.in-Ok.end c.in-Some.failure _ c.in-Ok.ensures.served
    (sym c.in-Some.ensures.failure) c.failure_in.ensures.memory

pub loop-preserved : goal.loop-preserved
loop-preserved g c =
    serves_more _ _ _ _ _ _ _ _ _ c.loop.invariant _ _ c.in-Ok.end _ c.in-Ok.ensures.served
    (sym c.in_default-failure_in.ensures.failure) c.failure_in.ensures.memory
