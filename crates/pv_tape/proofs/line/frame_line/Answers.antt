use Rattle.pv_tape.proofs.Reading.{frame_line-some, frame_line-none}
use Rattle.pv_tape.proofs.line.frame_line.Goals as goal

pub returns-in-Some : goal.returns-in-Some
returns-in-Some c =
    frame_line-some c.args.text.now c.in-Some.said c.tape_line.result c.in-Some.ensures.found c.in-Some.ensures.only c.tape_line.ensures

pub returns-in-None : goal.returns-in-None
returns-in-None c = frame_line-none c.args.text.now c.in-None.ensures.only
