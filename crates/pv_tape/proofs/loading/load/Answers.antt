use Rattle.pv_tape.proofs.Going.{tape_parts}
use Rattle.pv_tape.proofs.loading.load.Goals as goal

pub returns-clause-ends : goal.returns-clause-ends
returns-clause-ends g c = λ edits is.
    c.load_lines.ensures.ends edits
    (tape_parts c.args.text.now c.first_line.result.0.now c.first_line.result.1.now c.first_line.ensures.line c.args.head.now edits is).1

pub returns-clause-moments : goal.returns-clause-moments
returns-clause-moments g c = λ edits is.
    c.load_lines.ensures.moments edits
    (tape_parts c.args.text.now c.first_line.result.0.now c.first_line.result.1.now c.first_line.ensures.line c.args.head.now edits is).1

pub returns-clause-ahead : goal.returns-clause-ahead
returns-clause-ahead g c = λ edits is.
    c.load_lines.ensures.ahead edits
    (tape_parts c.args.text.now c.first_line.result.0.now c.first_line.result.1.now c.first_line.ensures.line c.args.head.now edits is).1
