use Rattle.std.proofs.Common.{◌≡◌, Ok, ap, ◌∙◌}
use Rattle.pv_tape.proofs.Going.{tape_parts, bad_head}
use Rattle.pv_tape.proofs.checking.check_tape.Goals as goal

pub returns-in-Some-clause-only : goal.returns-in-Some-clause-only
returns-in-Some-clause-only c = λ head edits is.
    let parts = tape_parts c.args.text.now c.first_line.result.0.now c.first_line.result.1.now c.first_line.ensures.line head edits is in
    let same : c.in-Some.head ≡ head = cc (c.in-Some.ensures.only head parts.0) in
    c.check_rest.ensures.only edits parts.1 ∙ ap Ok same

pub returns-in-None-clause-only : goal.returns-in-None-clause-only
returns-in-None-clause-only c = λ head edits is.
    let parts = tape_parts c.args.text.now c.first_line.result.0.now c.first_line.result.1.now c.first_line.ensures.line head edits is in
    absurd (let none = c.in-None.ensures.only head parts.0 in cc)

pub returns-in-None-clause-bad : goal.returns-in-None-clause-bad
returns-in-None-clause-bad c =
    bad_head c.args.text.now c.first_line.result.0.now c.first_line.result.1.now c.first_line.ensures.line
    (λ head is. absurd (let none = c.in-None.ensures.only head is in cc))
