use Rattle.std.proofs.Common.{sym, ◌∙◌}
use Rattle.pv_tape.proofs.Reading.{head-some, head-none}
use Rattle.pv_tape.proofs.head.head_of.Goals as goal

pub returns-then-is_tape_word : goal.returns-then-is_tape_word
returns-then-is_tape_word c =
    head-some c.args.text.now c.split_word.result.0.now c.split_word.result.1.now c.split_word.ensures.found c.split_word.ensures.only
    (sym c.is_tape_word.ensures ∙ c.if-is_tape_word.true) c.head_after.result c.head_after.ensures

pub returns : goal.returns
returns c =
    head-none c.args.text.now c.split_word.result.0.now c.split_word.result.1.now c.split_word.ensures.found c.split_word.ensures.only
    (sym c.is_tape_word.ensures ∙ c.if-is_tape_word.false)
