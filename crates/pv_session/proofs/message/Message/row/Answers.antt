use Rattle.std.proofs.Common.{◌++◌, length, All, ap, sym, subst, ◌∙◌}
use Rattle.std.proofs.lemmas.List.{drop-replicate}
use Rattle.pv_screen.specs.Composing.{at_left}
use Rattle.pv_cells.specs.Row.{IsCell}
use Rattle.pv_session.specs.Messages.{message_row}
use Rattle.pv_session.proofs.Rows.{message_cells}
use Rattle.pv_session.proofs.message.Message.row.Goals as goal

-- the words, and spaces after them
pub returns-clause-value : goal.returns-clause-value
unfolding message_row
returns-clause-value c =
    let words = c.words-words.result.now in
    rw c.copy_from_slice.ensures.after
    (ap (λ rest. words ++ rest) (drop-replicate (length words) 40 32) ∙ ap (at_left 40) c.words-words.ensures.words)

pub returns-clause-cells : goal.returns-clause-cells
returns-clause-cells c = subst (All IsCell) (sym (returns-clause-value c)) (message_cells c.args.self)
