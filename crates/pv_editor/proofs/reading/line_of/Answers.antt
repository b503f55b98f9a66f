use Rattle.pv_editor.proofs.reading.line_of.Goals as goal

pub returns-clause-only : goal.returns-clause-only
returns-clause-only c = λ line is. c.line_of_words.ensures.only line is.says
