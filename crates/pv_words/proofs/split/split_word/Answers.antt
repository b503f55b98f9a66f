use Rattle.pv_words.proofs.Splitting.{one_split}
use Rattle.pv_words.proofs.split.split_word.Goals as goal

pub returns-clause-only : goal.returns-clause-only
returns-clause-only c = λ word tail is. one_split c.args.line.now _ _ word tail c.split_of.ensures is
