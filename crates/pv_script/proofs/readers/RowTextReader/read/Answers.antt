use Rattle.std.proofs.Common.{ap, ◌∙◌}
use Rattle.std.specs.Result.{result_ok}
use Rattle.pv_script.proofs.readers.RowTextReader.read.Goals as goal

-- the row that the text spells is the one outcome
pub returns-clause-only : goal.returns-clause-only
returns-clause-only c = λ row spells. c.ok.ensures.value ∙ ap result_ok (c.row_of.ensures.only row spells.1)
