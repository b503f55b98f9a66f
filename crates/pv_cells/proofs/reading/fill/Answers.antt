use Rattle.std.proofs.Common.{rules}
use Rattle.pv_fields.proofs.{CallerLemmas.{IsPadded-set, take-set}, Readings.many_more}
use Rattle.pv_cells.proofs.reading.fill.Goals as goal

-- one more cell is read and put into the row
pub loop-count-preserved : goal.loop-count-preserved
loop-count-preserved c = search (rules, IsPadded-set, many_more, take-set)
