use Rattle.std.proofs.Common.{◌++◌, arith, rules, sym, ap, ◌∙◌}
use Rattle.std.specs.Int.{w64}
use Rattle.std.proofs.lemmas.Nat.{be_bytes_8}
use Rattle.pv_fields.specs.Reading.{number_at}
use Rattle.pv_fields.proofs.Readings.{Reads-eight}
use Rattle.pv_fields.proofs.reading.In.u64.Goals as goal

-- the bytes that were taken are those of the number that they are
pub returns-clause-found : goal.returns-clause-found
returns-clause-found c =
    c.in_ok-bytes.ensures.found
    ∙ ap (λ taken. taken ++ c.chunk.new.self)
    (sym (be_bytes_8 _ c.from_be_bytes.result (omega arith) (search rules) c.from_be_bytes.ensures))

pub returns-clause-gives : goal.returns-clause-gives
returns-clause-gives c =
    ap (number_at w64) (returns-clause-found c) ∙ Reads-eight.again c.from_be_bytes.result c.chunk.new.self tt (omega arith)
