use Rattle.std.proofs.Common.{◌≡◌, take, arith, refl, ◌∙◌}
use Rattle.std.specs.Int.{w16}
use Rattle.std.proofs.lemmas.Result.{err_from_is_err_and}
use Rattle.pv_fields.specs.Reading.{times, number_at}
use Rattle.pv_fields.proofs.CallerLemmas.{IsPadded-set, take-set}
use Rattle.pv_fields.proofs.Readings.{times_more, times_ends, times_done}
use Rattle.pv_account.proofs.groups.read_numbers.Goals as goal

-- the next number cannot be read
pub returns-in_err-numbers-clause-gives : goal.returns-in_err-numbers-clause-gives
returns-in_err-numbers-clause-gives g c =
    let p = err_from_is_err_and c.from_residual.result c.from_residual.ensures.1 in
    let i = c.loop-i.i in
    rw p.1 (
    times_ends (number_at w16) (take i c.loop-i.numbers) c.args.count i c.loop-i.bytes (times (number_at w16) c.args.count c.args.bytes.now)
    (omega (arith, c.loop-i-test.true, c.from-i-end.ensures)) c.in_err-numbers.ensures.gives c.loop-i.invariant.read)

-- one number more is read
pub loop-i-preserved : goal.loop-i-preserved
loop-i-preserved g c =
    let i = c.loop-i.i in
    let number = c.in_ok-numbers.field-0 in
    let padded = c.loop-i.invariant.padded in
    record {
      padded = IsPadded-set 0 g.row.N i c.loop-i.numbers padded number (omega (
        arith,
        c.requires,
        c.loop-i-test.true,
        c.from-i-end.ensures,
      ));
      read = rw (take-set 0 g.row.N i c.loop-i.numbers padded number (omega (arith, c.requires, c.loop-i-test.true, c.from-i-end.ensures)))
          (times_more (number_at w16) (take i c.loop-i.numbers) c.args.count i c.loop-i.bytes number c.u16.new.self
          (times (number_at w16) c.args.count c.args.bytes.now) (omega (arith, c.loop-i-test.true, c.from-i-end.ensures))
          c.in_ok-numbers.ensures.gives c.loop-i.invariant.read);
    }

-- all are read
pub returns-clause-gives : goal.returns-clause-gives
returns-clause-gives g c =
    let i = c.loop-i.i in
    let all : i ≡ c.args.count = omega (arith, c.loop-i-test.false, c.from-i-end.ensures, c.loop-i.auto.i-end) in
    times_done (number_at w16) (take i c.loop-i.numbers) c.args.count i c.loop-i.bytes (times (number_at w16) c.args.count c.args.bytes.now)
    (omega arith) c.loop-i.invariant.read
    ∙ rw all refl
