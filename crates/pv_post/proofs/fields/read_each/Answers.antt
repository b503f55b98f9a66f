use Rattle.std.proofs.Common.{◌≡◌, ◌<◌, [], take, arith, refl, ◌∙◌}
use Rattle.std.proofs.lemmas.List.Elements.{All-push}
use Rattle.std.proofs.lemmas.Result.{err_from_is_err_and}
use Rattle.pv_fields.specs.Reading.{times}
use Rattle.pv_fields.proofs.CallerLemmas.{IsPadded-set, take-set}
use Rattle.pv_fields.proofs.Readings.{times_more, times_ends, times_done}
use Rattle.pv_post.specs.Item.{filled_at, IsFilled}
use Rattle.pv_post.specs.declared.fields.TheConstants.{MAX_FIELDS}
use Rattle.pv_post.proofs.fields.read_each.Goals as goal

-- the next field cannot be read
pub returns-in_err-places-clause-gives : goal.returns-in_err-places-clause-gives
returns-in_err-places-clause-gives c =
    let p = err_from_is_err_and c.from_residual.result c.from_residual.ensures.1 in
    let i = c.loop-i.i in
    rw p.1 (
    times_ends filled_at (take i c.loop-i.places) c.args.count i c.loop-i.from (times filled_at c.args.count c.args.from.now)
    (omega (arith, c.loop-i-test.true, c.from-i-end.ensures)) c.in_err-places.ensures.gives c.loop-i.invariant.read)

-- one field more is read
pub loop-i-preserved : goal.loop-i-preserved
loop-i-preserved c =
    let i = c.loop-i.i in
    let filled = c.in_ok-places.field-0 in
    let padded = c.loop-i.invariant.padded in
    let room : i < MAX_FIELDS = omega (arith, c.requires, c.loop-i-test.true, c.from-i-end.ensures) in
    let more = take-set [] MAX_FIELDS i c.loop-i.places padded filled room in
    record {
      padded = IsPadded-set [] MAX_FIELDS i c.loop-i.places padded filled room;
      filled = rw more (All-push IsFilled (take i c.loop-i.places) filled c.loop-i.invariant.filled c.in_ok-places.ensures.filled);
      read = rw more (
          times_more filled_at (take i c.loop-i.places) c.args.count i c.loop-i.from filled c.read.new.from
          (times filled_at c.args.count c.args.from.now) (omega (arith, c.loop-i-test.true, c.from-i-end.ensures))
          c.in_ok-places.ensures.gives c.loop-i.invariant.read);
    }

-- all are read
pub returns-clause-gives : goal.returns-clause-gives
returns-clause-gives c =
    let i = c.loop-i.i in
    let all : i ≡ c.args.count = omega (arith, c.loop-i-test.false, c.from-i-end.ensures, c.loop-i.auto.i-end) in
    times_done filled_at (take i c.loop-i.places) c.args.count i c.loop-i.from (times filled_at c.args.count c.args.from.now)
    (omega arith) c.loop-i.invariant.read
    ∙ rw all refl

-- each is a filled field
pub returns-clause-filled : goal.returns-clause-filled
returns-clause-filled c =
    let all : c.loop-i.i ≡ c.args.count = omega (arith, c.loop-i-test.false, c.from-i-end.ensures, c.loop-i.auto.i-end) in
    rw (← all) c.loop-i.invariant.filled
