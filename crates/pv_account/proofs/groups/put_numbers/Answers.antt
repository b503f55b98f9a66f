use Rattle.std.proofs.Common.{get_or, refl}
use Rattle.std.specs.Int.{w16, to_be_bytes}
use Rattle.std.proofs.lemmas.List.{get_or_default}
use Rattle.std.proofs.lemmas.Result.{err_from_is_err_and}
use Rattle.pv_fields.proofs.CallerLemmas.{append_more, refused_more}
use Rattle.pv_account.proofs.groups.put_numbers.Goals as goal

-- there is no room for one number more
pub returns-in_err-u16 : goal.returns-in_err-u16
returns-in_err-u16 c =
    let p = err_from_is_err_and c.from_residual.result c.from_residual.ensures.1 in
    let numbers = c.args.numbers.now in
    let i = c.loop-number.number-index in
    let number = get_or numbers i 0 in
    rw p.1 (
    refused_more (to_be_bytes w16) numbers i number c.args.out.now c.loop-number.out c.loop-number-test.true
    (get_or_default numbers i 0 number c.loop-number-test.true) c.loop-number.invariant (c.in_err-u16.ensures.refused.0 refl))

-- one number more is appended
pub loop-number-preserved : goal.loop-number-preserved
loop-number-preserved c =
    append_more (to_be_bytes w16) c.args.numbers.now c.loop-number.number-index 0 c.args.out.now c.loop-number.out c.u16.new.self
    c.loop-number-test.true c.loop-number.invariant c.in_ok-u16.ensures.ok
