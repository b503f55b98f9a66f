use Rattle.std.proofs.lemmas.Result.{err_from_is_err_and}
use Rattle.pv_fields.proofs.CallerLemmas.{appends_more, refused_more}
use Rattle.pv_post.specs.Item.{filled_bytes}
use Rattle.pv_post.proofs.fields.put_each.Goals as goal

-- there is no room for one field more
pub returns-in_err-put : goal.returns-in_err-put
returns-in_err-put c =
    let p = err_from_is_err_and c.from_residual.result c.from_residual.ensures.1 in
    rw p.1 (
    refused_more filled_bytes c.args.fields.now c.loop-filled.filled-index c.filled-item.result c.args.out.now c.loop-filled.out
    c.loop-filled-test.true c.filled-item.is c.loop-filled.invariant c.in_err-put.ensures)

-- one field more is appended
pub loop-filled-preserved : goal.loop-filled-preserved
loop-filled-preserved c =
    appends_more filled_bytes c.args.fields.now c.loop-filled.filled-index c.filled-item.result c.args.out.now c.loop-filled.out
    c.put.new.out
    c.loop-filled-test.true c.filled-item.is c.loop-filled.invariant c.in_ok-put.ensures
