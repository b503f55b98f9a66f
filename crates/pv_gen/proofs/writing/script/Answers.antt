use Rattle.std.proofs.Common.{refl}
use Rattle.pv_gen.specs.Script.{closing_lines}
use Rattle.pv_gen.specs.Writing.{lines_text}
use Rattle.pv_gen.proofs.Whole.{after_call, after_pages, after_opening, closing_apart, call_apart, pages_apart, opening_apart}
use Rattle.pv_gen.proofs.Writes.{wrote-none, wrote-more, wrote-last, fails-after}
use Rattle.pv_gen.proofs.writing.script.Goals as goal

-- the opening failed, and so on: what comes later is not written
pub returns-in_err-put : goal.returns-in_err-put
returns-in_err-put g c =
    fails-after c.from_residual.result (after_opening c.args.number) c.from_residual.ensures.0 (opening_apart c.args.number)
    wrote-none c.in_err-put.ensures

pub returns-in_err-state : goal.returns-in_err-state
returns-in_err-state g c =
    let opening = wrote-more refl wrote-none c.in_ok-put.ensures in
    fails-after c.from_residual-in_err-state.result (after_pages c.args.number) c.from_residual-in_err-state.ensures.0
    (pages_apart c.args.number) opening c.in_err-state.ensures.writes

pub returns-in_err-put-2 : goal.returns-in_err-put-2
returns-in_err-put-2 g c =
    let opening = wrote-more refl wrote-none c.in_ok-put.ensures in
    let pages = wrote-more refl opening c.in_ok-state.ensures.writes in
    fails-after c.from_residual-in_err-put-2.result (after_call c.args.number) c.from_residual-in_err-put-2.ensures.0
    (call_apart c.args.number) pages c.in_err-put-2.ensures

pub returns-in_err-put_fetches : goal.returns-in_err-put_fetches
returns-in_err-put_fetches g c =
    let opening = wrote-more refl wrote-none c.in_ok-put.ensures in
    let pages = wrote-more refl opening c.in_ok-state.ensures.writes in
    let call = wrote-more refl pages c.in_ok-put-2.ensures in
    fails-after c.from_residual-in_err-put_fetches.result (lines_text closing_lines) c.from_residual-in_err-put_fetches.ensures.0
    (closing_apart c.args.number) call c.in_err-put_fetches.ensures

-- all was written, unless the last part failed
pub returns : goal.returns
returns g c =
    let opening = wrote-more refl wrote-none c.in_ok-put.ensures in
    let pages = wrote-more refl opening c.in_ok-state.ensures.writes in
    let call = wrote-more refl pages c.in_ok-put-2.ensures in
    let fetches = wrote-more refl call c.in_ok-put_fetches.ensures in
    wrote-last c.put-3.result (closing_apart c.args.number) fetches c.put-3.ensures
