use Rattle.std.proofs.{Common.{arith, subst}, lemmas.{Grind.common_steps, List.{append-nil, drop_all}}}
use Rattle.pv_fields.proofs.CallerLemmas.{appends_then, length-padded_list, slice_after}
use Rattle.pv_page.proofs.CallerLemmas.{length-name_text}
use Rattle.pv_screen.proofs.{Vocabulary.IsFrame, Placing.heading_is_row}
use Rattle.pv_screen.proofs.composing.put_heading.Goals as goal

pub put_price-requires-clause-room : goal.put_price-requires-clause-room
put_price-requires-clause-room c = grind (arith, common_steps, length-name_text, length-padded_list)

pub returns-clause-row : goal.returns-clause-row
returns-clause-row c =
    let holds = subst IsFrame c.frame.view_is c.frame.invariant.holds in
    heading_is_row c.args.frame.now c.args.name c.requires holds c.put_name.ensures.within

-- the parts fill the row
pub returns-clause-value : goal.returns-clause-value
returns-clause-value c =
    let name = appends_then (appends_then c.put_run.ensures.appends c.put_u8.ensures.appends) c.put_name.ensures.bytes in
    let all = appends_then name c.put_price.ensures in
    let holds = slice_after c.new-out.result c.put_price.new.out _ c.new-out.ensures.empty all in
    let row = returns-clause-row c in
    grind (arith, append-nil, drop_all, holds, row)
