use Rattle.std.proofs.{Common.arith, lemmas.{Fmt.length-decimal-le, Grind.common_steps, List.length-append}}
use Rattle.pv_fields.proofs.CallerLemmas.{appends_then}
use Rattle.pv_screen.proofs.{Placing.price_text_of, Steps.price}
use Rattle.pv_screen.proofs.composing.put_price.Goals as goal

-- a price has at most two digits
pub overflow_sub-digits-2 : goal.overflow_sub-digits-2
overflow_sub-digits-2 c = grind (arith, common_steps, length-decimal-le 2 c.args.price)

pub put_u8-requires : goal.put_u8-requires
put_u8-requires c = grind (arith, price, length-decimal-le 2 c.args.price)

pub returns : goal.returns
returns c =
    let all = appends_then c.put_spaces-2.ensures (appends_then c.put_run.ensures.appends c.put_u8.ensures.appends) in
    grind (arith, common_steps, length-append, price_text_of, all)
