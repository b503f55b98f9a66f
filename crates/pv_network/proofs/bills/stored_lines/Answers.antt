use Rattle.std.proofs.Common.{◌<◌, ◌++◌, List, length, ap, sym, ◌∙◌, arith}
use Rattle.std.specs.Option.{option_to_list}
use Rattle.std.specs.Prelude.{option_map}
use Rattle.pv_post.specs.declared.item.Item.{Item}
use Rattle.pv_post.specs.declared.item.Item.TheVariants.{Charge}
use Rattle.pv_network.specs.Charging.{line_in, line_at}
use Rattle.pv_network.specs.declared.outcome.BillLine.{BillLine}
use Rattle.pv_network.proofs.Finding.{found_more, one_more_at_most}
use Rattle.pv_network.proofs.bills.stored_lines.Goals as goal

-- some item
some : Item
some = Charge (record { serial = 0; number = 0; account = 0; name = record { page = 0; letter = 0 }; price = 0; moment = 0 })

-- one more is found, or none
pub loop-number-preserved : goal.loop-number-preserved
loop-number-preserved c =
    let before = c.loop-number.invariant in
    let found = c.stored_at.result in
    let within : c.loop-number.number < length c.args.state.now.items = omega (arith, c.loop-number-test.true, before.end) in
    let more = found_more (λ item. option_map (line_at c.args.centre) (line_in item)) c.args.state.now.items c.loop-number.number some
    within found c.stored_at.ensures in
    let added = c.in_ok-add.ensures in
    record {
      lines = added ∙ ap (λ (l : List BillLine). l ++ option_to_list found) before.lines ∙ sym more;
      few = omega (arith, one_more_at_most c.loop-number.lines found, ap (λ (l : List BillLine). length l) added, before.few);
      end = before.end;
    }
