use Rattle.std.proofs.Common.{◌≡◌, length, ap, arith, rules, []}
use Rattle.pv_edits.specs.declared.room.TheConstants.{MAX_ACCOUNTS}
use Rattle.pv_irc.proofs.Applying.{HaveRoom-none, HaveLetters-none}
use Rattle.pv_irc.proofs.state.IrcState.open.Goals as goal

-- nothing is kept yet
pub invariant_of-result : goal.invariant_of-result
invariant_of-result c =
    let base = c.in_ok-open.field-0 in
    let records : base.records ≡ [] = search rules in
    let places : base.places ≡ [] = search rules in
    let items = c.in_ok-with_capacity.ensures.items in
    let removals = c.in_ok-with_capacity-2.ensures.items in
    let boxes = c.in_ok-open-2.ensures in
    record {
      counts = record {
        same_limits = search rules;
        whole = omega (arith, ap length records);
        within = omega (arith, ap length items, ap length removals);
        items_fit = c.in_ok-with_capacity.ensures.capacity;
        removals_fit = c.in_ok-with_capacity-2.ensures.capacity;
      };
      room = HaveRoom-none c.in_ok-open-2.field-0 base.records boxes records;
      letters = HaveLetters-none c.args.centre MAX_ACCOUNTS base c.in_ok-with_capacity-2.field-0.items c.in_ok-open-2.field-0 records
          places removals boxes;
    }
