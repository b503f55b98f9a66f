use Rattle.std.proofs.Common.{[], ◌∙◌, sym, append-nil, rules}
use Rattle.pv_post.specs.Spelling.{item_bytes}
use Rattle.pv_packet.proofs.Refusals.{goes_on}
use Rattle.pv_packet.proofs.packet.item_of.Goals as goal

-- bytes that begin with no item are none
pub returns-in_err-item-clause-missing : goal.returns-in_err-item-clause-missing
returns-in_err-item-clause-missing c none item is same =
    c.decode.ensures.missing (search rules) item [] is (c.new-from.ensures.whole ∙ same ∙ sym (append-nil (item_bytes item)))

-- nor are those that go on after one
pub returns-else-left-eq0-clause-missing : goal.returns-else-left-eq0-clause-missing
returns-else-left-eq0-clause-missing c none other is same =
    let found = c.in_ok-item.ensures.found in
    goes_on c.args.bytes.now c.in_ok-item.item other c.decode.new.bytes found.0 is (sym c.new-from.ensures.whole ∙ found.1)
    (λ e. c.if-left-eq0.false (c.left.ensures.count ∙ e)) same
