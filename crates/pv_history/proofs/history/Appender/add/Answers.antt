use Rattle.std.proofs.Common.{◌≡◌, ap, sym, ◌∙◌}
use Rattle.pv_history.proofs.Steps.{adds_moves}
use Rattle.pv_history.proofs.history.Appender.add.Goals as goal

-- the exchange is made on the history's own word, by the first right that was not used, and keeps the rule
pub compare_exchange-requires : goal.compare_exchange-requires
compare_exchange-requires g c =
    let word = c.self.invariant.0 in
    let right = c.self.invariant.1 in
    let offer = c.plain-offer.ensures in
    let count = sym (c.requires.whole ∙ sym (ap (λ s. s.count) c.self.view_is)) in (
      ap (λ w. w.tracked) word,
      c.requires.book ∙ sym (ap (λ w. w.book) word),
      right.0 ∙ sym (ap (λ w. w.book) word),
      offer.0,
      rw (ap (λ w. w.key) word, right.1, count, offer.1, offer.3) (adds_moves c.args.seen.now.log c.args.entry.now),
    )
