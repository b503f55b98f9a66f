use Rattle.std.proofs.Common.{◌≡◌, ap, sym, ◌∙◌}
use Rattle.pv_history.proofs.Steps.{bounds_moves}
use Rattle.pv_history.proofs.history.Appender.has_all.Goals as goal

-- the exchange is made on the history's own word, by the first right that was not used, and changes nothing
pub compare_exchange-requires : goal.compare_exchange-requires
compare_exchange-requires g c =
    let word = c.self.invariant.0 in
    let right = c.self.invariant.1 in
    let offer = c.plain-offer.ensures in (
      ap (λ w. w.tracked) word,
      ap (λ s. s.book) c.again-seen.ensures ∙ c.requires.book ∙ sym (ap (λ w. w.book) word),
      right.0 ∙ sym (ap (λ w. w.book) word),
      offer.0,
      rw (ap (λ w. w.key) word, right.1, offer.3) (bounds_moves c.again-seen.result.log c.self.inside.count),
    )
