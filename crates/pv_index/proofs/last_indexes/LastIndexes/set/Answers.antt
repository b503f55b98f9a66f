use Rattle.std.proofs.Common.{rules, IsTrue, ℕ, ◌≡◌, ◌⊎◌, inl, inr, ◌<◌, false, true≢false, length, subst, sym, ap, ◌∙◌, arith}
use Rattle.std.specs.Prelude.{is_some}
use Rattle.std.specs.Result.{IsOk}
use Rattle.pv_index.specs.Indexes.{KeyIndexes, has_key}
use Rattle.pv_index.proofs.last_indexes.LastIndexes.set.Goals as goal

-- there is room for the key, as one that is there or as one more
abbrev IsRoom : KeyIndexes → ℕ → Type 0
IsRoom last key = IsTrue (has_key last.pairs key) ⊎ (length last.pairs < last.room)

-- a key that is not there has room as one more
pub unwrap-requires : goal.unwrap-requires
unwrap-requires c = by (subst (λ (last : KeyIndexes). IsRoom last c.args.key) (sym c.self.view_is) c.requires.room)
  where
    missing : has_key c.self.inside.indexes.entries c.args.key ≡ false
    missing = search rules

    by : IsTrue (has_key c.self.inside.indexes.entries c.args.key) ⊎ (length c.self.inside.indexes.entries < c.self.inside.room) → IsOk c.insert.result
    by (inl has) = absurd (true≢false (sym has ∙ missing))
    by (inr more) = let invariant = c.self.invariant in search (rules, more, invariant)
