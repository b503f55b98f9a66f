-- Changes that wait, and what readers take once some of them are published.
use Rattle.std.proofs.Common.{◌≡◌, ◌+◌, ◌≤◌, List, [], ◌∷◌, ◌++◌, length, fold, ap, sym, ◌∙◌, subst, arith, length-append, append_assoc}
use mathlib.Core.List.{IsPrefix}
use Rattle.pv_history.proofs.CallerLemmas.{prefix_self, prefix_trans, prefix_shorter}
use Rattle.pv_live.specs.declared.entry.Entry.{Entry}
use Rattle.pv_group.specs.Desk.{AddsUpTo}

module _ {Rec Change : Type 0} (applied : List (Entry Rec) → Change → List (Entry Rec)) where
  -- each change adds one entry
  pub adds_length : (first : List (Entry Rec)) (changes : List Change) (last : List (Entry Rec)) → AddsUpTo applied first changes last
      → length last ≡ length first + length changes
  adds_length first [] last adds = omega (arith, ap length adds)
  adds_length first (change ∷ changes) last adds =
      omega (arith, adds_length (applied first change) changes last adds.1, ap length adds.0.1, length-append first (adds.0.0 ∷ []))

  -- so the first list is a prefix of the last
  pub adds_prefix : (first : List (Entry Rec)) (changes : List Change) (last : List (Entry Rec)) → AddsUpTo applied first changes last
      → IsPrefix first last
  adds_prefix first [] last adds = subst (λ (l : List (Entry Rec)). IsPrefix first l) adds (prefix_self first)
  adds_prefix first (change ∷ changes) last adds =
      prefix_trans first (applied first change) last (adds.0.0 ∷ [], sym adds.0.1)
      (adds_prefix (applied first change) changes last adds.1)

  -- once some changes are applied, the others lead from there
  pub adds_after : (first : List (Entry Rec)) (shown changes : List Change) (last : List (Entry Rec))
      → AddsUpTo applied first (shown ++ changes) last → AddsUpTo applied (fold applied first shown) changes last
  adds_after first [] changes last adds = adds
  adds_after first (change ∷ shown) changes last adds = adds_after (applied first change) shown changes last adds.1

  -- a further change leads to one entry more
  pub adds_more : (first : List (Entry Rec)) (changes : List Change) (last : List (Entry Rec)) (change : Change) (entry : Entry Rec)
      → AddsUpTo applied first changes last → applied last change ≡ last ++ entry ∷ []
      → AddsUpTo applied first (changes ++ change ∷ []) (last ++ entry ∷ [])
  adds_more first [] last change entry adds more =
      let here : applied first change ≡ first ++ entry ∷ [] =
      subst (λ (l : List (Entry Rec)). applied l change ≡ l ++ entry ∷ []) (sym adds) more in
      ((entry, here), here ∙ ap (λ (l : List (Entry Rec)). l ++ entry ∷ []) adds)
  adds_more first (x ∷ changes) last change entry adds more =
      (adds.0, adds_more (applied first x) changes last change entry adds.1 more)

  -- also if it is the last of those that are not pending
  pub adds_behind : (first : List (Entry Rec)) (pending changes : List Change) (last : List (Entry Rec)) (change : Change)
      (entry : Entry Rec) → AddsUpTo applied first (pending ++ changes) last → applied last change ≡ last ++ entry ∷ []
      → AddsUpTo applied first (pending ++ (changes ++ change ∷ [])) (last ++ entry ∷ [])
  adds_behind first pending changes last change entry adds more =
      subst (λ (l : List Change). AddsUpTo applied first l (last ++ entry ∷ [])) (append_assoc pending changes (change ∷ []))
      (adds_more first (pending ++ changes) last change entry adds more)

  module _ (first : List (Entry Rec)) (changes : List Change) (last : List (Entry Rec)) (adds : AddsUpTo applied first changes last)
      (stored : List (Entry Rec)) (prefix : IsPrefix stored last) where
    -- if no more changes are left than entries are not stored, all that is stored is shown
    pub shows_all : length stored + length changes ≤ length last → IsPrefix stored first
    shows_all few =
        prefix_shorter stored first last prefix (adds_prefix first changes last adds)
        (omega (arith, few, adds_length first changes last adds))

    -- if no fewer are left, nothing else is
    pub shows_only : length last ≤ length stored + length changes → IsPrefix first stored
    shows_only many =
        prefix_shorter first stored last (adds_prefix first changes last adds) prefix
        (omega (arith, many, adds_length first changes last adds))
