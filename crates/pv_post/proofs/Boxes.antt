-- Boxes by their owners: where an owner's box is, and what one more owner or another box in its place leaves.
use Rattle.std.proofs.Common.{◌≡◌, ◌≢◌, ◌⊎◌, inl, inr, ℕ, zero, suc, ◌+◌, ◌<◌, ◌≤◌, Bool, true, false, cond, eqb, not, ◌||◌, List, [], ◌∷◌, ◌++◌, length, get_or, set, true≢false, refl, sym, ap, subst, ◌∙◌, arith}
use Rattle.std.specs.Prelude.{replicate}
use Rattle.std.specs.List.{list_any, position_or_len}
use Rattle.std.proofs.lemmas.Bool.{eqb-true, eqb-false}
use Rattle.std.proofs.lemmas.List.{get_or_append_left, get_or-append-add, get_or-set_same, get_or-set_other, get_or_default, get_or_past}
use Rattle.std.proofs.lemmas.List.Folds.{position_or_len_push}
use Rattle.std.proofs.lemmas.List.Sums.{prefix_len-le-length}

-- the index of an owner, or the count of all
abbrev index_of : ℕ → List ℕ → ℕ
index_of owner owners = position_or_len (eqb owner) owners

-- two owners with one index are the same, or neither is an owner
index_of-same : (owner another : ℕ) (owners : List ℕ) → eqb owner another ≡ false → index_of owner owners < length owners
    → index_of owner owners ≢ index_of another owners
index_of-same owner another [] differs within same = omega (arith, within)
index_of-same owner another (other ∷ owners) differs within same =
    by (eqb owner other) (eqb another other) refl refl (index_of-same owner another owners differs) within same
  where
    by : (mine his : Bool) → eqb owner other ≡ mine → eqb another other ≡ his
        → (index_of owner owners < length owners → index_of owner owners ≢ index_of another owners)
        → cond (not mine) (1 + index_of owner owners) 0 < length (other ∷ owners)
        → cond (not mine) (1 + index_of owner owners) 0 ≡ cond (not his) (1 + index_of another owners) 0 → ⊥
    by true true here there rest within same =
        true≢false (sym (subst (λ n. eqb owner n ≡ true) (sym (eqb-true another other there)) here) ∙ differs)
    by true false here there rest within same = omega (arith, same)
    by false true here there rest within same = omega (arith, same)
    by false false here there rest within same = rest (omega (arith, within)) (omega (arith, same))

-- who is no owner has the index after the last
index_of-stranger : (owner : ℕ) (owners : List ℕ) → list_any (eqb owner) owners ≡ false → index_of owner owners ≡ length owners
index_of-stranger owner [] none = refl
index_of-stranger owner (other ∷ owners) none = by (eqb owner other) refl (index_of-stranger owner owners)
  where
    by : (same : Bool) → eqb owner other ≡ same → (list_any (eqb owner) owners ≡ false → index_of owner owners ≡ length owners)
        → index_of owner (other ∷ owners) ≡ length (other ∷ owners)
    by true is rest = absurd (true≢false (sym (ap (λ b. b || list_any (eqb owner) owners) is) ∙ none))
    by false is rest =
        let later = rest (sym (ap (λ b. b || list_any (eqb owner) owners) is) ∙ none) in rw is (omega (arith, later))

-- no index is above the count
index_of-most : (owner : ℕ) (owners : List ℕ) → index_of owner owners ≤ length owners
index_of-most owner owners = prefix_len-le-length (λ other. not (eqb owner other)) owners

-- who is no owner can be one more, if there is room for him
pub fewer_than_room : (owner : ℕ) (owners : List ℕ) (room : ℕ) → list_any (eqb owner) owners ≡ false
    → (list_any (eqb owner) owners ≡ true) ⊎ (length owners < room) → length owners < room
fewer_than_room owner owners room none (inl has) = absurd (true≢false (sym has ∙ none))
fewer_than_room owner owners room none (inr more) = more

-- ---- the boxes

module _ {X : Type 0} (nothing : X) where
  -- of a list of defaults each element is the default, and so is what is after them
  get_or-nothing : (count index : ℕ) → get_or (replicate count nothing) index nothing ≡ nothing
  get_or-nothing zero index = refl
  get_or-nothing (suc count) zero = refl
  get_or-nothing (suc count) (suc index) = get_or-nothing count index

  -- empty boxes after the others are read as none are
  get_or-padded : (boxes : List X) (count index : ℕ) → get_or (boxes ++ replicate count nothing) index nothing ≡ get_or boxes index nothing
  get_or-padded [] count index = get_or-nothing count index
  get_or-padded (box ∷ boxes) count zero = refl
  get_or-padded (box ∷ boxes) count (suc index) = get_or-padded boxes count index

  -- Of boxes that are read with `spare` empty ones after them, and with `left` after a call.
  module _ (owners : List ℕ) (boxes : List X) (each : length boxes ≡ length owners) (spare left : ℕ) where
    -- what is in an account's box
    abbrev letters : ℕ → X
    letters account = get_or (boxes ++ replicate spare nothing) (index_of account owners) nothing

    -- it is read as if no empty box came after the others
    read : (account : ℕ) → get_or boxes (index_of account owners) nothing ≡ letters account
    read account = sym (get_or-padded boxes spare (index_of account owners))

    -- an owner's box is changed: the others' stay
    pub box-changed : (owner account : ℕ) (change : X → X) (index : ℕ) (was box : X) → index ≡ index_of owner owners → index < length owners
        → was ≡ get_or boxes index was → box ≡ change was
        → get_or (set boxes index box ++ replicate left nothing) (index_of account owners) nothing
        ≡ cond (eqb account owner) (change (letters account)) (letters account)
    box-changed owner account change index was box at here reads changed =
        get_or-padded (set boxes index box) left (index_of account owners) ∙ by (eqb account owner) refl
      where
        by : (same : Bool) → eqb account owner ≡ same
            → get_or (set boxes index box) (index_of account owners) nothing ≡ cond same (change (letters account)) (letters account)
        by true is =
            let same : index ≡ index_of account owners = at ∙ ap (λ n. index_of n owners) (sym (eqb-true account owner is)) in
            ap (λ n. get_or (set boxes index box) n nothing) (sym same) ∙ get_or-set_same boxes index box nothing (omega (arith, here, each))
            ∙ changed ∙ ap change (reads ∙ get_or_default boxes index was nothing (omega (arith, here, each))
            ∙ ap (λ n. get_or boxes n nothing) same ∙ read account)
        by false is =
            get_or-set_other boxes index (index_of account owners) box nothing
            (λ same. index_of-same account owner owners is (omega (arith, same, here)) (same ∙ at)) ∙ read account

    -- a stranger becomes the last owner, with this box: the others' stay
    pub box-added : (to account : ℕ) (change : X → X) (box : X) → list_any (eqb to) owners ≡ false → box ≡ change nothing
        → get_or ((boxes ++ box ∷ []) ++ replicate left nothing) (index_of account (owners ++ to ∷ [])) nothing
        ≡ cond (eqb account to) (change (letters account)) (letters account)
    box-added to account change box none changed =
        get_or-padded (boxes ++ box ∷ []) left (index_of account (owners ++ to ∷ []))
        ∙ ap (λ index. get_or (boxes ++ box ∷ []) index nothing) (position_or_len_push (eqb account) owners to)
        ∙ by (eqb (index_of account owners) (length owners)) (eqb account to) refl refl
      where
        after : (count : ℕ) → get_or (boxes ++ box ∷ []) (length owners + count) nothing ≡ get_or (box ∷ []) count nothing
        after count =
            ap (λ n. get_or (boxes ++ box ∷ []) (n + count) nothing) (sym each) ∙ get_or-append-add boxes (box ∷ []) count nothing

        unread : eqb (index_of account owners) (length owners) ≡ true → nothing ≡ letters account
        unread is =
            let last = eqb-true _ _ is in
            sym (get_or_past boxes (index_of account owners) nothing (omega (arith, last, each))) ∙ read account

        by : (last his : Bool) → eqb (index_of account owners) (length owners) ≡ last → eqb account to ≡ his
            → get_or (boxes ++ box ∷ []) (cond last (length owners + cond his 0 1) (index_of account owners)) nothing
            ≡ cond his (change (letters account)) (letters account)
        by true true is his = after 0 ∙ changed ∙ ap change (unread is)
        by true false is his = after 1 ∙ unread is
        by false true is his =
            let stranger = ap (λ owner. index_of owner owners) (eqb-true account to his) ∙ index_of-stranger to owners none in
            absurd (eqb-false _ _ is stranger)
        by false false is his =
            let last = eqb-false _ _ is in
            let most = index_of-most account owners in
            get_or_append_left boxes (box ∷ []) nothing (index_of account owners) (omega (arith, last, most, each)) ∙ read account
