-- Rows of stands that are made of passes and doors.
use Rattle.std.proofs.Common.{◌≡◌, List, [], ◌∷◌, ◌++◌, length, map, refl, ap, sym, ◌∙◌, append-nil, length-append, arith}
use Rattle.std.specs.Prelude.{All}
use Rattle.std.proofs.lemmas.List.{length-map}
use Rattle.std.proofs.lemmas.List.Elements.{All-push, All-same}

-- what holds of the stands holds with one more after them
pub all_more : {T : Type 0} (stands : List T) (stand : T) (all : List T) → all ≡ stands ++ stand ∷ [] → (P : T → Type 0)
    → All P stands → P stand → All P all
all_more stands stand all more P before last = All-same P all (stands ++ stand ∷ []) more (All-push P stands stand before last)

-- a list without items
none_in : {X : Type 0} (xs : List X) → length xs ≡ 0 → xs ≡ []
none_in [] none = refl
none_in (x ∷ xs) none = absurd (omega (arith, none))

-- there are as many stands as doors: no door is left
pub taken_count : {T O : Type 0} (door_of : T → O) (stands : List T) (rest doors : List O) → map door_of stands ++ rest ≡ doors
    → length stands ≡ length doors → map door_of stands ≡ doors
taken_count {O = O} door_of stands rest doors filled count =
    let left : rest ≡ [] = none_in rest (omega (
      arith,
      count,
      ap length filled,
      length-map stands door_of,
      length-append (map door_of stands) rest,
    )) in
    sym (append-nil (map door_of stands)) ∙ ap (λ (ds : List O). map door_of stands ++ ds) (sym left) ∙ filled
