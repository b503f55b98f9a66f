-- Pieces of keys that are given, and of bytes that are sent.
use Rattle.std.proofs.Common.{◌≡◌, ℕ, zero, suc, ◌+◌, ◌-◌, List, [], ◌∷◌, ◌++◌, take, drop, slice_range, Option, None, Some, refl, sym, ◌∙◌, ap, append_assoc, arith}
use Rattle.std.proofs.Math.Seq.{take-add}
use Rattle.std.proofs.lemmas.List.{take-append-drop}
use Rattle.std.specs.Io.KnownBytes.{Keeps, Consumes}
use Rattle.pv_web.specs.declared.messages.Incoming.{Incoming}
use Rattle.pv_web.specs.Messages.{message_keys, keys_to_come}

-- the first of the keys that wait are given
pub first_given : (before : Option (List ℕ)) (waiting : List ℕ) (coming : Option (List Incoming)) (n : ℕ) (given : List ℕ)
    → Keeps before (keys_to_come waiting coming) → given ≡ take n waiting → Consumes before (keys_to_come (drop n waiting) coming) given
first_given None waiting coming n given kept is = tt
first_given (Some keys) waiting None n given kept is = absurd kept
first_given (Some keys) waiting (Some messages) n given kept is =
    sym kept ∙ ap (λ (l : List ℕ). l ++ message_keys messages) (sym (take-append-drop n waiting))
    ∙ append_assoc (take n waiting) (drop n waiting) (message_keys messages)
    ∙ ap (λ (l : List ℕ). l ++ (drop n waiting ++ message_keys messages)) (sym is)

-- the first of the first are the first
first_twice : (n k : ℕ) (l : List ℕ) → (m : ℕ) × (take n (take k l) ≡ take m l)
first_twice zero k l = (0, refl)
first_twice (suc n) zero l = (0, refl)
first_twice (suc n) (suc k) [] = (0, refl)
first_twice (suc n) (suc k) (a ∷ l) =
    let later = first_twice n k l in
    (suc later.0, ap (λ (rest : List ℕ). a ∷ rest) later.1)

-- what stands before a piece, and then the beginning of the piece
pub piece_begun : (at count n : ℕ) (bytes : List ℕ)
    → (m : ℕ) × (take at bytes ++ take n (slice_range bytes at (at + count)) ≡ take m bytes)
piece_begun at count n bytes =
    let first = first_twice n (at + count - at) (drop at bytes) in
    (at + first.0, ap (λ (l : List ℕ). take at bytes ++ l) first.1 ∙ sym (take-add at first.0 bytes))

-- what stands before a piece, and then the piece
pub piece_ended : (at count : ℕ) (bytes : List ℕ) → take at bytes ++ slice_range bytes at (at + count) ≡ take (at + count) bytes
piece_ended at count bytes =
    let same : at + (at + count - at) ≡ at + count = omega arith in
    sym (take-add at (at + count - at) bytes) ∙ ap (λ (n : ℕ). take n bytes) same
