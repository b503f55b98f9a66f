-- For the tests alone, no word of a node: what their rules decide, and the laws of these. The state is a count of records, and the
-- requests are bytes.
use Rattle.std.specs.Prelude.{◌≡◌, ℕ, ◌+◌, ◌<◌, Bool, true, false, ◌&&◌, nat_lt, List, [], ◌∷◌, ◌++◌, length, slice_index, if◌then◌else◌}
use Rattle.std.proofs.Common.{refl, ap, subst, arith, length-append}
use Rattle.std.proofs.lemmas.Bool.{ltb-true}
use Rattle.pv_journal.specs.Text.{IsBody}
use Rattle.pv_node.specs.declared.decision.Decision.{Decision}
use Rattle.pv_node.specs.declared.decision.Decision.TheVariants.{Answer, Store}

-- what the tests' rules decide: a byte below 128 is stored while there are fewer records than the most; the reply is how many there were
abbrev pub decision_on : ℕ → ℕ → ℕ → Decision ℕ ℕ
decision_on most count byte = if (nat_lt byte 128 && nat_lt count most) then Store byte count else Answer count

-- a byte is a body
pub sized : (rec : ℕ) → rec < 128 → IsBody (rec ∷ [])
sized rec is = (omega arith, omega arith)

-- a byte is the only one with its spelling
pub one_meaning : (one other : ℕ) → one < 128 → other < 128 → one ∷ [] ≡ other ∷ [] → one ≡ other
one_meaning one other is_one is_other e = ap (λ (l : List ℕ). slice_index l 0) e

-- nothing is stored
abbrev IsAnswer : Decision ℕ ℕ → Type 0
IsAnswer (Answer reply) = Unit {0}
IsAnswer (Store rec reply) = ⊥

-- the byte that is stored, or this one
abbrev rec_or : ℕ → Decision ℕ ℕ → ℕ
rec_or byte (Answer reply) = byte
rec_or byte (Store rec reply) = rec

-- if a byte is stored, both tests have passed, and it is the one that was asked
shown : (small room : Bool) (byte count rec reply : ℕ) → (if (small && room) then Store byte count else Answer count) ≡ Store rec reply
    → (small ≡ true) × (room ≡ true) × (byte ≡ rec)
shown true true byte count rec reply e = (refl, refl, ap (rec_or byte) e)
shown true false byte count rec reply e = absurd (subst IsAnswer e tt)
shown false true byte count rec reply e = absurd (subst IsAnswer e tt)
shown false false byte count rec reply e = absurd (subst IsAnswer e tt)

-- a byte that is stored is below 128, and there are fewer than the most
pub stored : (most count byte rec reply : ℕ) → decision_on most count byte ≡ Store rec reply → (rec < 128) × (count < most)
stored most count byte rec reply e =
    let s = shown (nat_lt byte 128) (nat_lt count most) byte count rec reply e in
    let small : byte < 128 = ltb-true byte 128 s.0 in
    (subst (λ (b : ℕ). b < 128) s.2 small, ltb-true count most s.1)

-- one record more is counted
pub counts_more : (count : ℕ) (records : List ℕ) (rec : ℕ) → count ≡ length records → count + 1 ≡ length (records ++ rec ∷ [])
counts_more count records rec is = omega (arith, is, length-append records (rec ∷ []))

-- as many records leave as much room
pub has_room_too : (one other most wide : ℕ) → one ≡ other → most ≡ wide → one < most → other < wide
has_room_too one other most wide same limits room = omega (arith, same, limits, room)

-- counts and limits that are equal give one judgement
pub judged_alike : (one other most wide byte : ℕ) → one ≡ other → most ≡ wide → decision_on most one byte ≡ decision_on wide other byte
judged_alike one other most wide byte same limits = λ i. decision_on (limits i) (same i) byte
