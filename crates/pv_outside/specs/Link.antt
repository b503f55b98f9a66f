-- What a give and a take do to the packets that a link reports.
use Rattle.std.specs.Prelude.{◌≡◌, ◌⊎◌, ℕ, List, [], ◌∷◌, ◌++◌, take, drop, Option, None, Some, Result, Ok, Err}
use Rattle.pv_outside.specs.Counts.{one_more}

-- a suffix of the packets that were held, and then these
abbrev pub KeepsSuffix : List (List ℕ) → List (List ℕ) → List (List ℕ) → Type 0
KeepsSuffix more old new = (lost : ℕ) × (new ≡ drop lost old ++ more)

-- The packet comes after a suffix of those that were held. After a fault it may have come or not.
abbrev pub GainsPacket : {T E : Type 0} → List ℕ → Result T E → Option (List (List ℕ)) → Option (List (List ℕ)) → Type 0
GainsPacket packet (Ok value) (Some old) (Some new) = KeepsSuffix (packet ∷ []) old new
GainsPacket packet (Err failure) (Some old) (Some new) = KeepsSuffix (packet ∷ []) old new ⊎ KeepsSuffix [] old new
GainsPacket packet result None None = Unit {0}
GainsPacket packet result _ _ = ⊥

-- The first packet is handed out, at the beginning of these bytes, or there is none. A fault keeps a suffix of the packets.
abbrev pub HandsOut : {E : Type 0} → List ℕ → Result (Option ℕ) E → Option (List (List ℕ)) → Option (List (List ℕ)) → Type 0
HandsOut into (Ok (Some n)) (Some old) (Some new) = old ≡ take n into ∷ new
HandsOut into (Ok None) (Some old) (Some new) = (old ≡ []) × (new ≡ [])
HandsOut into (Err failure) (Some old) (Some new) = KeepsSuffix [] old new
HandsOut into result None None = Unit {0}
HandsOut into result _ _ = ⊥

-- a count of the packets that were handed out, after one more take
abbrev pub handed_after : {E : Type 0} → Result (Option ℕ) E → ℕ → ℕ
handed_after (Ok (Some length)) n = one_more n
handed_after (Ok None) n = n
handed_after (Err failure) n = n
