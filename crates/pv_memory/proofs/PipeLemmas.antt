-- What a pipe holds once a packet was given or taken.
use Rattle.std.proofs.Common.{◌≡◌, ◌⊎◌, inl, inr, ℕ, zero, suc, ◌-◌, ◌<◌, List, [], ◌∷◌, ◌++◌, length, drop, take, sym, subst, arith, length-append}
use Rattle.std.specs.Prelude.{Contains}
use Rattle.std.proofs.lemmas.List.{drop-append-le, take-append-drop}
use Rattle.std.proofs.lemmas.List.Elements.{Contains-append_right, Contains-append_cases}
use Rattle.circular_buffer.specs.Buffer.{keep_last}

-- what a suffix holds the list holds
pub in_suffix : (n : ℕ) (packets : List (List ℕ)) (held : List ℕ) → Contains (drop n packets) held → Contains packets held
in_suffix n packets held within =
    let whole = Contains-append_right (take n packets) (drop n packets) held within in
    subst (λ (l : List (List ℕ)). Contains l held) (take-append-drop n packets) whole

-- what a list of one packet holds is that packet
only_one : (packet held : List ℕ) → Contains (packet ∷ []) held → held ≡ packet
only_one packet held (zero, within, is) = sym is
only_one packet held (suc k, within, is) = absurd (omega (arith, within))

-- The last n of these packets and one more.
module _ (n : ℕ) (packets : List (List ℕ)) (packet : List ℕ) (some : 0 < n) where
  -- they are a suffix of the packets, and then that one
  pub keeps_suffix : (lost : ℕ) × (keep_last n (packets ++ packet ∷ []) ≡ drop lost packets ++ packet ∷ [])
  keeps_suffix =
      let long = length-append packets (packet ∷ []) in
      (length (packets ++ packet ∷ []) - n, drop-append-le _ packets (packet ∷ []) (omega (arith, long)))

  -- so there is no other packet among them
  pub nothing_else : (held : List ℕ) → Contains (keep_last n (packets ++ packet ∷ [])) held → Contains packets held ⊎ (held ≡ packet)
  nothing_else held within =
      elim (Contains-append_cases packets (packet ∷ []) held (in_suffix _ _ held within)) [
        | inl before ↦ inl before
        | inr last ↦ inr (only_one packet held last)
      ]
