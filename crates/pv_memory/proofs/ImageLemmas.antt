-- The images that a crash makes are ones that it may leave.
use Rattle.std.proofs.Common.{◌≡◌, ◌≢◌, inl, inr, ℕ, zero, suc, ◌+◌, ◌<◌, Bool, false, List, length, get_or, refl, ◌∙◌, ap, arith, if◌then◌else◌}
use Rattle.std.proofs.lemmas.List.{nil_from_length, ext_get_or}
use Rattle.std.proofs.lemmas.List.FromFn.{fill_by_all}
use Rattle.std.proofs.lemmas.Bool.{cases_lt}
use Rattle.pv_memory.specs.declared.past.Range.{Range}
use Rattle.pv_memory.specs.Medium.{is_pending, pattern, IsImage, MatchesSync, image_bytes}

-- the text with the pattern of this image over each of the ranges
pub record IsPainted (text : List ℕ) (pending : List Range) (image : ℕ) (painted : List ℕ) : Type 0 where
  pub long : length painted ≡ length text
  pub each : (k : ℕ) → k < length painted → get_or painted k 0 ≡ (if is_pending pending k then pattern image k else get_or text k 0)

-- from 2 on, the image of a number is the disk's text with its pattern over each range written since the last sync
pub painted_is : (text synced : List ℕ) (pending : List Range) (image : ℕ) (painted : List ℕ) → image ≢ 0 → image ≢ 1
    → IsPainted text pending image painted → painted ≡ image_bytes text synced pending image
painted_is text synced pending zero painted some more is = absurd (some refl)
painted_is text synced pending (suc zero) painted some more is = absurd (more refl)
painted_is text synced pending (suc (suc n)) painted some more is =
    fill_by_all (λ k. if is_pending pending k then pattern (n + 2) k else get_or text k 0) painted (length text) 0 is.long (λ k h.
    is.each k (omega (arith, is.long)) ∙ ap (λ (m : ℕ). if is_pending pending k then pattern m k else get_or text k 0) (let e : suc (suc n) ≡ n + 2 = omega arith in e))

-- if nothing was written since the last sync, no place is pending
none_pending : (pending : List Range) (k : ℕ) → length pending ≡ 0 → is_pending pending k ≡ false
none_pending pending k none = ap (λ ranges. is_pending ranges k) (nil_from_length pending none)

module _ (text synced : List ℕ) (pending : List Range) (matches : MatchesSync text synced pending) where
  -- a crash may leave the disk with any pattern over the ranges that were written since the last sync
  pub painted_left : (image : ℕ) (painted : List ℕ) → IsPainted text pending image painted
      → IsImage (record { text = text; end = length synced; pending = pending }) painted
  painted_left image painted is =
      let unpainted = λ (k : ℕ) (h : k < length painted) (p : is_pending pending k ≡ false).
      is.each k h ∙ ap (λ (b : Bool). if b then pattern image k else get_or text k 0) p in
      elim (cases_lt 0 (length pending)) [
        | inl some ↦ inr (record {
          written = some;
          no_shorter = omega (arith, is.long, matches.shorter);
          kept = λ k h p. unpainted k (omega (arith, is.long, matches.shorter)) p;
        })
        | inr none ↦ inl (ext_get_or 0 painted text is.long (λ k h. unpainted k h (none_pending pending k (omega arith))))
      ]

  -- a crash may leave the disk as it was at the last sync
  pub synced_left : IsImage (record { text = text; end = length synced; pending = pending }) synced
  synced_left = elim (cases_lt 0 (length pending)) [
    | inl some ↦ inr (record { written = some; no_shorter = omega arith; kept = λ k h p. matches.same k h p })
    | inr none ↦ inl (ext_get_or 0 synced text (matches.settled (omega arith)) (λ k h. matches.same k h (none_pending pending k (omega arith))))
  ]
