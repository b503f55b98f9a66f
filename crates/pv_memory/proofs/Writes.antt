-- What a write does to the bytes of a disk, and to the images that a crash may leave.
use Rattle.std.proofs.Common.{◌≡◌, ◌⊎◌, inl, inr, ℕ, ◌+◌, ◌-◌, ◌<◌, ◌≤◌, Bool, true, false, ◌&&◌, ◌||◌, List, [], ◌∷◌, ◌++◌, length, get_or, take, drop, map, refl, sym, ◌∙◌, ap, subst, arith, nat_le, nat_lt, if◌then◌else◌, length-append, append_assoc, take-append-drop, rules}
use Rattle.std.specs.List.{range_with_len}
use Rattle.std.proofs.lemmas.List.{take_at, drop_at, drop-drop, nil_from_length}
use Rattle.std.proofs.lemmas.List.FromFn.{length-map-range_with_len, get_or-map-range_with_len}
use Rattle.std.proofs.lemmas.List.Folds.{list_any-append}
use Rattle.std.proofs.lemmas.List.Elements.{All-push}
use Rattle.std.proofs.lemmas.Bool.{cases_lt, lt-leb, le-ltb, or_parts, or_from}
use Rattle.std.proofs.Math.Bool.{and-false}
use Rattle.pv_outside.specs.Disk.{Torn, text_after_write, Follows}
use Rattle.pv_outside.specs.declared.disk.TheConstants.{MAX_UNSYNCED}
use Rattle.pv_outside.proofs.CallerLemmas.{front, written_end, length-text_after_write, stands, torn_written}
use Rattle.pv_memory.specs.declared.past.Range.{Range}
use Rattle.pv_memory.specs.Medium.{is_within, is_pending, Moment, IsTorn, IsImage, MatchesSync, IsEachWithin}

module _ (at : ℕ) (bytes text : List ℕ) (within : at ≤ length text) where
  -- what stood in the range of a write, put back there, gives the text from before the write
  pub put_back : take at (text_after_write at bytes text) ++ take (length bytes) (drop at text) ++ drop (at + length bytes) (text_after_write at bytes text) ≡ text
  put_back =
      let before : take at (text_after_write at bytes text) ≡ take at text =
      ap (λ (l : List ℕ). take at l) (append_assoc (take at text) bytes (drop (at + length bytes) text)) ∙ take_at (take at text) (bytes ++ drop (at + length bytes) text) at (front at bytes text within) in
      let behind : drop (at + length bytes) (text_after_write at bytes text) ≡ drop (length bytes) (drop at text) =
      drop_at (take at text ++ bytes) (drop (at + length bytes) text) (at + length bytes) (written_end at bytes text within) ∙ sym (drop-drop (length bytes) at text) in
      (λ i. before i ++ take (length bytes) (drop at text) ++ behind i)
      ∙ append_assoc (take at text) (take (length bytes) (drop at text)) (drop (length bytes) (drop at text))
      ∙ ap (λ (l : List ℕ). take at text ++ l) (take-append-drop (length bytes) (drop at text))
      ∙ take-append-drop at text

-- a place that is not within a range lies before it or after it
outside : (range : Range) (k : ℕ) → is_within range k ≡ false → (k < range.at) ⊎ (range.at + range.size ≤ k)
outside range k out = grind arith

-- a place that lies before a range or after it is not within it
is_outside : (range : Range) (k : ℕ) → (k < range.at) ⊎ (range.at + range.size ≤ k) → is_within range k ≡ false
is_outside range k (inl before) = ap (λ (b : Bool). b && nat_lt k (range.at + range.size)) (lt-leb range.at k before)
is_outside range k (inr behind) = ap (λ (b : Bool). nat_le range.at k && b) (le-ltb k (range.at + range.size) behind) ∙ and-false (nat_le range.at k)

-- a place is pending after one write more where it was before, or where it lies in the range of this write
pending_push : (pending : List Range) (range : Range) (k : ℕ)
    → is_pending (pending ++ range ∷ []) k ≡ (is_pending pending k || (is_within range k || false))
pending_push pending range k = list_any-append (λ r. is_within r k) pending (range ∷ [])

-- a place that is not pending after a write was not pending before, and does not lie in its range
not_in_push : (pending : List Range) (range : Range) (k : ℕ) → is_pending (pending ++ range ∷ []) k ≡ false
    → (is_pending pending k ≡ false) × (is_within range k ≡ false)
not_in_push pending range k out = search (rules, or_parts, pending_push)

-- a place that was not pending, and does not lie in the range of a write, is not pending after it
in_neither : (pending : List Range) (range : Range) (k : ℕ) → is_pending pending k ≡ false → is_within range k ≡ false
    → is_pending (pending ++ range ∷ []) k ≡ false
in_neither pending range k p q = pending_push pending range k ∙ or_from (is_pending pending k) (is_within range k || false) p (or_from (is_within range k) false q refl)

-- A write of these bytes at this place.
module _ (at : ℕ) (bytes text synced : List ℕ) (pending : List Range) (matches : MatchesSync text synced pending) (within : at ≤ length text) where
  -- the range of this write
  abbrev range : Range
  range = record { at = at; size = length bytes }

  -- after it the text ends where it ended, or at the write's end where that lies further
  long : length (text_after_write at bytes text) ≡ at + length bytes + (length text - (at + length bytes))
  long = length-text_after_write at bytes text within

  -- the ranges that were written before still lie within the text
  still_within : IsEachWithin pending (length (text_after_write at bytes text))
  still_within k d h = omega (arith, long, matches.within k d h)

  -- a write keeps what a disk keeps: the text and that of the last sync differ in the ranges written since alone
  pub matches_after : length pending < MAX_UNSYNCED → MatchesSync (text_after_write at bytes text) synced (pending ++ range ∷ [])
  matches_after few = record {
    shorter = omega (arith, matches.shorter, long);
    within = All-push (λ r. r.at + r.size ≤ length (text_after_write at bytes text)) pending range still_within (omega (arith, long));
    same = λ k h out. let parts = not_in_push pending range k out in matches.same k h parts.0 ∙ sym (stands at bytes text within k (outside range k parts.1));
    settled = λ none. absurd (omega (arith, none, length-append pending (range ∷ [])));
    few = omega (arith, few, length-append pending (range ∷ []));
  }

  -- what a crash depends on before the write
  abbrev old_moment : Moment
  old_moment = record { text = text; end = length synced; pending = pending }

  -- what a crash depends on after the write
  abbrev new_moment : Moment
  new_moment = record { text = text_after_write at bytes text; end = length synced; pending = pending ++ range ∷ [] }

  -- a byte of the image from before the write: in the write's range what the disk read there, and else what the image has
  byte_before : List ℕ → ℕ → ℕ
  byte_before image k = if is_within range k then get_or text k 0 else get_or image k 0

  -- the image from before the write, as long as the disk was at the last sync
  image_before : List ℕ → List ℕ
  image_before image = map (byte_before image) (range_with_len 0 (length synced))

  -- the image from before the write has its bytes
  byte_is : (image : List ℕ) (k : ℕ) → k < length synced → get_or (image_before image) k 0 ≡ byte_before image k
  unfolding image_before
  byte_is image k h = get_or-map-range_with_len (byte_before image) 0 (length synced) k k 0 h (omega arith)

  -- the image from before the write is as long as the disk was at the last sync
  length-image_before : (image : List ℕ) → length (image_before image) ≡ length synced
  unfolding image_before
  length-image_before image = length-map-range_with_len (byte_before image) 0 (length synced)

  -- outside of the write's range the image has the same bytes before the write and after it
  outside_byte : (image : List ℕ) (k : ℕ) → is_within range k ≡ false → byte_before image k ≡ get_or image k 0
  unfolding byte_before
  outside_byte image k out = ap (λ (b : Bool). if b then get_or text k 0 else get_or image k 0) out

  module _ (image : List ℕ) (torn : IsTorn new_moment image) where
    -- what was not written since the last sync stands in the image as it stood in the text
    kept_byte : (k : ℕ) → k < length synced → is_pending pending k ≡ false → is_within range k ≡ false → get_or image k 0 ≡ get_or text k 0
    kept_byte k h p q = torn.kept k h (in_neither pending range k p q) ∙ stands at bytes text within k (outside range k q)

    -- what was not pending before the write stands in the image from before it as it stood in the text
    kept_before : (k : ℕ) → k < length synced → is_pending pending k ≡ false → byte_before image k ≡ get_or text k 0
    unfolding byte_before
    kept_before k h p = go (is_within range k) refl
      where
        go : (b : Bool) → is_within range k ≡ b → (if is_within range k then get_or text k 0 else get_or image k 0) ≡ get_or text k 0
        go true e = ap (λ (b : Bool). if b then get_or text k 0 else get_or image k 0) e
        go false e = ap (λ (b : Bool). if b then get_or text k 0 else get_or image k 0) e ∙ kept_byte k h p e

    -- if nothing else was written since the last sync, the image is the old text, torn in the write's range
    from_text : length pending ≡ 0 → Torn at (length bytes) text image
    from_text none = record {
      no_shorter = omega (arith, matches.settled none, torn.no_shorter);
      outside = λ k h out. kept_byte k (omega (arith, matches.settled none)) (ap (λ ranges. is_pending ranges k) (nil_from_length pending none)) (is_outside range k out);
    }

    -- if something was, the image from before the write is one that a crash might have left then, and the image is that one, torn in the write's range
    from_torn : 0 < length pending → IsTorn old_moment (image_before image) × Torn at (length bytes) (image_before image) image
    from_torn some = (
      record {
        written = some;
        no_shorter = omega (arith, length-image_before image);
        kept = λ k h p. byte_is image k h ∙ kept_before k h p;
      },
      record {
        no_shorter = omega (arith, length-image_before image, torn.no_shorter);
        outside = λ k h out. sym (byte_is image k (omega (arith, length-image_before image)) ∙ outside_byte image k (is_outside range k out));
      },
    )

  -- each image that a crash may leave after a write is one that it might have left before, torn in the write's range
  pub torn_by : Follows (Torn at (length bytes)) (IsImage old_moment) (IsImage new_moment)
  torn_by image (inl same) = (text, inl refl, subst (λ (l : List ℕ). Torn at (length bytes) text l) (sym same) (torn_written at bytes text within))
  torn_by image (inr torn) = elim (cases_lt 0 (length pending)) [
    | inl some ↦ let parts = from_torn image torn some in (image_before image, inr parts.0, parts.1)
    | inr none ↦ (text, inl refl, from_text image torn (omega arith))
  ]
