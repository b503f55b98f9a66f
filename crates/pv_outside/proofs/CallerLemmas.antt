-- What crates above may cite of the bytes of a disk: what a write makes of a text.
use Rattle.std.proofs.Common.{◌≡◌, ◌⊎◌, inl, inr, ℕ, ◌+◌, ◌-◌, ◌<◌, ◌≤◌, List, ◌++◌, length, get_or, take, drop, refl, ◌∙◌, ap, arith, length-append}
use Rattle.std.proofs.lemmas.List.{length-take-le, length-drop, get_or_append_left, get_or-append_right, get_or-append-add, get_or-take, get_or-drop}
use Rattle.pv_outside.specs.Disk.{Torn, text_after_write}

-- A write of these bytes at this place, which is at most the end.
module _ (at : ℕ) (bytes text : List ℕ) (within : at ≤ length text) where
  -- before its place stand as many bytes as the place says
  pub front : length (take at text) ≡ at
  front = length-take-le at text within

  -- with the bytes that are written there are as many as the place and their number
  pub written_end : length (take at text ++ bytes) ≡ at + length bytes
  written_end = omega (arith, length-append (take at text) bytes, front)

  -- after it the text ends where it ended, or at the write's end if that is further
  pub length-text_after_write : length (text_after_write at bytes text) ≡ at + length bytes + (length text - (at + length bytes))
  length-text_after_write =
      omega (arith, length-append (take at text ++ bytes) (drop (at + length bytes) text), written_end, length-drop (at + length bytes) text)

  -- outside of its range it changes no byte
  pub stands : (k : ℕ) → (k < at) ⊎ (at + length bytes ≤ k) → get_or (text_after_write at bytes text) k 0 ≡ get_or text k 0
  stands k (inl h) =
      get_or_append_left (take at text ++ bytes) (drop (at + length bytes) text) 0 k (omega (arith, written_end))
      ∙ get_or_append_left (take at text) bytes 0 k (omega (arith, front)) ∙ get_or-take at text k 0 h
  stands k (inr h) =
      get_or-append_right (take at text ++ bytes) (drop (at + length bytes) text) (at + length bytes) k 0 written_end h
      ∙ get_or-drop (at + length bytes) text (k - (at + length bytes)) 0
      ∙ ap (λ (n : ℕ). get_or text n 0) (let e : at + length bytes + (k - (at + length bytes)) ≡ k = omega arith in e)

  -- within it stand the bytes that were written
  pub inside : (k i : ℕ) → i ≡ at + k → k < length bytes → get_or (text_after_write at bytes text) i 0 ≡ get_or bytes k 0
  inside k i is h =
      get_or_append_left (take at text ++ bytes) (drop (at + length bytes) text) 0 i (omega (arith, written_end))
      ∙ ap (λ (n : ℕ). get_or (take at text ++ bytes) n 0) (let e : i ≡ length (take at text) + k = omega (arith, front) in e)
      ∙ get_or-append-add (take at text) bytes k 0

  -- so the text after it is the one from before it, torn in its range
  pub torn_written : Torn at (length bytes) text (text_after_write at bytes text)
  torn_written = record { no_shorter = omega (arith, length-text_after_write); outside = λ k h out. stands k out }

-- an image is itself, torn or not
pub torn_none : (at n : ℕ) (image : List ℕ) → Torn at n image image
torn_none at n image = record { no_shorter = omega arith; outside = λ i h out. refl }
