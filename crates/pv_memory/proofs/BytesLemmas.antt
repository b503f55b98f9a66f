-- Texts that differ only in some ranges.
use Rattle.std.proofs.Common.{◌≡◌, inl, inr, ℕ, ◌+◌, ◌-◌, min, ◌<◌, ◌≤◌, Bool, ◌&&◌, List, ◌++◌, length, get_or, take, drop, sym, ◌∙◌, ap, arith, nat_le, nat_lt, if◌then◌else◌}
use Rattle.std.specs.List.{slice_range}
use Rattle.std.proofs.lemmas.List.{get_or_append_left, get_or-append_right, get_or-take, get_or-drop, length-take-le, length-drop}
use Rattle.std.proofs.lemmas.Bool.{cases_lt, lt-ltb, le-ltb, le-leb, lt-leb}

-- a copy into which a range of a longer text was put, up to the copy's end, has the text's bytes within the range, and its own outside
pub part_copied : (copy text : List ℕ) (at size from end k : ℕ) → from ≡ min at (length copy) → end ≡ min (at + size) (length copy)
    → length copy ≤ length text → k < length copy
    → get_or (take from copy ++ (slice_range text from end ++ drop (end - from) (drop from copy))) k 0 ≡ (if nat_le at k && nat_lt k (at + size) then get_or text k 0 else get_or copy k 0)
part_copied copy text at size from end k starts ends long here = elim (cases_lt k at) [
  | inl before ↦ get_or_append_left (take from copy) behind 0 k (omega (arith, front)) ∙ get_or-take from copy k 0 (omega arith) ∙ sym (ap (λ (b : Bool). if b && nat_lt k (at + size) then get_or text k 0 else get_or copy k 0) (lt-leb at k before))
  | inr after ↦
      get_or-append_right (take from copy) behind from k 0 front (omega arith)
      ∙ elim (cases_lt k (at + size)) [
        | inl inside ↦
            get_or_append_left middle (drop (end - from) (drop from copy)) 0 (k - from) (omega (arith, size_is))
            ∙ get_or-take (end - from) (drop from text) (k - from) 0 (omega arith)
            ∙ get_or-drop from text (k - from) 0
            ∙ ap (λ (n : ℕ). get_or text n 0) (let e : from + (k - from) ≡ k = omega arith in e)
            ∙ sym (ap (λ (b : Bool). if b then get_or text k 0 else get_or copy k 0) (lt-ltb k (at + size) inside))
            ∙ sym (ap (λ (b : Bool). if b && nat_lt k (at + size) then get_or text k 0 else get_or copy k 0) (le-leb at k after))
        | inr behind_it ↦
            get_or-append_right middle (drop (end - from) (drop from copy)) (end - from) (k - from) 0 size_is (omega arith)
            ∙ get_or-drop (end - from) (drop from copy) (k - from - (end - from)) 0
            ∙ get_or-drop from copy (end - from + (k - from - (end - from))) 0
            ∙ ap (λ (n : ℕ). get_or copy n 0) (let e : from + (end - from + (k - from - (end - from))) ≡ k = omega arith in e)
            ∙ sym (ap (λ (b : Bool). if b then get_or text k 0 else get_or copy k 0) (le-ltb k (at + size) behind_it))
            ∙ sym (ap (λ (b : Bool). if b && nat_lt k (at + size) then get_or text k 0 else get_or copy k 0) (le-leb at k after))
      ]
]
  where
    middle : List ℕ
    middle = slice_range text from end

    behind : List ℕ
    behind = middle ++ drop (end - from) (drop from copy)

    front : length (take from copy) ≡ from
    front = length-take-le from copy (omega arith)

    size_is : length middle ≡ end - from
    size_is = length-take-le (end - from) (drop from text) (omega (arith, length-drop from text))
