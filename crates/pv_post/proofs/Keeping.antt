-- How the letters of other numbers are moved to the first places.
use Rattle.std.proofs.Common.{◌≡◌, ℕ, ◌+◌, ◌<◌, ◌≤◌, true, false, eqb, not, List, [], ◌∷◌, ◌++◌, length, get_or, set, take, drop, sym, ap, ◌∙◌, refl, arith}
use Rattle.std.proofs.lemmas.List.{append-nil, take_more, take_more_set, get_or-drop, drop-drop, drop-set-lt}
use Rattle.std.proofs.lemmas.List.Elements.{filter-append}
use Rattle.pv_post.specs.Boxes.{WaitingLetter, without_letter}

-- The first `place` of the old letters were sorted: `kept` of them stand at the first places now, and the later ones where they stood.
module _ (old now : List WaitingLetter) (kept place number : ℕ) (sorted : take kept now ≡ without_letter (take place old) number)
    (within : kept ≤ place) (rest : drop place now ≡ drop place old) (here : place < length now) (long : length now ≡ length old)
    (letter : WaitingLetter) (reads : letter ≡ get_or now place letter) where
  -- the next letter stands where it stood
  next : letter ≡ get_or old place letter
  next =
      let at : place + 0 ≡ place = omega arith in
      reads ∙ ap (λ n. get_or now n letter) (sym at) ∙ sym (get_or-drop place now 0 letter) ∙ ap (λ l. get_or l 0 letter) rest
      ∙ get_or-drop place old 0 letter ∙ ap (λ n. get_or old n letter) at

  -- what is left of the old letters with the next one
  one_more : without_letter (take (place + 1) old) number ≡ without_letter (take place old) number ++ without_letter (letter ∷ []) number
  one_more =
      ap (λ l. without_letter l number) (take_more old place letter (omega (arith, here, long)))
      ∙ filter-append (λ (l : WaitingLetter). not (eqb l.number number)) (take place old) (get_or old place letter ∷ [])
      ∙ ap (λ l. without_letter (take place old) number ++ without_letter (l ∷ []) number) (sym next)

  -- it is kept if it has another number
  pub kept_other : eqb letter.number number ≡ false → take (kept + 1) (set now kept letter) ≡ without_letter (take (place + 1) old) number
  kept_other other =
      take_more_set now kept letter (omega (arith, within, here)) ∙ ap (λ l. l ++ letter ∷ []) sorted ∙ sym (one_more ∙ rw other refl)

  -- and left out if it has this one
  pub left_out : eqb letter.number number ≡ true → take kept now ≡ without_letter (take (place + 1) old) number
  left_out same = sorted ∙ sym (one_more ∙ rw same (append-nil (without_letter (take place old) number)))

  -- the letters after it stand where they stood
  pub after_skipped : drop (place + 1) now ≡ drop (place + 1) old
  after_skipped = sym (drop-drop 1 place now) ∙ ap (λ l. drop 1 l) rest ∙ drop-drop 1 place old

  pub after_kept : drop (place + 1) (set now kept letter) ≡ drop (place + 1) old
  after_kept = drop-set-lt (place + 1) now kept letter (omega (arith, within)) ∙ after_skipped
