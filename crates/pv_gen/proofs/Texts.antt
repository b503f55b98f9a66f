-- The texts of lines, made of their parts.
use Rattle.std.proofs.Common.{◌≡◌, ℕ, ◌+◌, List, [], ◌∷◌, ◌++◌, flat_map, codes, decimal, sym, ap, ◌∙◌, append_assoc}
use Rattle.pv_gen.specs.Script.{page_lines, page_at_place}
use Rattle.pv_gen.specs.Writing.{lines_text}

-- a number at the end of its line, before other text
ends : (number later : List ℕ) → number ++ 10 ∷ later ≡ (number ++ 10 ∷ []) ++ later
ends number later = sym (append_assoc number (10 ∷ []) later)

-- a number, a byte and the end of its line, before other text
ends_after : (number : List ℕ) (byte : ℕ) (later : List ℕ) → number ++ byte ∷ 10 ∷ later ≡ ((number ++ byte ∷ []) ++ 10 ∷ []) ++ later
ends_after number byte later = sym (append_assoc number (byte ∷ []) (10 ∷ later)) ∙ ends (number ++ byte ∷ []) later

module _ (a b c d : List ℕ) where
  -- the parts of a page's lines, from each number on: as they are written
  abbrev store_parts : List ℕ
  store_parts = d ++ codes "\n"

  abbrev price_parts : List ℕ
  price_parts = c ++ (codes "\nedit 0 STORE " ++ store_parts)

  abbrev place_parts : List ℕ
  place_parts = b ++ (codes "\nedit 0 PRICE " ++ price_parts)

  abbrev page_parts : List ℕ
  page_parts = a ++ (codes "a\nedit 0 ROW 2 FRAME " ++ place_parts)

  -- and as lines with their ends
  abbrev store_line : List ℕ
  store_line = (d ++ 10 ∷ []) ++ []

  abbrev price_line : List ℕ
  price_line = (c ++ 10 ∷ []) ++ (codes "edit 0 STORE " ++ store_line)

  abbrev place_line : List ℕ
  place_line = (b ++ 10 ∷ []) ++ (codes "edit 0 PRICE " ++ price_line)

  abbrev page_line : List ℕ
  page_line = ((a ++ codes "a") ++ 10 ∷ []) ++ (codes "edit 0 ROW 2 FRAME " ++ place_line)

  -- which are the same
  from_price : price_parts ≡ price_line
  from_price = ap (λ (l : List ℕ). c ++ (codes "\nedit 0 STORE " ++ l)) (ends d []) ∙ ends c (codes "edit 0 STORE " ++ store_line)

  from_place : place_parts ≡ place_line
  from_place = ap (λ (l : List ℕ). b ++ (codes "\nedit 0 PRICE " ++ l)) from_price ∙ ends b (codes "edit 0 PRICE " ++ price_line)

  from_page : page_parts ≡ page_line
  from_page = ap (λ (l : List ℕ). a ++ (codes "a\nedit 0 ROW 2 FRAME " ++ l)) from_place ∙ ends_after a 97 (codes "edit 0 ROW 2 FRAME " ++ place_line)

  -- so the parts are the text of the lines
  pub page-text : (place price : ℕ) → a ≡ decimal (page_at_place place) → b ≡ decimal place → c ≡ decimal price → d ≡ decimal (place + 1)
      → flat_map (λ (part : List ℕ). part) (codes "edit 0 NEW " ∷ a ∷ codes "a\nedit 0 ROW 2 FRAME " ∷ b ∷ codes "\nedit 0 PRICE " ∷ c
      ∷ codes "\nedit 0 STORE " ∷ d ∷ codes "\n" ∷ []) ≡ lines_text (page_lines place price)
  page-text place price e f g h = rw (sym e, sym f, sym g, sym h) (ap (λ (l : List ℕ). codes "edit 0 NEW " ++ l) from_page)
