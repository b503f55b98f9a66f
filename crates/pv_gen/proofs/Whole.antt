-- The script as its five parts, one after another.
use Rattle.std.proofs.Common.{◌≡◌, ℕ, ◌*◌, List, [], ◌∷◌, ◌++◌, map, flat_map, refl, ap, ◌∙◌, append_assoc}
use Rattle.std.specs.List.{range_with_len}
use Rattle.std.proofs.lemmas.Grind.{flat_map-append}
use Rattle.std.proofs.lemmas.List.Folds.{flat_map-map}
use Rattle.pv_gen.specs.Script.{opening_lines, page_lines, price_at, page_text, call_lines}
use Rattle.pv_gen.specs.Script.{fetch_line, fetched_at, fetch_text, closing_lines, script_of}
use Rattle.pv_gen.specs.Writing.{line_text, lines_text}
use Rattle.pv_gen.specs.declared.writing.TheConstants.{FETCHES}

-- the text of all pages is made of the text of each
lines_text-flat_map : (lines : ℕ → List (List ℕ)) (xs : List ℕ) → lines_text (flat_map lines xs) ≡ flat_map (λ (x : ℕ). lines_text (lines x)) xs
lines_text-flat_map lines [] = refl
lines_text-flat_map lines (x ∷ xs) =
    flat_map-append line_text (lines x) (flat_map lines xs) ∙ ap (λ (l : List ℕ). lines_text (lines x) ++ l) (lines_text-flat_map lines xs)

-- the text of five lists of lines
lines_text-parts : (o p c f z : List (List ℕ))
    → lines_text (o ++ p ++ c ++ f ++ z) ≡ lines_text o ++ lines_text p ++ lines_text c ++ lines_text f ++ lines_text z
lines_text-parts o p c f z =
    flat_map-append line_text (o ++ p ++ c ++ f) z
    ∙ ap (λ (l : List ℕ). l ++ lines_text z) (flat_map-append line_text (o ++ p ++ c) f)
    ∙ ap (λ (l : List ℕ). l ++ lines_text f ++ lines_text z) (flat_map-append line_text (o ++ p) c)
    ∙ ap (λ (l : List ℕ). l ++ lines_text c ++ lines_text f ++ lines_text z) (flat_map-append line_text o p)

module _ (number : ℕ) where
  -- what makes the pages, and what fetches them
  abbrev pub pages : List ℕ
  pages = flat_map (page_text number) (range_with_len 1 number)

  abbrev pub fetches : List ℕ
  fetches = flat_map (fetch_text number) (range_with_len 1 (FETCHES * number))

  -- what comes after the call, after the pages, after the opening
  abbrev pub after_call : List ℕ
  after_call = fetches ++ lines_text closing_lines

  abbrev pub after_pages : List ℕ
  after_pages = lines_text call_lines ++ after_call

  abbrev pub after_opening : List ℕ
  after_opening = pages ++ after_pages

  -- the script, with its last part apart, and so on
  pub closing_apart : script_of number ≡ (lines_text opening_lines ++ pages ++ lines_text call_lines ++ fetches) ++ lines_text closing_lines
  closing_apart =
      let made = flat_map (λ (place : ℕ). page_lines place (price_at number place)) (range_with_len 1 number) in
      let keyed = map (λ (fetch : ℕ). fetch_line (fetched_at number fetch)) (range_with_len 1 (FETCHES * number)) in
      lines_text-parts opening_lines made call_lines keyed closing_lines
      ∙ ap (λ (l : List ℕ). lines_text opening_lines ++ l ++ lines_text call_lines ++ lines_text keyed ++ lines_text closing_lines)
      (lines_text-flat_map (λ (place : ℕ). page_lines place (price_at number place)) (range_with_len 1 number))
      ∙ ap (λ (l : List ℕ). lines_text opening_lines ++ pages ++ lines_text call_lines ++ l ++ lines_text closing_lines)
      (flat_map-map line_text (λ (fetch : ℕ). fetch_line (fetched_at number fetch)) (range_with_len 1 (FETCHES * number)))

  pub call_apart : script_of number ≡ (lines_text opening_lines ++ pages) ++ lines_text call_lines ++ after_call
  call_apart = closing_apart ∙ append_assoc (lines_text opening_lines ++ pages ++ lines_text call_lines) fetches (lines_text closing_lines)

  pub pages_apart : script_of number ≡ lines_text opening_lines ++ pages ++ after_pages
  pages_apart = call_apart ∙ append_assoc (lines_text opening_lines ++ pages) (lines_text call_lines) after_call

  pub opening_apart : script_of number ≡ lines_text opening_lines ++ after_opening
  opening_apart = pages_apart ∙ append_assoc (lines_text opening_lines) pages after_pages
