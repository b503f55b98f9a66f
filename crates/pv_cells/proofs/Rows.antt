-- What a text is read as, cell by cell.
use Rattle.std.proofs.lemmas.{Grind.common_steps, Bool.{leb-true, le-leb, Decides.nat_tests}}
use Rattle.std.proofs.lemmas.List.Elements.{All-nil, All-cons, All-head, All-tail, All-append, All-same, All-replicate}
use Rattle.std.proofs.Common.{◌≡◌, ℕ, zero, suc, ◌≤◌, Bool, List, [], ◌∷◌, length, Option, Some, None, Ok, refl, ap, arith}
use Rattle.std.specs.{Prelude.{option_map, unwrap_or}, List.All}
use Rattle.pv_fields.specs.{Reading.many_at, Refusals.first_of}
use Rattle.pv_fields.proofs.CallerLemmas.{some_if-some, unless_ok, IsPadded-set, take-set, padded_list-take, length-items}
use Rattle.pv_fields.proofs.Readings.{many_more, many_ends, many_done}
use Rattle.pv_cells.specs.{Notation.{notation_at, ReadsAs}, Row.{IsCell, cell_at, row_errors, row_of_text, SpellsCells}}
use Rattle.pv_cells.specs.declared.reading.TheConstants.{LAST_CELL}

-- ---- cells

-- a cell that is read is a byte of at most 127
cell_found : (o : Option (ℕ × List ℕ)) (text : List ℕ) (cell : ℕ × List ℕ) → notation_at text ≡ o → cell_at text ≡ Some cell
    → IsCell cell.0 × (notation_at text ≡ Some cell)
cell_found None text cell is some = let never : None ≡ Some cell = rw is at some in absurd cc
cell_found (Some byte) text cell is some = grind (arith, common_steps, leb-true, some_if-some)

-- and such a byte is read as a cell
cell_again : (text : List ℕ) (cell : ℕ) (rest : List ℕ) → notation_at text ≡ Some (cell, rest) → IsCell cell
    → cell_at text ≡ Some (cell, rest)
cell_again text cell rest is small = rw (is, le-leb cell LAST_CELL small) refl

-- what was found of at most n cells
record IsFound (n : ℕ) (text : List ℕ) (found : List ℕ × List ℕ) : Type 0 where
  reads : found.1 ≡ [] → ReadsAs text found.0
  are_cells : All IsCell found.0
  fits : length found.0 ≤ n

-- what is found is the first cell and those of the rest, or nothing if no cell comes first
found_next : (n : ℕ) (text : List ℕ) (o : Option (ℕ × List ℕ)) → cell_at text ≡ o
    → ((rest : List ℕ) → IsFound n rest (many_at cell_at n rest))
    → IsFound (suc n) text (unwrap_or (option_map (λ x. let more = many_at cell_at n x.1 in (x.0 ∷ more.0, more.1)) o) ([], text))
found_next n text None is others = record { reads = λ end. end; are_cells = All-nil IsCell; fits = omega arith }
found_next n text (Some cell) is others = grind (arith, common_steps, All-cons, cell_found)

is_found : (n : ℕ) (text : List ℕ) → IsFound n text (many_at cell_at n text)
is_found zero text = record { reads = λ end. end; are_cells = All-nil IsCell; fits = omega arith }
is_found (suc n) text = found_next n text (cell_at text) refl (is_found n)

-- all cells of a text are found, if they are few enough
many_reads : (cells text : List ℕ) (n : ℕ) → ReadsAs text cells → All IsCell cells → length cells ≤ n → many_at cell_at n text ≡ (cells, [])
many_reads [] text zero reads are_cells fits = ap (λ rest. ([], rest)) reads
many_reads [] text (suc n) reads are_cells fits = ap (many_at cell_at (suc n)) reads
many_reads (cell ∷ cells) text zero reads are_cells fits = absurd (omega (arith, fits))
many_reads (cell ∷ cells) text (suc n) (rest, is, reads) are_cells fits =
    let more = many_reads cells rest n reads (All-tail IsCell cell cells are_cells) (omega (arith, fits)) in
    rw (cell_again text cell rest is (All-head IsCell cell cells are_cells), more) refl

-- ---- the row of a text

-- what has no error is read to its end
no_error : (is_full : Bool) (at : ℕ) (rest : List ℕ) → first_of (row_errors is_full at rest) ≡ None → rest ≡ []
no_error is_full at [] none = refl
no_error is_full at (first ∷ rest) none = absurd (grind (arith, nat_tests))

module _ (width : ℕ) (text row : List ℕ) where
  -- a row that is read is spelled by the text
  pub row_found : row_of_text width text ≡ Ok row → SpellsCells width text row
  row_found is = grind (arith, common_steps, is_found, no_error, unless_ok)

  -- a row that is spelled is read
  pub row_again : SpellsCells width text row → row_of_text width text ≡ Ok row
  row_again spells = grind (arith, common_steps, many_reads)

  -- each element of such a row is a cell
  pub row_cells : SpellsCells width text row → All IsCell row
  row_cells spells = grind (arith, common_steps, All-append, All-replicate, All-same)

-- what the cells so far in a row follow from
pub ruleset filling = (common_steps, IsPadded-set, take-set, padded_list-take, length-items, many_more, many_ends, many_done)
