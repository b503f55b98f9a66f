-- The test that bytes are cells.
use Rattle.std.proofs.Common.{◌≡◌, ℕ, ◌<◌, Bool, true, false, List, length, get_or, All, inl, inr, refl, sym, arith}
use Rattle.std.proofs.lemmas.{Bool.{cases_lt, leb-true, le-leb, lt-leb, Decides.Decides-by_and}, List.{get_or_past, get_or_default}}
use Rattle.std.{proofs.lemmas.List.Folds.list_all_at, specs.{Bool.{MatchBool, Decides}, List.list_all, Str.{IsAscii, IsNotAscii}}}
use Rattle.pv_frame.proofs.Vocabulary.{IsCell, is_cell}

-- bytes are cells exactly if they pass
pub Decides-cells : (cells : List ℕ) → Decides (list_all is_cell cells) (All IsCell cells)
Decides-cells =
    Decides-by_and is_cell IsCell (list_all is_cell) (λ cell. (leb-true cell 127, le-leb cell 127)) refl (λ _ _. refl)

-- the test by words of eight bytes is that test
pub are_cells_is : (result : Bool) (cells : List ℕ) → MatchBool result (IsAscii cells) (IsNotAscii cells) → result ≡ list_all is_cell cells
are_cells_is true cells ascii = sym ((Decides-cells cells).1 (λ k d within. omega (arith, get_or_default cells k d 0 within, ascii k)))
are_cells_is false cells other =
    let i = other.0 in
    let within : i < length cells = elim (cases_lt i (length cells)) [
      | inl lt ↦ lt
      | inr past ↦ absurd (omega (arith, get_or_past cells i 0 past, other.1))
    ] in
    sym (list_all_at is_cell cells i 0 within (lt-leb (get_or cells i 0) 127 (omega (arith, other.1))))
