use Rattle.std.proofs.Common.{◌≡◌, ℕ, ◌^◌, List, Some, subst, sym}
use Rattle.pv_words.specs.Numbers.{IsBelow}
use Rattle.pv_frame.specs.declared.field.FieldKind.{FieldKind}
use Rattle.pv_words.specs.Parts.{AreThree}
use Rattle.pv_words.proofs.Values.{missing}
use Rattle.pv_editor.specs.Parts.{IsFieldKindText}
use Rattle.pv_editor.proofs.cells.FieldTextReader.read.Goals as goal

-- a column, a length and a kind
abbrev Others : List ℕ → ℕ × ℕ × FieldKind → Type 0
Others tail others = AreThree (IsBelow (2 ^ 8)) (IsBelow (2 ^ 8)) IsFieldKindText tail others

-- what follows the row is no column, length and kind
pub returns-in_err-column-clause-only : goal.returns-in_err-column-clause-only
returns-in_err-column-clause-only c = λ value is.
    let same = c.split_word.ensures.only is.word is.later is.split in
    let parts : ℕ × ℕ × FieldKind = (value.column, value.length, value.kind) in
    absurd (missing _ (c.in_err-column.ensures.only parts (subst (λ (t : List ℕ). Others t parts) (sym same.1) is.others)))

pub returns-clause-only : goal.returns-clause-only
returns-clause-only c = λ value is.
    let same = c.split_word.ensures.only is.word is.later is.split in
    let parts : ℕ × ℕ × FieldKind = (value.column, value.length, value.kind) in
    let first = c.in_ok-row.ensures.only value.row (subst (λ (t : List ℕ). IsBelow (2 ^ 8) value.row t) (sym same.0) is.first) in
    let later = c.in_ok-column.ensures.only parts (subst (λ (t : List ℕ). Others t parts) (sym same.1) is.others) in
    let row : c.in_ok-row.row ≡ value.row = cc in
    let others : (c.in_ok-column.column, c.in_ok-column.length, c.in_ok-column.kind) ≡ parts = cc in
    λ i. Some (record { row = row i; column = (others i).0; length = (others i).1; kind = (others i).2 })
