-- The nodes of a network, of which some may not be there, and what there is for each of its centres.
use Rattle.std.specs.Prelude.{ℕ, List, ◌++◌, length, Option, None, Some}

-- what is there became so, and what is not there stays so
abbrev pub IfThere : {S T : Type 0} → (S → T → Type 0) → Option S → Option T → Type 0
IfThere Becomes None None = Unit {0}
IfThere Becomes (Some old) (Some new) = Becomes old new
IfThere Becomes old new = ⊥

-- one for each centre of a network
pub record PerCentre (X : Type 0) : Type 0 where
  pub first : X
  pub second : X
  pub third : X
  pub fourth : X

-- a row for each centre, as one list
abbrev pub all_rows : {X : Type 0} → PerCentre (List X) → List X
all_rows rows = rows.first ++ (rows.second ++ (rows.third ++ rows.fourth))

-- how long each row is
abbrev pub row_lengths : {X : Type 0} → PerCentre (List X) → PerCentre ℕ
row_lengths rows = record {
  first = length rows.first;
  second = length rows.second;
  third = length rows.third;
  fourth = length rows.fourth;
}
