-- Groups of accounts and frames: their numbers, their spelling in bytes, and what is read as groups.
use Rattle.std.specs.Prelude.{◌≡◌, ℕ, ◌<◌, ◌≤◌, ◌^◌, Bool, true, ◌&&◌, ◌==◌, nat_lt, List, [], ◌∷◌, length, take, flat_map}
use Rattle.std.specs.Int.{w16, to_be_bytes}
use Rattle.std.specs.List.{AllByRecursion, count_by}
use Rattle.pv_fields.specs.Padded.{IsPadded}
use Rattle.pv_fields.specs.Reading.{Parser, number_at, passing, list_at}

-- each number is above the one before it, and the first above this one
abbrev pub rises : ℕ → List ℕ → Bool
rises last [] = true
rises last (number ∷ numbers) = nat_lt last number && rises number numbers

-- at most n different numbers from 1 to 65,535, in rising order
pub record AreGroups (n : ℕ) (groups : List ℕ) : Type 0 where
  pub numbers : AllByRecursion (λ group. group < 2 ^ 16) groups
  pub fits : length groups ≤ n
  pub rises : rises 0 groups ≡ true

-- how many times a list has a number
abbrev pub occurrences : ℕ → List ℕ → ℕ
occurrences number list = count_by (λ other. other == number) list

-- some number is in the list more than once
abbrev pub HasTwoEqual : List ℕ → Type 0
HasTwoEqual list = (number : ℕ) × (1 < occurrences number list)

-- the first `count` of n places hold groups, and the others 0; a byte can count them
pub record AreGroupsInside (n count : ℕ) (places : List ℕ) : Type 0 where
  pub small : n < 256
  pub padded : IsPadded 0 n count places
  pub groups : AreGroups n (take count places)

-- how groups are spelled: their count, and each in two bytes
unfoldable pub groups_bytes : List ℕ → List ℕ
groups_bytes groups = length groups ∷ flat_map (to_be_bytes w16) groups

-- the groups that bytes begin with
unfoldable pub groups_at : ℕ → Parser (List ℕ)
groups_at n = passing (rises 0) (list_at 0 n (number_at w16))
