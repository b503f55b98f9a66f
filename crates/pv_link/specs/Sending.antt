-- An end that sends, and the numbers that it gives.
use Rattle.std.specs.Prelude.{ℕ, zero, suc, ◌+◌, ◌&&◌, nat_le, nat_lt, List, [], Option, Some, None, if◌then◌else◌}
use Rattle.std.specs.List.{cons_option}

-- all numbers below `acknowledged` are acknowledged, and `next` is given next
pub record SendingEnd : Type 0 where
  pub acknowledged : ℕ
  pub next : ℕ

-- an end that gave no number
abbrev pub new_end : SendingEnd
new_end = record { acknowledged = 0; next = 0 }

-- the number that is due, if one below the count is not acknowledged: the next one, if it is among these, else the first of them
abbrev pub number_due : SendingEnd → ℕ → ℕ
number_due end front = if nat_le end.acknowledged end.next && nat_lt end.next front then end.next else end.acknowledged

-- the number that an end gives: none if all below the count are acknowledged
abbrev pub number_to_give : SendingEnd → ℕ → Option ℕ
number_to_give end front = if nat_lt end.acknowledged front then Some (number_due end front) else None

-- the end after it gave that number
abbrev pub end_after : SendingEnd → ℕ → SendingEnd
end_after end front = if nat_lt end.acknowledged front then record end { next = number_due end front + 1 } else end

-- an end that hears that all numbers below n are acknowledged: it keeps the greatest n up to the count
abbrev pub end_that_heard : SendingEnd → ℕ → ℕ → SendingEnd
end_that_heard end n front = if nat_lt end.acknowledged n && nat_le n front then record end { acknowledged = n } else end

-- the numbers that an end gives if it is asked this often, with one count
unfoldable pub numbers_to_give : ℕ → SendingEnd → ℕ → List ℕ
numbers_to_give zero end front = []
numbers_to_give (suc times) end front = cons_option (number_to_give end front) (numbers_to_give times (end_after end front) front)
