-- What a reply to an editor looks like.
use Rattle.std.specs.Prelude.{◌≡◌, ℕ, ◌==◌, Bool, true, not, List, ◌∷◌}
use Rattle.std.specs.Int.{IsInRange}
use Rattle.std.specs.List.{list_all}
use Rattle.pv_network.specs.declared.outcome.Outcome.{Outcome}
use Rattle.pv_network.specs.declared.outcome.Outcome.TheVariants.{Reply}

-- the byte is no line end
abbrev pub is_not_line_end : ℕ → Bool
is_not_line_end byte = not (byte == 10)

-- the text has no line end
abbrev pub HasNoLineEnd : List ℕ → Type 0
HasNoLineEnd text = list_all is_not_line_end text ≡ true

-- the codes of A and of Z
abbrev pub first_capital : ℕ
first_capital = 65

abbrev pub last_capital : ℕ
last_capital = 90

-- the text stands on one row, and begins with a capital letter
pub record IsReplyLine (text : List ℕ) : Type 0 where
  pub whole : HasNoLineEnd text
  pub first : ℕ
  pub rest : List ℕ
  pub is : text ≡ first ∷ rest
  pub capital : IsInRange first_capital last_capital first

-- an outcome that is a reply is such a text
abbrev pub RepliesByLine : Outcome → Type 0
RepliesByLine (Reply text) = IsReplyLine text
RepliesByLine _ = Unit {0}
