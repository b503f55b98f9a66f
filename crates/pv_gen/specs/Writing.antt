-- Lines as a text, and what it means that a text is written.
use Rattle.std.specs.Prelude.{ℕ, List, [], ◌∷◌, ◌++◌, flat_map, Option, Result}
use Rattle.pv_outside.specs.Counts.{CountsFaults}
use Rattle.pv_outside.specs.Sink.{Writes}
use Rattle.pv_outside.specs.declared.failed.Failed.{Failed}

-- a line with its end
abbrev pub line_text : List ℕ → List ℕ
line_text line = line ++ 10 ∷ []

-- lines, one after another
abbrev pub lines_text : List (List ℕ) → List ℕ
lines_text lines = flat_map line_text lines

-- The text is appended, as far as the sink reports it; or a prefix of it is, perhaps none or all, and the count of faults rose.
pub record AppendsOrFails {T : Type 0} (before now : Option (List ℕ)) (faults_before faults_now : ℕ)
    (result : Result T Failed) (text : List ℕ) : Type 0 where
  pub written : Writes before now result text
  pub account : CountsFaults faults_before faults_now result
