-- What was read of a source, and why it was not read to its end.
use Rattle.std.specs.Prelude.{◌≡◌, ℕ, ◌+◌, ◌≤◌, Bool, IsTrue, List, [], length, Option, Some, None}
use Rattle.std.specs.Io.KnownBytes.{Appends, Consumes}
use Rattle.pv_outside.specs.Counts.{Rose}
use Rattle.pv_outside.specs.declared.status.Status.{Status}
use Rattle.pv_outside.specs.declared.status.Status.TheVariants as statuses
use Rattle.pv_input.specs.declared.text.ReadEnd.{ReadEnd}
use Rattle.pv_input.specs.declared.text.ReadEnd.TheVariants as ends

-- how many bytes a text may have
abbrev pub longest_text : ℕ
longest_text = 1048576

-- the bytes were read, and nothing else
pub record HasRead (taken_before taken_now left_before left_now : Option (List ℕ)) (text : List ℕ) : Type 0 where
  pub taken : Appends taken_before taken_now text
  pub left : Consumes left_before left_now text

-- the text is all that a source had left, if it reports what it has
abbrev pub IsAllLeft : Option (List ℕ) → List ℕ → Type 0
IsAllLeft None text = Unit {0}
IsAllLeft (Some left) text = left ≡ text

-- the text fits, and was read to the end of its source
pub record IsReadWhole (text : List ℕ) (left : Option (List ℕ)) (ended : Bool) : Type 0 where
  pub within : length text ≤ longest_text
  pub at_end : IsTrue ended
  pub all : IsAllLeft left text

-- why a text was not read to its end
abbrev pub IsReadEnd : List ℕ → ℕ → ℕ → ReadEnd → Type 0
IsReadEnd text faults_before faults_now ends.TooLong = length text ≡ longest_text + 1
IsReadEnd text faults_before faults_now ends.Fault = (length text ≤ longest_text) × Rose faults_before faults_now
IsReadEnd text faults_before faults_now ends.Memory = text ≡ []

-- the status of a program whose text was not read to its end
abbrev pub read_status : ReadEnd → Status
read_status ends.TooLong = statuses.TooLong
read_status ends.Fault = statuses.ReadFault
read_status ends.Memory = statuses.Memory
