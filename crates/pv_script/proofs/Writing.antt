-- What is written, and why an answer to a command ended.
use Rattle.std.proofs.Common.{◌≡◌, ℕ, true, false, List, take, Option, Result, Ok, Err}
use Rattle.std.specs.Prelude.{is_err}
use Rattle.std.specs.Io.KnownBytes.{Appends}
use Rattle.pv_outside.specs.Counts.{Rose}
use Rattle.pv_outside.specs.Sink.{Writes}
use Rattle.pv_outside.specs.declared.failed.Failed.{Failed}
use Rattle.pv_network.specs.Standing.{State}
use Rattle.pv_script.specs.declared.ends.AnswerEnd.{AnswerEnd}
use Rattle.pv_script.specs.declared.ends.AnswerEnd.TheVariants.{Fault, Memory}
use Rattle.pv_script.specs.declared.grammar.Command.{Command}
use Rattle.pv_script.specs.Ends.{HasBegun, IsAnswerEnd}

-- a write that failed wrote a prefix
pub prefix_written : {T : Type 0} (answer : Result T Failed) (a b : Option (List ℕ)) (text : List ℕ) → Writes a b answer text → is_err answer ≡ true → (count : ℕ) × Appends a b (take count text)
prefix_written (Ok done) a b text written failed = absurd cc
prefix_written (Err fault) a b text written failed = written

-- one that did not wrote the whole
pub whole_written : {T : Type 0} (answer : Result T Failed) (a b : Option (List ℕ)) (text : List ℕ) → Writes a b answer text → is_err answer ≡ false → Appends a b text
whole_written (Ok done) a b text written passed = written
whole_written (Err fault) a b text written passed = absurd cc

-- a write that failed is why an answer ended
pub fault_ends : (command : Command) (old : State) (before now : Option (List ℕ)) (faults_before faults_now : ℕ) (end : AnswerEnd) → end ≡ Fault
    → Rose faults_before faults_now → HasBegun command old before now → IsAnswerEnd command old before now faults_before faults_now end
fault_ends command old before now faults_before faults_now Fault is rose begun = (rose, begun)
fault_ends command old before now faults_before faults_now Memory is rose begun = absurd cc
