use Rattle.std.proofs.Common.{◌≡◌, ◌≤◌, List, ◌∷◌, ◌++◌, length, drop, false, Option, Some}
use Rattle.std.specs.Prelude.{All, IsTrue}
use Rattle.std.specs.declared.io.ErrorKind.{ErrorKind}
use Rattle.pv_files.specs.Coming.{is_passed_over}
use Rattle.pv_files.proofs.door.next_connection.Given as goal

-- the accepts so far were passed over
abbrev pub invariant-loop-tries : goal.invariant-loop-tries
invariant-loop-tries g l =
    (passed : List (Option ErrorKind)) (next : Option ErrorKind) (rest : List (Option ErrorKind))
    → g.L.Listener.coming l.fn.listener ≡ Some (passed ++ next ∷ rest) → All (λ end. IsTrue (is_passed_over end)) passed → is_passed_over next ≡ false
    → (l._tries ≤ length passed) × (g.L.Listener.coming l.listener ≡ Some (drop l._tries passed ++ next ∷ rest))
