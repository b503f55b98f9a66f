-- What a line reports when it has just come in.
use Rattle.std.specs.Prelude.{◌≡◌, ℕ, Bool, false, List, [], Option, IfSome}

-- As far as the line reports it, no bytes were read from it and none were written to it. Its end was not met.
pub record IsUnused (read sent : Option (List ℕ)) (ended : Bool) : Type 0 where
  pub nothing_read : IfSome read (λ bytes. bytes ≡ [])
  pub nothing_sent : IfSome sent (λ bytes. bytes ≡ [])
  pub begins : ended ≡ false
