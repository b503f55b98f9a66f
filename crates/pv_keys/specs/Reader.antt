-- A reader of keys: the keys since its last command, what it does with a byte, and with many.
use Rattle.std.specs.Prelude.{◌≡◌, ℕ, List, [], ◌∷◌, ◌++◌, Option, Some, None, IsNone, IfSome, ⊤}
use Rattle.pv_page.specs.Names.{IsPage}
use Rattle.pv_keys.specs.declared.command.Command.{Command}
use Rattle.pv_keys.specs.declared.progress.Progress.{Progress}
use Rattle.pv_keys.specs.declared.progress.Progress.TheVariants.{Idle, Star, Number, Starred}
use Rattle.pv_keys.specs.declared.progress.Step.{Step}
use Rattle.pv_keys.specs.declared.progress.Step.TheVariants.{Wait, Give}
use Rattle.pv_keys.specs.Commands.{IsSpelling, HasNoCommand, keys_of, number_keys, star}

-- the number that was begun is that of a page
abbrev pub IsProgress : Progress → Type 0
IsProgress Idle = ⊤
IsProgress Star = ⊤
IsProgress (Number page) = IsPage page
IsProgress (Starred page) = IsPage page

-- the keys since the last command
abbrev pub keys_since : Progress → List ℕ
keys_since Idle = []
keys_since Star = star ∷ []
keys_since (Number page) = number_keys page
keys_since (Starred page) = number_keys page ++ star ∷ []

-- the keys wait for more, or are those of the command that is given
abbrev pub IsStep : List ℕ → Step → Type 0
IsStep keys (Wait progress) = IsProgress progress × (keys_since progress ≡ keys)
IsStep keys (Give command) = IsSpelling keys command

-- after these keys a byte is taken: what is returned, and the keys after it
pub record TakesByte (before : List ℕ) (byte : ℕ) (answer : Option Command) (after : List ℕ) : Type 0 where
  pub given : IfSome answer (λ command. IsSpelling (before ++ keys_of (byte ∷ [])) command × (after ≡ []))
  pub only : (command : Command) → IsSpelling (before ++ keys_of (byte ∷ [])) command → answer ≡ Some command
  pub waits : IsNone answer → after ≡ before ++ keys_of (byte ∷ [])
  pub no_command : HasNoCommand after

-- after these keys bytes are taken one by one: what is returned at each, and the keys after the last
abbrev pub TakesBytes : List ℕ → List ℕ → List (Option Command) → List ℕ → Type 0
TakesBytes before [] [] after = before ≡ after
TakesBytes before (byte ∷ bytes) (answer ∷ answers) after =
    (next : List ℕ) × TakesByte before byte answer next × TakesBytes next bytes answers after
TakesBytes before bytes answers after = ⊥

-- the commands among answers
abbrev pub commands_in : List (Option Command) → List Command
commands_in [] = []
commands_in (None ∷ answers) = commands_in answers
commands_in (Some command ∷ answers) = command ∷ commands_in answers
