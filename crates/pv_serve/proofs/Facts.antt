-- Worked examples of the words of the command line, computed from the definitions.
use Rattle.std.proofs.Common.{lit≤, ◌≡◌, ◌++◌, [], ◌∷◌, List, ℕ, Some, codes, refl}
use Rattle.std.specs.Fmt.{digits}
use Rattle.pv_account.specs.declared.account.TheConstants.{MAX_CENTRES}
use Rattle.pv_serve.specs.Formatting.{AskToFormat}
use Rattle.pv_serve.specs.Options.{serve_command, serve_faults, text_given}
use Rattle.pv_serve.specs.declared.options.TheConstants.{MAX_PORTS, MAX_EDITORS, MAX_CALLS, LAST_PORT}
use Rattle.clap.specs.declared.error.kind.ErrorKind.TheVariants.{ArgumentConflict, MissingRequiredArgument}
use Rattle.clap.proofs.OnLiterals.{clap_on_literals}

-- the words give a folder, and how many centres there are: four at most
pub words_of_a_formatting : AskToFormat (codes "format" ∷ codes "d" ∷ codes "4" ∷ []) (codes "d") 4 × (MAX_CENTRES ≡ 4)
unfolding digits
words_of_a_formatting = (record { some = lit≤ tt; few = lit≤ tt; asked = refl }, refl)

-- ---- the words of a server

-- all its words but that of the callers' port
abbrev without_port : List (List ℕ)
without_port = codes "serve" ∷ codes "d" ∷ codes "--centres" ∷ codes "1" ∷ codes "--ports" ∷ codes "1" ∷ codes "--editors" ∷ codes "1"
    ∷ codes "--calls" ∷ codes "1" ∷ codes "--editor-port" ∷ codes "9100" ∷ []

-- with it there is no fault in them, and each gives its text
pub words_of_a_server : (serve_faults (without_port ++ codes "--port" ∷ codes "9000" ∷ []) ≡ [])
    × (text_given (without_port ++ codes "--port" ∷ codes "9000" ∷ []) (codes "port") ≡ Some (codes "9000"))
    × (text_given (without_port ++ codes "--port" ∷ codes "9000" ∷ []) (codes "folder") ≡ Some (codes "d"))
unfolding serve_faults serve_command text_given clap_on_literals
words_of_a_server = (refl, refl, refl)

-- without it a required option is missing
pub option_that_is_missing : serve_faults without_port ≡ MissingRequiredArgument ∷ []
unfolding serve_faults serve_command clap_on_literals
option_that_is_missing = refl

-- an option is given once
pub option_given_twice : serve_faults (without_port ++ codes "--port=1" ∷ codes "--port=2" ∷ []) ≡ ArgumentConflict ∷ []
unfolding serve_faults serve_command clap_on_literals
option_given_twice = refl

-- sixteen ports at a centre, four for editors, a million lines at each, and the machine's last port
pub most_of_a_server : (MAX_PORTS ≡ 16) × (MAX_EDITORS ≡ 4) × (MAX_CALLS ≡ 1000000) × (LAST_PORT ≡ 65535)
most_of_a_server = (refl, refl, refl, refl)
