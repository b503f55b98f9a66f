-- The command `serve`, and what its words ask for.
use Rattle.std.specs.Prelude.{◌≡◌, ◌⊎◌, ℕ, ◌+◌, ◌<◌, ◌≤◌, true, List, [], ◌∷◌, Option, Some, codes, decimal}
use Rattle.clap.specs.Words.{App, Rule, new_app, new_rule, with_rule, matches_of, first_of, fault_of, Kinds}
use Rattle.pv_account.specs.declared.account.TheConstants.{MAX_CENTRES}
use Rattle.pv_serve.specs.declared.options.TheConstants.{MAX_PORTS, MAX_EDITORS, MAX_CALLS, LAST_PORT}
use Rattle.pv_serve.specs.declared.options.ServeOptions.{ServeOptions}

-- ---- the command

-- the folder, which is a word of its own and must be there
abbrev pub folder_rule : Rule
folder_rule = record (new_rule (codes "folder")) { required = true }

-- an option of this name with one value, which must be there
abbrev pub option_rule : List ℕ → Rule
option_rule name = record (new_rule name) { long = Some name; required = true }

-- the command: a folder and six options
unfoldable pub serve_command : App
serve_command =
    with_rule (with_rule (with_rule (with_rule (with_rule (with_rule (with_rule (new_app (codes "serve"))
    folder_rule)
    (option_rule (codes "centres")))
    (option_rule (codes "ports")))
    (option_rule (codes "editors")))
    (option_rule (codes "calls")))
    (option_rule (codes "port")))
    (option_rule (codes "editor-port"))

-- ---- what the words give

-- the faults that the command finds in the words
unfoldable pub serve_faults : List (List ℕ) → Kinds
serve_faults words = fault_of serve_command words

-- the text that the words give for a name
unfoldable pub text_given : List (List ℕ) → List ℕ → Option (List ℕ)
text_given words name = first_of name (matches_of serve_command words)

module _ (given : List ℕ → Option (List ℕ)) where
  -- this number is given for a name, in decimal, and it is 1 to the last
  pub record GivesNumber (name : List ℕ) (last number : ℕ) : Type 0 where
    pub text : given name ≡ Some (decimal number)
    pub some : 1 ≤ number
    pub few : number ≤ last

  -- the numbers of the options are those that are given
  pub record GivesNumbers (options : ServeOptions) : Type 0 where
    pub centres : GivesNumber (codes "centres") MAX_CENTRES options.centres
    pub ports : GivesNumber (codes "ports") MAX_PORTS options.ports
    pub editors : GivesNumber (codes "editors") MAX_EDITORS options.editors
    pub calls : GivesNumber (codes "calls") MAX_CALLS options.calls
    pub port : GivesNumber (codes "port") LAST_PORT options.port
    pub editor_port : GivesNumber (codes "editor-port") LAST_PORT options.editor_port

-- each centre's port is one of the machine's, and the editors' is none of them
abbrev pub ArePortsApart : ServeOptions → Type 0
ArePortsApart options = (options.port + options.centres ≤ LAST_PORT + 1)
    × ((options.editor_port < options.port) ⊎ (options.port + options.centres ≤ options.editor_port))

-- the words are `serve` and then some
abbrev pub BeginWithServe : List (List ℕ) → Type 0
BeginWithServe words = (rest : List (List ℕ)) × (words ≡ codes "serve" ∷ rest)

-- the command finds no fault in the words, and they give these options
pub record GiveOptions (words : List (List ℕ)) (options : ServeOptions) : Type 0 where
  pub taken : serve_faults words ≡ []
  pub folder : text_given words (codes "folder") ≡ Some options.folder
  pub numbers : GivesNumbers (text_given words) options
  pub apart : ArePortsApart options

-- the words ask for a server with these options
abbrev pub AskToServe : List (List ℕ) → ServeOptions → Type 0
AskToServe words options = BeginWithServe words × GiveOptions words options

-- the words ask for no server
abbrev pub AskNoServe : List (List ℕ) → Type 0
AskNoServe words = (options : ServeOptions) → AskToServe words options → ⊥
