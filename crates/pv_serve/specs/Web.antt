-- The word `web`, and what its words ask for.
use Rattle.std.specs.Prelude.{◌≡◌, ◌⊎◌, ℕ, ◌+◌, ◌<◌, ◌≤◌, List, ◌∷◌, codes, decimal}
use Rattle.pv_serve.specs.Options.{AskToServe}
use Rattle.pv_serve.specs.declared.options.TheConstants.{LAST_PORT}
use Rattle.pv_serve.specs.declared.options.ServeOptions.{ServeOptions}

-- each centre has one of the machine's ports for browsers from this one on, and none is the callers' or the editors'
pub record AreClear (web : ℕ) (options : ServeOptions) : Type 0 where
  pub some : 1 ≤ web
  pub last : web + options.centres ≤ LAST_PORT + 1
  pub callers : (web + options.centres ≤ options.port) ⊎ (options.port + options.centres ≤ web)
  pub editors : (options.editor_port < web) ⊎ (web + options.centres ≤ options.editor_port)

-- the port is this one in decimal, the words ask for a server with these options, and the port is clear of theirs
pub record AskAtPort (port : List ℕ) (words : List (List ℕ)) (web : ℕ) (options : ServeOptions) : Type 0 where
  pub port_is : port ≡ decimal web
  pub asked : AskToServe words options
  pub clear : AreClear web options

-- the words are `web`, this port, and words that ask for a server with these options, of which the port is clear
pub record AskForWeb (words : List (List ℕ)) (web : ℕ) (options : ServeOptions) : Type 0 where
  pub port : List ℕ
  pub serve : List (List ℕ)
  pub begun : words ≡ codes "web" ∷ port ∷ serve
  pub asked : AskAtPort port serve web options

-- the words ask for no such server
abbrev pub AskForNoWeb : List (List ℕ) → Type 0
AskForNoWeb words = (web : ℕ) → (options : ServeOptions) → AskForWeb words web options → ⊥
