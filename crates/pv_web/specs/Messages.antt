-- What comes from a browser, message by message.
use Rattle.std.specs.Prelude.{◌≡◌, ℕ, List, [], ◌∷◌, ◌++◌, Option, Some, IfSome, Result, MatchResult}
use Rattle.std.specs.Option.{option_map}
use Rattle.std.specs.declared.io.Error.{Error}
use Rattle.pv_web.specs.declared.messages.Incoming.{Incoming}
use Rattle.pv_web.specs.declared.messages.Incoming.TheVariants.{Keys, Nothing, End}

-- the next message: after the last comes the end
abbrev pub next_incoming : List Incoming → Incoming
next_incoming [] = End
next_incoming (first ∷ rest) = first

-- the messages after it: none come after the end
abbrev pub later_incoming : List Incoming → List Incoming
later_incoming [] = []
later_incoming (Keys bytes ∷ rest) = rest
later_incoming (Nothing ∷ rest) = rest
later_incoming (End ∷ rest) = []

-- the next message has come; a fault takes none
abbrev pub BrowserSends : Option (List Incoming) → Option (List Incoming) → Result Incoming Error → Type 0
BrowserSends before now answer = IfSome before (λ messages.
    MatchResult answer (λ next. (next ≡ next_incoming messages) × (now ≡ Some (later_incoming messages))) (λ _. now ≡ before))

-- the keys of the messages up to the end
abbrev pub message_keys : List Incoming → List ℕ
message_keys [] = []
message_keys (Keys bytes ∷ rest) = bytes ++ message_keys rest
message_keys (Nothing ∷ rest) = message_keys rest
message_keys (End ∷ rest) = []

-- the keys that are left: those of a message that wait, and then those that come
abbrev pub keys_to_come : List ℕ → Option (List Incoming) → Option (List ℕ)
keys_to_come waiting coming = option_map (λ messages. waiting ++ message_keys messages) coming
