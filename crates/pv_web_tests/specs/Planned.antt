-- What messages of a test report.
use Rattle.std.specs.Prelude.{List, [], ◌∷◌}
use Rattle.pv_web.specs.declared.messages.Incoming.{Incoming}
use Rattle.pv_web.specs.declared.messages.Incoming.TheVariants as Incoming
use Rattle.pv_web_tests.specs.declared.planned.Planned.{Planned}
use Rattle.pv_web_tests.specs.declared.planned.Planned.TheVariants.{Keys, Ping, Fault}

-- the messages that come: a fault is none
abbrev pub messages_of : List Planned → List Incoming
messages_of [] = []
messages_of (Keys bytes ∷ rest) = Incoming.Keys bytes.now ∷ messages_of rest
messages_of (Ping ∷ rest) = Incoming.Nothing ∷ messages_of rest
messages_of (Fault ∷ rest) = messages_of rest
