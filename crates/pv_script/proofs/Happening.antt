-- An event that a line asks for can happen on a network of as many centres as the world has that it stands for.
use Rattle.std.proofs.Common.{◌≡◌, List, ℕ, length, sym, subst}
use Rattle.pv_network.specs.declared.event.Event.{Event}
use Rattle.pv_network.specs.declared.event.NodeName.{NodeName}
use Rattle.pv_network.specs.declared.event.NodeName.TheVariants as nodes
use Rattle.pv_network.specs.declared.storing.Storing.{Storing}
use Rattle.pv_network.specs.Standing.{State, StandsFor, IsPossible, IsThere, IsNotation, IsPossibleStoring}
use Rattle.pv_network.specs.World.{World}
use Rattle.pv_script.specs.declared.grammar.Command.TheVariants.{Do}
use Rattle.pv_script.specs.declared.word.CallWord.{CallWord}
use Rattle.pv_script.specs.declared.word.CallWord.TheVariants as calling
use Rattle.pv_script.specs.declared.word.StoringWord.{StoringWord}
use Rattle.pv_script.specs.declared.word.StoringWord.TheVariants as storing
use Rattle.pv_script.specs.declared.word.Word.{Word}
use Rattle.pv_script.specs.declared.word.Word.TheVariants as words
use Rattle.pv_script.specs.Grammar.{AsksAs, CallAsksAs}
use Rattle.pv_script.specs.Readers.{IsNodeText}
use Rattle.pv_script.specs.Storing.{StoringAsksAs}

-- by the word of a caller's line: its centre and its port are ones that there are, and its keys are at least one
call_can_happen : (s : State) (word : CallWord) (tail : List ℕ) (event : Event) → CallAsksAs (length s.centres) word tail event
    → IsPossible s event
call_can_happen s calling.Dial tail event asks =
    subst (IsPossible s) (sym asks.is) (asks.are.first.0, asks.are.second.first.0)
call_can_happen s calling.Press tail event asks =
    subst (IsPossible s) (sym asks.is) (asks.are.first.0, asks.are.others.first.0)
call_can_happen s calling.Store tail event asks =
    subst (IsPossible s) (sym asks.is) (asks.are.first.0, asks.are.second.first.0)
call_can_happen s calling.Show tail event asks =
    subst (IsPossible s) (sym asks.is) (asks.are.first.0, asks.are.second.first.0)
call_can_happen s calling.Keys tail event asks =
    let keys = asks.are.others.second.first in
    subst (IsPossible s) (sym asks.is) (asks.are.first.0, asks.are.others.first.0, subst IsNotation (sym keys.0) keys.1)
call_can_happen s calling.Hang tail event asks =
    subst (IsPossible s) (sym asks.is) (asks.are.first.0, asks.are.second.first.0)

-- a node that a text names is one that there is
node_there : (s : State) (node : NodeName) (text : List ℕ) → IsNodeText (length s.centres) node text → IsThere s node
node_there s nodes.Udc text names = tt
node_there s (nodes.Centre c) text names = names.0

-- a command to store a record is at a node or at a port that there is
can_store : (s : State) (word : StoringWord) (tail : List ℕ) (command : Storing) → StoringAsksAs (length s.centres) word tail command
    → IsPossibleStoring s command
can_store s storing.Seed tail command asks = subst (IsPossibleStoring s) (sym asks.is) tt
can_store s storing.Edit tail command asks = subst (IsPossibleStoring s) (sym asks.is) asks.are.first.0
can_store s storing.Store tail command asks = subst (IsPossibleStoring s) (sym asks.is) (asks.are.first.0, asks.are.second.first.0)
can_store s storing.Deliver tail command asks = subst (IsPossibleStoring s) (sym asks.is) asks.are.first.0
can_store s storing.Back tail command asks = subst (IsPossibleStoring s) (sym asks.is) asks.are.first.0

-- by the line's word: its centre is one that there is, or its row is a row of cells
pub can_happen : (s : State) (word : Word) (tail : List ℕ) (event : Event) → AsksAs (length s.centres) word tail (Do event)
    → IsPossible s event
can_happen s words.Limits tail event asks = absurd asks
can_happen s words.Seed tail event asks = subst (IsPossible s) (sym asks.is) tt
can_happen s words.Edit tail event asks = subst (IsPossible s) (sym asks.is) asks.are.first.0
can_happen s (words.Call word) tail event asks = call_can_happen s word tail event asks
can_happen s words.Send tail event asks = subst (IsPossible s) (sym asks.is) asks.are.first.0
can_happen s words.Post tail event asks = subst (IsPossible s) (sym asks.is) asks.are.first.0
can_happen s words.Deliver tail event asks = subst (IsPossible s) (sym asks.is) asks.are.first.0
can_happen s words.Back tail event asks = subst (IsPossible s) (sym asks.is) asks.are.first.0
can_happen s words.Carry tail event asks = subst (IsPossible s) (sym asks.is) asks.are.first.0
can_happen s words.Crash tail event asks =
    subst (IsPossible s) (sym asks.is) (node_there s asks.parts asks.are.text asks.are.first)
can_happen s words.Cut tail event asks =
    let command = asks.are.others.second.first in
    subst (IsPossible s) (sym asks.is) (can_store s command.2 command.1 asks.parts.2 command.5)
can_happen s words.Clock tail event asks = subst (IsPossible s) (sym asks.is) asks.are.first.0
can_happen s words.View tail event asks = subst (IsPossible s) (sym asks.is) asks.are.first.0
can_happen s words.At tail event asks = subst (IsPossible s) (sym asks.is) asks.are.first.0
can_happen s words.List tail event asks = subst (IsPossible s) (sym asks.1) tt
can_happen s words.Bill tail event asks = subst (IsPossible s) (sym asks.is) tt
can_happen s words.Lines tail event asks = subst (IsPossible s) (sym asks.is) asks.are.first.0

-- a network has as many centres as a world that it stands for
pub count_stands : (s : State) (w : World) → StandsFor s w → length s.centres ≡ length w.centres
count_stands s w stands = stands.centres.count
