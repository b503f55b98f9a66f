-- Which worlds a network stands for, part by part.
use Rattle.std.specs.Prelude.{◌≡◌, ℕ, ◌<◌, ◌≤◌, Bool, true, false, List, ◌++◌, length, Option}
use Rattle.pv_network.specs.declared.event.Event.{Event}
use Rattle.pv_network.specs.declared.event.Event.TheVariants as events
use Rattle.pv_network.specs.declared.event.NodeName.{NodeName}
use Rattle.pv_network.specs.declared.event.NodeName.TheVariants as nodes
use Rattle.pv_memory.specs.Medium.{Medium}
use Rattle.pv_charge.specs.declared.line.TheConstants.{LAST_MOMENT}
use Rattle.pv_udc.specs.EditList.{EditList}
use Rattle.pv_nodes.specs.OnDisk.{UpdateIsOnDisk}
use Rattle.pv_editor.specs.declared.line.EditLine.{EditLine}
use Rattle.pv_editor.specs.declared.seat.EditorSeat.{EditorSeat}
use Rattle.pv_network.specs.declared.storing.Storing.{Storing}
use Rattle.pv_network.specs.declared.storing.Storing.TheVariants as commands
use Rattle.pv_network.specs.declared.event.TheConstants.{EDITORS, PORTS}
use Rattle.pv_session.specs.declared.entry.Entry.{Entry}
use Rattle.pv_network.specs.Calling.{call_at, step_of_press}
use Rattle.pv_network.specs.Calls.{IsPortEntry}
use Rattle.pv_network.specs.Centre.{Held, CentresStand}
use Rattle.pv_network.specs.Charging.{IsChargedWorld}
use Rattle.pv_network.specs.Cutting.{MayBeKept, step_of_cut, IsSaid}
use Rattle.pv_network.specs.Keying.{KeyedByte, bytes_of, step_of_key, screens_in, is_over, keys_from, TakesAll, step_of_keys, TakesAllAt}
use Rattle.pv_traffic.specs.Link.{Link}
use Rattle.pv_packet.specs.declared.packet.Packet.{Packet}
use Rattle.pv_network.specs.Sound.{IsGenuine, IsSound}
use Rattle.pv_cells.specs.Notation.{ReadsAs}
use Rattle.pv_network.specs.declared.outcome.Outcome.{Outcome}
use Rattle.pv_network.specs.declared.outcome.Turn.{Turn}
use Rattle.pv_network.specs.Step.{Choice, IsChoice, happens}
use Rattle.pv_network.specs.World.{World, centre_at}

-- what is seen of a network: its parts, of which the Update Centre has its list on a disk, and whether it once was out of memory
pub record State : Type 0 where
  pub update : EditList
  pub disk : Medium
  pub moment : ℕ
  pub seats : List EditorSeat
  pub centres : List Held
  pub links : List Link
  pub is_out : Bool

-- The network stands for a sound world in which charges are right, each part for its part. Each image that a crash of the Update
-- Centre's disk may leave spells the records of the edit list.
pub record StandsFor (s : State) (w : World) : Type 0 where
  pub sound : IsSound w
  pub charged : IsChargedWorld w
  pub update : s.update ≡ w.update
  pub on_disk : UpdateIsOnDisk (record { state = s.update; disk = s.disk })
  pub moment : s.moment ≡ w.moment
  pub seats : s.seats ≡ w.seats
  pub centres : CentresStand w.update s.centres w.centres
  pub links : s.links ≡ w.links

-- there is a world that the network stands for
abbrev pub IsStanding : State → Type 0
IsStanding s = (w : World) × StandsFor s w

-- whatever world the network stood for, it stands afterwards for that world's next, and what it answers is that answer
abbrev pub Performs : {A : Type 0} → State → State → A → (World → World × A) → Type 0
Performs old new outcome step = (w : World) → StandsFor old w → StandsFor new (step w).0 × (outcome ≡ (step w).1)

-- a key at a port does what it does in each such world, with the entry that it makes there
abbrev pub Presses : State → State → Outcome → ℕ → ℕ → ℕ → Type 0
Presses old new outcome c port key = (w : World) → StandsFor old w
    → (entry : Option Entry) × IsPortEntry (call_at w c port) key entry
    × StandsFor new (step_of_press w c port key entry).0 × (outcome ≡ (step_of_press w c port key entry).1)

-- one key does what it does in each such world: what it owes is stored and shown at once
abbrev pub PaysKey : State → State → Outcome → ℕ → ℕ → ℕ → Type 0
PaysKey old new outcome c port byte = (w : World) → StandsFor old w
    → (entry : Option Entry) × IsPortEntry (call_at w c port) byte entry
    × StandsFor new (step_of_key w c port (record { byte = byte; entry = entry })).0
    × (outcome ≡ (step_of_key w c port (record { byte = byte; entry = entry })).1)

-- one key does so, adds its screen to those before, and says whether the call ended
abbrev pub TakesKey : State → State → List Turn → List Turn → Bool → ℕ → ℕ → ℕ → Type 0
TakesKey old new before after over c port byte = (outcome : Outcome) × PaysKey old new outcome c port byte
    × (after ≡ before ++ screens_in outcome) × (over ≡ is_over outcome)

-- all keys of a notation do so, one after another, and add their screens to those before
abbrev pub TakesKeys : State → State → List Turn → List Turn → ℕ → ℕ → List ℕ → Type 0
TakesKeys old new before after c port text = (w : World) → StandsFor old w
    → (keyed : List KeyedByte) × ReadsAs text (bytes_of keyed) × TakesAll w c port keyed
    × StandsFor new (keys_from w c port keyed).0 × (after ≡ before ++ (keys_from w c port keyed).1)

-- the keys of a notation at a port, answered as in each such world
abbrev pub AnswersKeys : State → State → Outcome → ℕ → ℕ → List ℕ → Type 0
AnswersKeys old new outcome c port text = (w : World) → StandsFor old w
    → (keyed : List KeyedByte) × ReadsAs text (bytes_of keyed) × TakesAllAt w c port keyed
    × StandsFor new (step_of_keys w c port keyed).0 × (outcome ≡ (step_of_keys w c port keyed).1)

-- a cut does what it does in each such world, with what its command's editor line says and one choice of the disk
abbrev pub TakesCut : ℕ → Storing → State → State → Outcome → Type 0
TakesCut calls command old new outcome = (said : Option EditLine) × IsSaid command said
    × ((w : World) → StandsFor old w → (kept : Bool) × MayBeKept calls kept
    × StandsFor new (step_of_cut w command kept said).0 × (outcome ≡ (step_of_cut w command kept said).1))

-- the packet is genuine on a centre's link, in each world that the network stands for
abbrev pub IsGenuineAt : State → ℕ → Packet → Type 0
IsGenuineAt s c packet = (w : World) → StandsFor s w → IsGenuine w.update.records c (centre_at w c) packet

-- the text is the notation of at least one byte
pub record IsNotation (text : List ℕ) : Type 0 where
  pub bytes : List ℕ
  pub some : 0 < length bytes
  pub reads : ReadsAs text bytes

-- no other event takes memory
abbrev pub takes_memory : Event → Bool
takes_memory (events.Keys centre port keys) = true
takes_memory (events.Crash node) = true
takes_memory (events.Cut calls image command) = true
takes_memory (events.Bill account) = true
takes_memory (events.Lines centre) = true
takes_memory _ = false

-- What an event leaves open is chosen in the world in which it happens: whatever world the network stood for, there is such a
-- choice, it stands afterwards for the next world by it, and what it answers is that answer.
abbrev pub TakesPlace : Event → State → State → Outcome → Type 0
TakesPlace event old new outcome = (w : World) → StandsFor old w
    → (choice : Choice) × IsChoice w event choice × StandsFor new (happens w event choice).0 × (outcome ≡ (happens w event choice).1)

-- a node is one that there is
abbrev pub IsThere : State → NodeName → Type 0
IsThere s nodes.Udc = Unit {0}
IsThere s (nodes.Centre c) = c < length s.centres

-- a command to store a record is at a node or at a port that there is
abbrev pub IsPossibleStoring : State → Storing → Type 0
IsPossibleStoring s (commands.Seed name row) = Unit {0}
IsPossibleStoring s (commands.Edit port line) = port < EDITORS
IsPossibleStoring s (commands.Store centre port) = (centre < length s.centres) × (port < PORTS)
IsPossibleStoring s (commands.Deliver centre index) = centre < length s.centres
IsPossibleStoring s (commands.Back centre index) = centre < length s.centres

-- an event at a node or at a port is at one that there is
abbrev pub IsPossible : State → Event → Type 0
IsPossible s (events.Seed name row) = Unit {0}
IsPossible s (events.Edit port line) = port < EDITORS
IsPossible s (events.Dial centre port) = (centre < length s.centres) × (port < PORTS)
IsPossible s (events.Press centre port key) = (centre < length s.centres) × (port < PORTS)
IsPossible s (events.Store centre port) = (centre < length s.centres) × (port < PORTS)
IsPossible s (events.Show centre port) = (centre < length s.centres) × (port < PORTS)
IsPossible s (events.Keys centre port keys) = (centre < length s.centres) × (port < PORTS) × IsNotation keys
IsPossible s (events.Hang centre port) = (centre < length s.centres) × (port < PORTS)
IsPossible s (events.Send centre) = centre < length s.centres
IsPossible s (events.Post centre) = centre < length s.centres
IsPossible s (events.Deliver centre index) = centre < length s.centres
IsPossible s (events.Back centre index) = centre < length s.centres
IsPossible s (events.Carry centre) = centre < length s.centres
IsPossible s (events.Crash node) = IsThere s node
IsPossible s (events.Cut calls image command) = IsPossibleStoring s command
IsPossible s (events.Clock moment) = moment ≤ LAST_MOMENT
IsPossible s (events.View centre name) = centre < length s.centres
IsPossible s (events.At centre) = centre < length s.centres
IsPossible s events.List = Unit {0}
IsPossible s (events.Bill account) = Unit {0}
IsPossible s (events.Lines centre) = centre < length s.centres
