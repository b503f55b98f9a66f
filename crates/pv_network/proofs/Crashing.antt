-- A crash of a node at a network is that crash in each world that it stands for.
use Rattle.std.proofs.Common.{◌≡◌, ℕ, ◌<◌, List, length, get_or, set, sym, ap, subst, ◌∙◌}
use Rattle.std.specs.Prelude.{map, replicate}
use Rattle.pv_irc.specs.History.{state_count}
use Rattle.pv_udc.specs.EditList.{EditList}
use Rattle.pv_nodes.specs.OnDisk.{OnDisk, UpdateIsOnDisk}
use Rattle.pv_editor.specs.Say.{new_seat}
use Rattle.pv_editor.specs.declared.seat.EditorSeat.{EditorSeat}
use Rattle.pv_network.specs.declared.event.TheConstants.{EDITORS}
use Rattle.pv_network.specs.declared.outcome.Outcome.{Outcome}
use Rattle.pv_network.specs.declared.outcome.Outcome.TheVariants.{Crashed}
use Rattle.pv_traffic.specs.declared.way.Way.TheVariants as ways
use Rattle.pv_network.specs.Centre.{Held, Comes, calls_of}
use Rattle.pv_network.specs.Crashing.{crash_at, step_of_update_crash, step_of_centre_crash}
use Rattle.pv_traffic.specs.Link.{Link, link_in, with_new_end}
use Rattle.pv_network.specs.Standing.{State, StandsFor}
use Rattle.pv_network.specs.World.{World, link_at, with_link}
use Rattle.pv_network.proofs.Calling.{crashes}
use Rattle.pv_network.proofs.Soundness.{sound_update_crash, sound_renewed}
use Rattle.pv_network.proofs.Standing.{link_replaced}

-- the node knows what it knew and has it on its disk, and the seats and the ends are new
pub update_crashes : (s : State) (w : World) → StandsFor s w
    → (node : OnDisk EditList) (seats : List EditorSeat) (links : List Link) (count : ℕ)
    → node.state ≡ s.update → UpdateIsOnDisk node → seats ≡ replicate EDITORS new_seat → links ≡ map (with_new_end ways.Down) s.links
    → count ≡ length node.state.records
    → StandsFor (record s { update = node.state; disk = node.disk; seats = seats; links = links }) (step_of_update_crash w).0
    × (Crashed count ≡ (step_of_update_crash w).1)
update_crashes s w stands node seats links count same on_disk seats_are links_are counted =
    let update = same ∙ stands.update in (
      record {
        sound = sound_update_crash w stands.sound;
        charged = stands.charged;
        update = update;
        on_disk = on_disk;
        moment = stands.moment;
        seats = seats_are;
        centres = stands.centres;
        links = links_are ∙ ap (map (with_new_end ways.Down)) stands.links;
      },
      ap Crashed (counted ∙ ap (λ (u : EditList). length u.records) update),
    )

-- without memory for another node the network stands for what it stood for
pub update_same : (s : State) (w : World) → StandsFor s w → (node : OnDisk EditList)
    → node ≡ record { state = s.update; disk = s.disk } → StandsFor (record s { update = node.state; disk = node.disk }) w
update_same s w stands node same =
    subst (λ (here : OnDisk EditList). StandsFor (record s { update = here.state; disk = here.disk }) w) (sym same) stands

-- the centre knows what it knew, its calls are over, and its end is new
pub centre_crashes : (s : State) (w : World) → StandsFor s w → (c : ℕ) (here : Held) → c < length s.centres → here ≡ get_or s.centres c here
    → (new : Held) (outcome : Outcome) (links : List Link) → links ≡ set s.links c (with_new_end ways.Up (link_in s.links c))
    → Comes here new outcome (crash_at (state_count here.node.state) (calls_of here))
    → StandsFor (record s { centres = set s.centres c new; links = links }) (step_of_centre_crash w c).0
    × (outcome ≡ (step_of_centre_crash w c).1)
centre_crashes s w stands c here there read new outcome links made comes =
    let renewed = link_replaced s w stands c links _ (rw stands.links at made) (sound_renewed w c stands.sound) in
    crashes (record s { links = links }) (with_link w c (with_new_end ways.Up (link_at w c))) renewed c here there read 0 new outcome comes
