use Rattle.pv_network.specs.World.{start}
use Rattle.pv_network.proofs.Charged.{charged_after, charged_start}
use Rattle.pv_network.proofs.Soundness.{sound_start, sound_after}
use Rattle.pv_network.proofs.laws.every_reachable_world_is_sound.Goals as goal

-- by induction on the events
pub returns-clause-sound : goal.returns-clause-sound
returns-clause-sound c = λ centres limits events. sound_after (start centres limits) events (sound_start centres limits)

-- the law is a part of what is kept
pub returns-clause-one_list : goal.returns-clause-one_list
returns-clause-one_list c = λ centres limits events. (sound_after (start centres limits) events (sound_start centres limits)).law

-- by induction on the events, which are what the seats can do
pub returns-clause-charged : goal.returns-clause-charged
returns-clause-charged c = λ centres limits events are.
    charged_after c.seats_keep_their_own.ensures (start centres limits) events are (sound_start centres limits)
    (charged_start centres limits)

-- the law is a part of that
pub returns-clause-owed : goal.returns-clause-owed
returns-clause-owed c = λ centres limits events are centre serial.
    (charged_after c.seats_keep_their_own.ensures (start centres limits) events are (sound_start centres limits)
    (charged_start centres limits) centre).owed serial
