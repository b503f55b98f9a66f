use Rattle.std.proofs.Common.{◌≡◌, ℕ, refl}
use Rattle.pv_network.specs.Standing.{State, StandsFor}
use Rattle.pv_network.specs.World.{World}
use Rattle.pv_network.proofs.Standing.{clock_shows}
use Rattle.pv_network.proofs.network.Network.clock.Goals as goal

-- the network stands for the world at the moment
shows : (s : State) (w : World) → StandsFor s w → (moment shown : ℕ) → shown ≡ moment
    → StandsFor (record s { moment = shown }) (record w { moment = moment })
shows s w stands moment shown same = rw same (clock_shows s w stands moment)

pub invariant_of-self : goal.invariant_of-self
invariant_of-self c =
    let stands = c.self.invariant.1 in (
      c.self.invariant.0,
      (
        record stands.0 { moment = c.args.moment },
        shows _ stands.0 stands.1 c.args.moment c.of-self-inside.result c.of-self-inside.ensures,
      ),
    )

pub returns-clause-performs : goal.returns-clause-performs
returns-clause-performs c = λ w stands.
    (shows _ w (rw (← c.self.view_is) at stands) c.args.moment c.of-self-inside.result c.of-self-inside.ensures, refl)
