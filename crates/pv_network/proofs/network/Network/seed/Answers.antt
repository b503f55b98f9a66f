use Rattle.std.proofs.Common.{◌≡◌, ℕ, subst}
use Rattle.pv_edits.specs.declared.wish.EditWish.{EditWish}
use Rattle.pv_network.specs.Editing.{step_of_request}
use Rattle.pv_network.specs.Standing.{StandsFor}
use Rattle.pv_network.proofs.network.Network.seed.Goals as goal

-- the request is the one that is judged in the world
pub returns-clause-performs : goal.returns-clause-performs
returns-clause-performs c = λ w stands.
    subst (λ (r : ℕ × ℕ × EditWish). StandsFor c.ask.new.self (step_of_request w r.0 r.1 r.2).0
    × (c.ask.result ≡ (step_of_request w r.0 r.1 r.2).1)) (c.seeding-editor.ensures w stands)
    (c.ask.ensures.performs w stands)
