use Rattle.std.proofs.Common.{sym, ◌∙◌}
use Rattle.pv_network.specs.Calling.{step_of_store}
use Rattle.pv_network.proofs.Keying.{payment_shown, payment_refused}
use Rattle.pv_network.proofs.network.Network.pay.Goals as goal

-- what was stored is shown
pub returns-then-is_storing-clause-performs : goal.returns-then-is_storing-clause-performs
returns-then-is_storing-clause-performs c = λ w stands.
    let stored = c.store-stored.ensures.performs w stands in
    payment_shown c.args.centre c.args.port w c.show.new.self c.show.result c.store-stored.result stored.1
    (sym c.is_storing.ensures ∙ c.if-is_storing.true)
    (c.show.ensures.performs (step_of_store w c.args.centre c.args.port).0 stored.0)

-- nothing was stored
pub returns-else-is_storing-clause-performs : goal.returns-else-is_storing-clause-performs
returns-else-is_storing-clause-performs c = λ w stands.
    let stored = c.store-stored.ensures.performs w stands in
    payment_refused c.args.centre c.args.port w c.store-stored.new.self c.store-stored.result stored.1
    (sym c.is_storing.ensures ∙ c.if-is_storing.false) stored
