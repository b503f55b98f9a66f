use Rattle.std.proofs.Common.{◌≡◌, ap, ◌∙◌}
use Rattle.pv_network.specs.declared.outcome.Outcome.TheVariants.{Reply}
use Rattle.pv_network.specs.Standing.{State, StandsFor}
use Rattle.pv_network.specs.Editing.{step_of_request}
use Rattle.pv_network.specs.World.{World}
use Rattle.pv_network.proofs.Performing.{asks}
use Rattle.pv_network.proofs.network.Network.ask.Goals as goal
use Rattle.pv_network.proofs.network.Network.ask.Goals.{After-reply_text}

-- the network as it was
abbrev before : After-reply_text → State
before c =
    let n = c.self.inside in
    record {
      update = n.update.state;
      disk = n.update.disk;
      moment = n.moment;
      seats = n.seats;
      centres = n.centres.items;
      links = n.links;
      is_out = n.is_out;
    }

-- the Update Centre does it
asked : (c : After-reply_text) (w : World) → StandsFor (before c) w
    → StandsFor (record (before c) { update = c.store-reply.new.update.state; disk = c.store-reply.new.update.disk })
    (step_of_request w c.args.editor c.args.q c.args.wish).0
    × (Reply c.reply_text.result ≡ (step_of_request w c.args.editor c.args.q c.args.wish).1)
asked c w stands =
    let store = c.store-reply in
    let done = asks _ w stands c.args.editor c.args.q c.args.wish store.new.update store.result store.ensures.stored store.ensures.on_disk
    store.ensures.reply in
    (done.0, ap Reply c.reply_text.ensures ∙ done.1)

pub invariant_of-self : goal.invariant_of-self
invariant_of-self c =
    let stands = c.self.invariant.1 in
    (c.self.invariant.0, ((step_of_request stands.0 c.args.editor c.args.q c.args.wish).0, (asked c stands.0 stands.1).0))

pub returns-clause-performs : goal.returns-clause-performs
returns-clause-performs c = λ w stands. asked c w (rw (← c.self.view_is) at stands)
