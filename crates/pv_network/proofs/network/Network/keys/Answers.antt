use Rattle.std.proofs.Common.{rules, ◌≡◌, None, sym, ◌∙◌}
use Rattle.pv_network.proofs.Keying.{refused, answered}
use Rattle.pv_network.proofs.network.Network.keys.Goals as goal

-- the keys are not taken
pub returns-in-Some-clause-performs : goal.returns-in-Some-clause-performs
returns-in-Some-clause-performs c = λ w stands.
    rw (← c.self.view_is) (refused _ w (rw (← c.self.view_is) at stands) c.args.centre c.index.result.now
    (rw (← c.self.view_is) at c.requires.centre) c.index.ensures
    c.args.port c.args.text.now c.requires.notation.bytes c.in-Some.outcome c.requires.notation.reads (sym c.in-Some.ensures))

-- they are
pub returns-clause-performs : goal.returns-clause-performs
returns-clause-performs c = λ w stands.
    let none : c.refusal.result ≡ None = search rules in
    let taken = c.in_ok-key_all.ensures.performs w stands in
    let done = answered _ w (rw (← c.self.view_is) at stands) c.args.centre c.index.result.now (rw (← c.self.view_is) at c.requires.centre)
    c.index.ensures c.args.port c.args.text.now c.key_all.new.self c.key_all.new.turns (sym c.refusal.ensures ∙ none)
    (taken.0, taken.1, taken.2, taken.3, rw c.new-turns.ensures at taken.4) in
    (done.0, done.1, done.2, done.3, c.answer.ensures ∙ done.4)
