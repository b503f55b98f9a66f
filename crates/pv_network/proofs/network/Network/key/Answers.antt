use Rattle.std.proofs.Common.{rules, refl, sym, ◌∙◌}
use Rattle.pv_network.specs.declared.outcome.Outcome.TheVariants.{Quiet}
use Rattle.pv_network.specs.Calling.{step_of_press}
use Rattle.pv_network.proofs.Keying.{key_paid, key_free, key_taken}
use Rattle.pv_network.proofs.network.Network.key.Goals as goal

-- what is owed for the key is paid
pub returns-then-is_owes-clause-performs : goal.returns-then-is_owes-clause-performs
returns-then-is_owes-clause-performs c =
    key_taken c.args.self.now c.pay-paid.new.self c.args.turns.now c.take.new.self c.args.centre c.args.port c.args.byte c.pay-paid.result
    c.take.result
    (λ w stands.
    let pressed = c.answer_key-pressed.ensures.performs w (rw (c.take_quietly.ensures.same c.if-take_quietly.false) stands) in
    let done = key_paid c.args.centre c.args.port w c.pay-paid.new.self c.pay-paid.result c.args.byte pressed.0
    c.answer_key-pressed.result pressed.3
    (sym c.is_owes.ensures ∙ c.if-is_owes.true)
    (c.pay-paid.ensures.performs (step_of_press w c.args.centre c.args.port c.args.byte pressed.0).0 pressed.2) in
    (pressed.0, pressed.1, done.0, done.1))
    c.take.ensures.turns c.take.ensures.over

-- nothing is owed for it
pub returns-clause-performs : goal.returns-clause-performs
returns-clause-performs c =
    key_taken c.args.self.now c.answer_key-pressed.new.self c.args.turns.now c.take-2.new.self c.args.centre c.args.port c.args.byte
    c.answer_key-pressed.result c.take-2.result
    (λ w stands.
    let pressed = c.answer_key-pressed.ensures.performs w (rw (c.take_quietly.ensures.same c.if-take_quietly.false) stands) in
    let done = key_free c.args.centre c.args.port w c.answer_key-pressed.new.self c.answer_key-pressed.result c.args.byte pressed.0 pressed.3
    (sym c.is_owes.ensures ∙ c.if-is_owes.false) (pressed.2, pressed.3) in
    (pressed.0, pressed.1, done.0, done.1))
    c.take-2.ensures.turns c.take-2.ensures.over

-- nothing comes of it
pub returns-then-take_quietly-clause-performs : goal.returns-then-take_quietly-clause-performs
returns-then-take_quietly-clause-performs c = (
  Quiet,
  (λ w stands.
      let pressed = c.take_quietly.ensures.pressed c.if-take_quietly.true w stands in
      let done = key_free c.args.centre c.args.port w c.take_quietly.new.self Quiet c.args.byte pressed.0 pressed.3 refl
      (pressed.2, pressed.3) in
      (pressed.0, pressed.1, done.0, done.1)),
  search rules,
  refl,
)
