use Rattle.pv_network.proofs.network.Network.press.Goals as goal

-- more comes of the key, and nothing had changed before
pub returns-clause-performs : goal.returns-clause-performs
returns-clause-performs c = λ w stands. c.answer_key.ensures.performs w (rw (c.take_quietly.ensures.same c.if-take_quietly.false) stands)
