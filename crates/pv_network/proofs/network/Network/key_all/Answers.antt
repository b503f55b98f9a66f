use Rattle.std.proofs.Common.{rules, refl, sym, ◌∙◌}
use Rattle.std.specs.Prelude.{IsNone}
use Rattle.pv_network.proofs.Keying.{notation_shorter, taken_none, taken_all, taken_over, taken_more}
use Rattle.pv_network.proofs.network.Network.key_all.Goals as goal

-- no key was taken yet
pub loop-byte-init : goal.loop-byte-init
loop-byte-init c = record {
  taken = λ w stands. taken_none c.args.centre c.args.port c.args.text.now c.args.turns.now w c.args.self.now c.requires.notation.bytes
      stands
      c.requires.notation.reads;
  centres = refl;
}

-- the call is over
pub returns-then-branch-clause-performs : goal.returns-then-branch-clause-performs
returns-then-branch-clause-performs c = λ w stands.
    let p = c.loop-byte.invariant.taken w stands in
    let key = c.in_ok-key.ensures.performs in
    let one = key.1 p.world p.stands in
    taken_over c.args.centre c.args.port c.args.text.now c.args.turns.now w c.loop-byte.rest.now c.loop-byte.self c.loop-byte.turns p
    c.in-Some.byte one.0 c.in-Some.later.now c.key.new.self key.0 c.key.new.turns
    c.in-Some.ensures.found one.1 one.2 one.3 key.2 (sym key.3 ∙ c.if-branch.true)

-- the call is not over: with this key taken, the rest follows
pub loop-byte-preserved : goal.loop-byte-preserved
loop-byte-preserved c = record {
  taken = λ w stands.
      let p = c.loop-byte.invariant.taken w stands in
      let key = c.in_ok-key.ensures.performs in
      let one = key.1 p.world p.stands in
      taken_more c.args.centre c.args.port c.args.text.now c.args.turns.now w c.loop-byte.rest.now c.loop-byte.self c.loop-byte.turns p
      c.in-Some.byte one.0 c.in-Some.later.now c.key.new.self key.0 c.key.new.turns
      c.in-Some.ensures.found one.1 one.2 one.3 key.2 (sym key.3 ∙ c.if-branch.false);
  centres = c.key.ensures.centres ∙ c.loop-byte.invariant.centres;
}

-- the rest is shorter
pub loop-byte-smaller : goal.loop-byte-smaller
loop-byte-smaller c = notation_shorter _ _ _ c.in-Some.ensures.found

-- nothing is left
pub returns-clause-performs : goal.returns-clause-performs
returns-clause-performs c = λ w stands.
    let none : IsNone c.first_byte.result = search rules in
    taken_all c.args.centre c.args.port c.args.text.now c.args.turns.now w c.loop-byte.rest.now c.loop-byte.self c.loop-byte.turns
    (c.loop-byte.invariant.taken w stands) (c.first_byte.ensures.missing none)
