use Rattle.std.proofs.Common.{refl, ap, ◌∙◌, Some, None, sym, arith}
use Rattle.pv_network.specs.declared.round.Round.TheVariants as rounds
use Rattle.pv_network.specs.Standing.{StandsFor}
use Rattle.pv_network.specs.World.{World}
use Rattle.pv_network.specs.declared.outcome.Outcome.{Outcome}
use Rattle.pv_network.proofs.Carrying.{NextRound, rest_begins, next_round, round_done, rest_after_taken, rest_after_again, load_more, carry_ends}
use Rattle.pv_network.proofs.network.Network.carry.Goals as goal
use Rattle.pv_network.proofs.network.Network.carry.Goals.{In-Some}

pub rounds-init : goal.rounds-init
rounds-init c = record {
  rest = λ w stands. rw c.new-load.ensures (rest_begins c.args.centre w c.args.self.now stands);
  centres = refl;
  counted = rw c.new-load.ensures (omega arith);
}

-- there is room in the counts for one more
pub add-requires-clause-records : goal.add-requires-clause-records
add-requires-clause-records c = let less = c.in-Taken.ensures.room tt in omega (arith, c.rounds.invariant.counted, less)

pub add-requires-clause-items : goal.add-requires-clause-items
add-requires-clause-items c = let less = c.in-Taken.ensures.room tt in omega (arith, c.rounds.invariant.counted, less)

-- the round that comes next
next : (c : In-Some) (w : World) → StandsFor c.args.self.now w
    → NextRound c.args.centre w c.rounds.load c.rounds.self (Some c.in-Some.next)
next c w stands = next_round c.args.centre w c.rounds.way c.rounds.load c.rounds.self (Some c.in-Some.next)
    (c.rounds.invariant.rest w stands)
    (λ v here. sym c.in-Some.is ∙ c.way_on.ensures v here)

-- one more was taken
pub rounds-preserved-in-Taken : goal.rounds-preserved-in-Taken
rounds-preserved-in-Taken c =
    let less = c.in-Taken.ensures.room tt in
    record {
      rest = λ w stands.
          rw c.add.ensures
          (rest_after_taken c.args.centre w c.in-Some.next c.rounds.load c.rounds.self c.round.new.self less
          (round_done c.args.centre w c.in-Some.next c.rounds.load c.rounds.self c.round.new.self rounds.Taken
          (next (goal.at.rounds-preserved-in-Taken c).In-Some w stands) c.in-Taken.ensures.performs));
      centres = c.round.ensures.centres ∙ c.rounds.invariant.centres;
      counted = rw c.add.ensures (omega (arith, c.rounds.invariant.counted, less, load_more c.in-Some.next c.rounds.load));
    }

-- nothing was
pub rounds-preserved : goal.rounds-preserved
rounds-preserved c =
    let less = c.in-Again.ensures.room tt in
    record {
      rest = λ w stands.
          rest_after_again c.args.centre w c.in-Some.next c.rounds.load c.rounds.self c.round.new.self less
          (round_done c.args.centre w c.in-Some.next c.rounds.load c.rounds.self c.round.new.self rounds.Again
          (next (goal.at.rounds-preserved c).In-Some w stands) c.in-Again.ensures.performs);
      centres = c.round.ensures.centres ∙ c.rounds.invariant.centres;
      counted = omega (arith, c.rounds.invariant.counted, less);
    }

-- both ends are idle
pub returns-in_default-clause-performs : goal.returns-in_default-clause-performs
returns-in_default-clause-performs c = λ w stands.
    let idle = next_round c.args.centre w c.rounds.way c.rounds.load c.rounds.self None (c.rounds.invariant.rest w stands)
    (λ v here. sym c.in_default.is ∙ c.way_on.ensures v here) in
    carry_ends c.args.centre w idle.so_far c.rounds.self _ idle.stands
    (idle.is ∙ ap (λ (o : Outcome). (idle.so_far, o)) (sym c.carried.ensures))

-- the carry cannot go on
pub returns-in-Stopped-clause-performs : goal.returns-in-Stopped-clause-performs
returns-in-Stopped-clause-performs c = λ w stands.
    let d = round_done c.args.centre w c.in-Some.next c.rounds.load c.rounds.self c.round.new.self (rounds.Stopped c.in-Stopped.outcome)
    (next (goal.at.returns-in-Stopped-clause-performs c).In-Some w stands) c.in-Stopped.ensures.performs in
    carry_ends c.args.centre w d.so_far c.round.new.self _ d.stands d.is
