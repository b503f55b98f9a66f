use Rattle.std.proofs.Common.{ℕ, ◌+◌, ◌^◌, ◌==◌, Bool, true, List, [], None, refl, sym, subst, inl, inr, arith}
use Rattle.pv_network.specs.declared.event.Event.{Event}
use Rattle.pv_script.specs.declared.grammar.Command.TheVariants.{Nothing, Do}
use Rattle.pv_input.proofs.CallerLemmas.{Appends-none}
use Rattle.pv_script.proofs.Counting.{adds_none, within_more}
use Rattle.pv_script.proofs.EachWrite.{none_written, one_written}
use Rattle.pv_script.specs.Grammar.{Asks, AsksAs, ReadsLine}
use Rattle.pv_script.proofs.Happening.{can_happen}
use Rattle.pv_script.proofs.Fates.{no_fates}
use Rattle.pv_script.proofs.playing.run_line.Goals as goal

-- an event that a line reads as is one that it asks for
asks_for : (centres : ℕ) (first : Bool) (line : List ℕ) (event : Event) → ReadsLine centres first line (Do event) → Asks centres line (Do event)
asks_for centres first line event (inl nothing) = absurd cc
asks_for centres first line event (inr asks) = asks.0

-- its centre is one that there is
pub run_event-requires-clause-possible : goal.run_event-requires-clause-possible
run_event-requires-clause-possible g c =
    let asks = asks_for _ (c.args.number == 1) _ c.in-Some-Do.event (rw c.in-Some-Do.field-0-is at c.in-Some-Do.ensures.found) in
    can_happen c.args.network.now asks.2 asks.1 c.in-Some-Do.event
    (subst (λ (centres : ℕ). AsksAs centres asks.2 asks.1 (Do c.in-Some-Do.event)) (sym c.requires.centres) asks.5)

-- a tally of as many lines as there may be has room for one more
pub run_event-requires-clause-room : goal.run_event-requires-clause-room
run_event-requires-clause-room g c = within_more c.args.answers.now.tally c.args.number (2 ^ 32) (omega arith) c.requires.room

-- the line reads as nothing
pub returns-in-None-clause-err : goal.returns-in-None-clause-err
returns-in-None-clause-err g c = (refl, (λ command reads. let none = c.in-None.ensures.only command reads in absurd cc), refl)

-- nothing is done, and nothing is open in it
pub returns-in-Some-Nothing-clause-ok : goal.returns-in-Some-Nothing-clause-ok
returns-in-Some-Nothing-clause-ok g c = (
  Nothing,
  rw c.in-Some-Nothing.field-0-is at c.in-Some-Nothing.ensures.found,
  λ w stands.
      let written = Appends-none (g.K.Sink.written c.args.out.now) in
      (record { kept = true; said = None; keyed = [] }, tt, stands, written, adds_none c.args.answers.now.tally, no_fates),
)

-- nothing is counted
pub returns-in-Some-Nothing-clause-within : goal.returns-in-Some-Nothing-clause-within
returns-in-Some-Nothing-clause-within g c = λ count is. within_more c.args.answers.now.tally count (count + 1) (omega arith) is

-- nothing is written
pub returns-in-Some-Nothing-clause-writes : goal.returns-in-Some-Nothing-clause-writes
returns-in-Some-Nothing-clause-writes g c =
    none_written c.args.centres (c.args.number == 1) c.args.line.now _ (rw c.in-Some-Nothing.field-0-is at c.in-Some-Nothing.ensures.found)

-- the answer to limits is one write
pub returns-in-Ok-clause-writes : goal.returns-in-Ok-clause-writes
returns-in-Ok-clause-writes g c =
    one_written c.args.centres (c.args.number == 1) c.args.line.now _ _ _
    (rw c.in-Some-Limits.field-0-is at c.in-Some-Limits.ensures.found) (λ none. absurd cc) c.in-Ok.ensures.writes

-- and so is the answer to an event
pub returns-in-Ok-run_event-clause-writes : goal.returns-in-Ok-run_event-clause-writes
returns-in-Ok-run_event-clause-writes g c =
    one_written c.args.centres (c.args.number == 1) c.args.line.now _ _ _
    (rw c.in-Some-Do.field-0-is at c.in-Some-Do.ensures.found) (λ none. absurd cc) c.in-Ok-run_event.ensures.writes
