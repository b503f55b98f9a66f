-- What came of commands, and what it adds up to.
use Rattle.std.specs.Prelude.{◌≡◌, ℕ, ◌+◌, ◌*◌, ◌^◌, ◌≤◌, List, [], ◌∷◌, ◌++◌, length, sum_by}
use Rattle.pv_network.specs.declared.outcome.Outcome.{Outcome}
use Rattle.pv_network.specs.declared.outcome.Outcome.TheVariants as outcomes
use Rattle.pv_network.specs.Step.{Choice, happens}
use Rattle.pv_network.specs.World.{World}
use Rattle.pv_script.specs.declared.grammar.Command.{Command}
use Rattle.pv_script.specs.declared.grammar.Command.TheVariants.{Do}
use Rattle.pv_script.specs.declared.tally.Tally.{Tally}
use Rattle.pv_script.specs.Transcript.{world_after_command}

-- what came of a command: the outcome of its event, if it has one
abbrev pub outcomes_to : World → Command → Choice → List Outcome
outcomes_to w (Do event) choice = (happens w event choice).1 ∷ []
outcomes_to w _ choice = []

-- what came of commands, one after another
abbrev pub outcomes_of : World → List (Command × Choice) → List Outcome
outcomes_of w [] = []
outcomes_of w (run ∷ runs) = outcomes_to w run.0 run.1 ++ outcomes_of (world_after_command w run.0 run.1) runs

-- how many screens an outcome shows
abbrev pub screen_count : Outcome → ℕ
screen_count (outcomes.Shown turn) = 1
screen_count (outcomes.StoreFull count screen) = 1
screen_count (outcomes.Turns turns) = length turns
screen_count _ = 0

-- how many charge lines it lists, and their sum in pence
abbrev pub charge_count : Outcome → ℕ
charge_count (outcomes.Bill lines pence) = length lines
charge_count _ = 0

abbrev pub bill_pence : Outcome → ℕ
bill_pence (outcomes.Bill lines pence) = pence
bill_pence _ = 0

-- the tally of outcomes: all their screens, charge lines and pence
abbrev pub tally_of : List Outcome → Tally
tally_of came = record { screens = sum_by screen_count came; lines = sum_by charge_count came; pence = sum_by bill_pence came }

-- ---- a tally that goes on

-- these outcomes were added to it
pub record AddsOutcomes (before now : Tally) (came : List Outcome) : Type 0 where
  pub screens : now.screens ≡ before.screens + sum_by screen_count came
  pub lines : now.lines ≡ before.lines + sum_by charge_count came
  pub pence : now.pence ≡ before.pence + sum_by bill_pence came

-- no part of it is more than that many numbers of 64 bits come to
pub record IsTallyWithin (tally : Tally) (count : ℕ) : Type 0 where
  pub screens : tally.screens ≤ count * 2 ^ 64
  pub lines : tally.lines ≤ count * 2 ^ 64
  pub pence : tally.pence ≤ count * 2 ^ 64
