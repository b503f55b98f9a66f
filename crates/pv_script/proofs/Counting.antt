-- A tally that outcomes are added to, one after another.
use Rattle.std.proofs.Common.{◌≡◌, ℕ, ◌≤◌, List, [], ◌∷◌, ◌++◌, sym, ap, ◌∙◌, append_assoc, zero-add, arith}
use Rattle.std.proofs.lemmas.List.{append-nil}
use Rattle.std.proofs.lemmas.List.Sums.{sum_by-append}
use Rattle.pv_network.specs.declared.outcome.Outcome.{Outcome}
use Rattle.pv_network.specs.Step.{Choice}
use Rattle.pv_network.specs.World.{World}
use Rattle.pv_script.specs.declared.grammar.Command.{Command}
use Rattle.pv_script.specs.declared.tally.Tally.{Tally}
use Rattle.pv_script.specs.Tally.{outcomes_to, outcomes_of, screen_count, charge_count, bill_pence, tally_of, AddsOutcomes, IsTallyWithin}
use Rattle.pv_script.specs.Transcript.{world_after_command, world_after_all}

-- ---- outcomes

-- what came of one command more
pub outcomes_of-push : (w : World) (runs : List (Command × Choice)) (run : Command × Choice)
    → outcomes_of w (runs ++ run ∷ []) ≡ outcomes_of w runs ++ outcomes_to (world_after_all w runs) run.0 run.1
outcomes_of-push w [] run = append-nil (outcomes_to w run.0 run.1)
outcomes_of-push w (first ∷ runs) run =
    ap (λ (l : List Outcome). outcomes_to w first.0 first.1 ++ l) (outcomes_of-push (world_after_command w first.0 first.1) runs run)
    ∙ sym (append_assoc (outcomes_to w first.0 first.1) _ _)

-- ---- tallies

-- no outcome adds nothing
pub adds_none : (tally : Tally) → AddsOutcomes tally tally []
adds_none tally = record { screens = omega arith; lines = omega arith; pence = omega arith }

-- outcomes that were added after others
pub adds_more : (a b c : Tally) (x y : List Outcome) → AddsOutcomes a b x → AddsOutcomes b c y → AddsOutcomes a c (x ++ y)
adds_more a b c x y p q = record {
  screens = omega (arith, p.screens, q.screens, sum_by-append screen_count x y);
  lines = omega (arith, p.lines, q.lines, sum_by-append charge_count x y);
  pence = omega (arith, p.pence, q.pence, sum_by-append bill_pence x y);
}

-- a tally to which outcomes were added, from the first on, is theirs
pub adds_all : (tally : Tally) (came : List Outcome) → AddsOutcomes (tally_of []) tally came → tally ≡ tally_of came
adds_all tally came p =
    let screens = p.screens ∙ zero-add _ in
    let lines = p.lines ∙ zero-add _ in
    let pence = p.pence ∙ zero-add _ in
    λ i. record { screens = screens i; lines = lines i; pence = pence i }

-- ---- the room of a tally

-- what is within some numbers is within more
pub within_more : (tally : Tally) (m n : ℕ) → m ≤ n → IsTallyWithin tally m → IsTallyWithin tally n
within_more tally m n more p = record {
  screens = omega (arith, more, p.screens);
  lines = omega (arith, more, p.lines);
  pence = omega (arith, more, p.pence);
}

-- nothing is within nothing
pub within_none : IsTallyWithin (tally_of []) 0
within_none = record { screens = omega arith; lines = omega arith; pence = omega arith }
