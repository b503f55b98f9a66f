-- One step of the sequence.
use Rattle.std.proofs.Common.{◌≡◌, ℕ, suc, ◌+◌, ap, ◌∙◌, arith}
use Rattle.pv_gen.specs.Sequence.{next_state, state_at, output_of, output_at}

module _ (number steps : ℕ) {state next : ℕ} (now : state ≡ state_at number steps) (stepped : next ≡ next_state state) where
  -- the state after one step more
  pub state-next : next ≡ state_at number (steps + 1)
  state-next = let e : suc steps ≡ steps + 1 = omega arith in stepped ∙ ap next_state now ∙ ap (state_at number) e

  -- and its output
  pub output-next : {output : ℕ} → output ≡ output_of next → output ≡ output_at number (steps + 1)
  output-next is = is ∙ ap output_of state-next
