use Rattle.std.proofs.Common.{◌∷◌, take, ◌∙◌, arith}
use Rattle.pv_memory.proofs.PastLemmas.{kept}
use Rattle.pv_memory.proofs.past.Past.keep.Goals as goal

pub returns : goal.returns
returns c =
    kept c.keep.new.self c.self.inside.steps.items c.self.inside.newest c.place_before-self-inside.result c.self.inside.known _ 7
    c.self.invariant.0 c.self.invariant.1 c.min-self-inside.ensures c.place_before-self-inside.ensures (omega arith)
    ∙ (λ i. c.keep.ensures i ∷ take 7 (c.self.view_is i))
