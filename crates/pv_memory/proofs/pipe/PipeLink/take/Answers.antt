use Rattle.std.proofs.Common.{rules, ◌≡◌, List, ℕ, drop, subst}
use Rattle.std.specs.Prelude.{Contains}
use Rattle.pv_memory.proofs.PipeLemmas.{in_suffix}
use Rattle.pv_memory.proofs.pipe.PipeLink.take.Goals as goal

-- it still holds what comes after the first packet, and nothing else
pub returns-in-Some-clause-only : goal.returns-in-Some-clause-only
returns-in-Some-clause-only c =
    let old = c.args.self.now.packets in
    let is : c.pop_front.new.self.items ≡ drop 1 old = search rules in
    λ held within. in_suffix 1 old held (subst (λ (l : List (List ℕ)). Contains l held) is within)
