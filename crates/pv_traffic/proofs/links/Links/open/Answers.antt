use Rattle.std.proofs.Common.{◌≡◌, ℕ, zero, suc, [], ◌∷◌, refl, ap, ◌∙◌, arith}
use Rattle.std.specs.Prelude.{replicate}
use Rattle.pv_traffic.specs.Link.{links_of, new_link, no_places}
use Rattle.pv_traffic.proofs.links.Links.open.Goals as goal

-- links without places are new
all_new : (n : ℕ) → links_of [] (replicate n no_places) ≡ replicate n new_link
all_new zero = refl
all_new (suc n) = ap (λ ls. new_link ∷ ls) (all_new n)

pub returns : goal.returns
returns c =
    rw (c.in_ok-open-2.ensures, c.loop.invariant)
    (all_new c.loop.counter ∙ ap (λ n. replicate n new_link) (omega (arith, c.loop-test.false, c.loop.auto.counter-end)))
