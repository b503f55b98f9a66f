-- Stands that were given new passes.
use Rattle.std.proofs.Common.{◌≡◌, ℕ, zero, suc, ◌+◌, List, [], ◌∷◌, ◌++◌, length, length-append, map, Option, Some, refl, ap, ◌∙◌, subst, arith}
use Rattle.std.specs.Prelude.{All, IfSome, option_to_list}
use Rattle.std.proofs.lemmas.List.Elements.{All-nil, All-cons, All-head, All-tail, All-push, All-pop, All-same}
use Rattle.pv_live.specs.Pass.{Standing, new_pass, new_passes}
use Rattle.pv_centres.specs.Served.{IsNewPass}

-- what holds of each value that is read holds of what it was read of
pub each_of : {T X : Type 0} (f : T → X) (P : X → Type 0) (items : List T) → All P (map f items) → All (λ x. P (f x)) items
each_of f P [] each = All-nil _
each_of f P (x ∷ items) each =
    All-cons (λ y. P (f y)) x items (All-head P (f x) (map f items) each) (each_of f P items (All-tail P (f x) (map f items) each))

-- each of these is new
pub each_is_new : {Rec : Type 0} (n : ℕ) → All IsNewPass (new_passes {T = Rec} n)
each_is_new zero = All-nil _
each_is_new (suc n) = All-push IsNewPass (new_passes n) (new_pass n) (each_is_new n) refl

-- all but the last one were given to stands
pub new_stands : {T Rec : Type 0} (stands : List T) (pass_of : T → Standing Rec) (n : ℕ) (passes : List (Standing Rec))
    (last : Option (Standing Rec)) → new_passes n ≡ passes ++ option_to_list last → map pass_of stands ≡ passes
    → All (λ s. IsNewPass (pass_of s)) stands
new_stands stands pass_of n passes last all given =
    each_of pass_of IsNewPass stands
    (All-same IsNewPass (map pass_of stands) passes given (All-pop IsNewPass (new_passes n) passes last all (each_is_new n)).0)

-- a pass that was taken off new passes is new, and so are the others
pub taken_new : {Rec : Type 0} (all left : List (Standing Rec)) (last : Option (Standing Rec)) (own : Standing Rec)
    → all ≡ left ++ option_to_list last → last ≡ Some own → All IsNewPass all → All IsNewPass left × IsNewPass own
taken_new all left last own split there new =
    let each = All-pop IsNewPass all left last split new in
    (each.0, subst (λ (o : Option (Standing _)). IfSome o IsNewPass) there each.1)

-- without the last one they are one fewer
pub one_fewer : {X : Type 0} (all left : List X) (last : Option X) (own : X) (n : ℕ) → all ≡ left ++ option_to_list last → last ≡ Some own
    → length all ≡ n + 1 → length left ≡ n
one_fewer {X} all left last own n split there counted =
    omega (
      arith,
      ap (λ (xs : List X). length xs) (split ∙ ap (λ (o : Option X). left ++ option_to_list o) there),
      length-append left (own ∷ []),
      counted,
    )
