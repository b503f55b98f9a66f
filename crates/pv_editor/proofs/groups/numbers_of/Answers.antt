use Rattle.std.proofs.Common.{Bor, ◌≡◌, ℕ, ◌+◌, ◌≤◌, List, Option, Some, None, [], take, refl, ap, subst, sym, ◌∙◌, arith}
use Rattle.std.specs.Option.{option_map_or}
use Rattle.std.proofs.lemmas.List.{length-set, length-take-le, take_more_set}
use Rattle.pv_account.specs.declared.groups.TheConstants.{ACCOUNT_GROUPS}
use Rattle.pv_words.proofs.Values.{missing}
use Rattle.pv_editor.specs.Groups.{comma_parts}
use Rattle.pv_editor.proofs.SoFar.{AreSoFar, so_far-all, so_far-more, so_far-bad, so_far-long}
use Rattle.pv_editor.proofs.groups.numbers_of.Goals as goal

-- the numbers so far, where these parts are left
next : {A : Type 0} (f : A → List (List ℕ)) (parts : List (List ℕ)) (numbers : List ℕ) (left : Option A) (rest : A) (others : List (List ℕ))
    → left ≡ Some rest → f rest ≡ others → AreSoFar parts numbers (option_map_or f left []) → AreSoFar parts numbers others
next f parts numbers left rest others is same so_far =
    subst (λ (more : List (List ℕ)). AreSoFar parts numbers more) (ap (λ (o : Option _). option_map_or f o []) is ∙ same) so_far

-- no part is left
ends : {A : Type 0} (f : A → List (List ℕ)) (left : Option A) → ((a : A) → left ≡ Some a → ⊥) → option_map_or f left [] ≡ []
ends f (Some a) none = absurd (none a refl)
ends f None none = refl

-- the texts of what is left
abbrev parts_left : Option (Bor (List ℕ)) → List (List ℕ)
parts_left left = option_map_or (λ rest. comma_parts rest.now) left []

-- the next part is no number
pub returns-in_err-number-clause-only : goal.returns-in_err-number-clause-only
returns-in_err-number-clause-only c = λ numbers are fits.
    let so_far = next (λ rest. comma_parts rest.now) (comma_parts c.args.text.now) (take c.loop-left.count c.loop-left.numbers)
    c.loop-left.left c.in-Some.rest _ c.in-Some.is c.first_part.ensures.parts c.loop-left.invariant.so_far in
    absurd (so_far-bad _ _ _ _ so_far (λ m is. missing _ (c.in_err-number.ensures.only m is)) numbers are)

-- there are more numbers than may be
pub returns-then-count-eq-ACCOUNT_GROUPS-clause-only : goal.returns-then-count-eq-ACCOUNT_GROUPS-clause-only
returns-then-count-eq-ACCOUNT_GROUPS-clause-only c = λ numbers are fits.
    let so_far = next (λ rest. comma_parts rest.now) (comma_parts c.args.text.now) (take c.loop-left.count c.loop-left.numbers)
    c.loop-left.left c.in-Some.rest _ c.in-Some.is c.first_part.ensures.parts c.loop-left.invariant.so_far in
    let whole = c.loop-left.invariant.whole in
    omega (
      arith,
      so_far-long _ _ _ _ so_far numbers are,
      length-take-le c.loop-left.count c.loop-left.numbers (omega (arith, whole, c.loop-left.invariant.fits)),
      c.if-count-eq-ACCOUNT_GROUPS.true,
    )

-- one number more is read
pub loop-left-preserved : goal.loop-left-preserved
loop-left-preserved c =
    let so_far = next (λ rest. comma_parts rest.now) (comma_parts c.args.text.now) (take c.loop-left.count c.loop-left.numbers)
    c.loop-left.left c.in-Some.rest _ c.in-Some.is c.first_part.ensures.parts c.loop-left.invariant.so_far in
    let number = c.in_ok-number.number in
    let whole = c.loop-left.invariant.whole in
    let fits : c.loop-left.count + 1 ≤ ACCOUNT_GROUPS = omega (arith, c.loop-left.invariant.fits, c.if-count-eq-ACCOUNT_GROUPS.false) in
    let same : (m : ℕ) → _ = λ m is. let e = c.in_ok-number.ensures.only m is in let f : number ≡ m = cc in f in
    record {
      whole = length-set c.loop-left.numbers c.loop-left.count number ∙ whole;
      fits = fits;
      so_far = subst (λ (numbers : List ℕ). AreSoFar (comma_parts c.args.text.now) numbers (parts_left c.first_part.result.1))
          (sym (take_more_set c.loop-left.numbers c.loop-left.count number (omega (arith, whole, fits))))
          (so_far-more _ _ _ _ so_far number c.in_ok-number.ensures.found same);
    }

-- all are read
pub returns-clause-found : goal.returns-clause-found
returns-clause-found c =
    (so_far-all _ _
    (subst (λ (more : List (List ℕ)). AreSoFar (comma_parts c.args.text.now) (take c.loop-left.count c.loop-left.numbers) more)
    (ends (λ rest. comma_parts rest.now) c.loop-left.left c.in_default.not-Some) c.loop-left.invariant.so_far)).0

pub returns-clause-only : goal.returns-clause-only
returns-clause-only c = λ numbers are fits.
    (so_far-all _ _
    (subst (λ (more : List (List ℕ)). AreSoFar (comma_parts c.args.text.now) (take c.loop-left.count c.loop-left.numbers) more)
    (ends (λ rest. comma_parts rest.now) c.loop-left.left c.in_default.not-Some) c.loop-left.invariant.so_far)).1 numbers are
