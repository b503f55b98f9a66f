-- The refusals of a wish stand in the order of their numbers, so the first that applies has the least.
use Rattle.std.proofs.Common.{◌≡◌, ℕ, suc, zero, ◌≤◌, Bool, List, [], ◌∷◌, Option, Some, None, ap, sym, arith}
use Rattle.std.specs.Prelude.{slice_get}
use Rattle.pv_outside.specs.declared.limits.Limits.{Limits}
use Rattle.pv_fields.specs.Refusals.{first_of, some_if}
use Rattle.pv_fields.proofs.CallerLemmas.{some_if-some, option_map-some_back}
use Rattle.pv_frame.specs.Content.{Content}
use Rattle.pv_frame.specs.Errors.{error_of}
use Rattle.pv_edits.specs.declared.record.Record.{Record}
use Rattle.pv_edits.specs.declared.wish.EditWish.{EditWish}
use Rattle.pv_edits.specs.declared.wish.EditWish.TheVariants.{Put, Drop, Account, Lease}
use Rattle.pv_udc.specs.Codes.{code_number}
use Rattle.pv_udc.specs.Judgement.{frame_refusal, refusals_of, refusal_of}
use Rattle.pv_udc.specs.declared.refusal.Refusal.{Refusal}
use Rattle.pv_udc.specs.declared.refusal.Refusal.TheVariants.{NotOwner, BadNumber, NoFrame, FramesFull, AccountsFull, BadFrame, OperatorOnly, LeasesFull, NoAccount}

-- a refusal, if it is there, has this number
abbrev HasNumber : ℕ → Option Refusal → Type 0
HasNumber number o = (refusal : Refusal) → o ≡ Some refusal → code_number refusal ≡ number

-- each refusal that is there has a number, and these rise from this one on
abbrev Rise : ℕ → List (Option Refusal) → Type 0
Rise least [] = Unit {0}
Rise least (o ∷ others) = (number : ℕ) × (least ≤ number) × HasNumber number o × Rise number others

-- so none has a lower one
above : (least : ℕ) (os : List (Option Refusal)) (i : ℕ) (other : Refusal) → Rise least os → slice_get os i ≡ Some (Some other)
    → least ≤ code_number other
above least [] i other rise there = absurd cc
above least (o ∷ others) zero other rise there =
    let is : o ≡ Some other = cc in omega (arith, rise.1, rise.2 other is)
above least (o ∷ others) (suc i) other rise there = let rest = above rise.0 others i other rise.3 there in omega (arith, rise.1, rest)

-- and the first has the least
pub least : (lowest : ℕ) (os : List (Option Refusal)) (first other : Refusal) (i : ℕ) → Rise lowest os → first_of os ≡ Some first
    → slice_get os i ≡ Some (Some other) → code_number first ≤ code_number other
least lowest [] first other i rise is there = absurd cc
least lowest (Some x ∷ others) first other zero rise is there =
    let one : x ≡ first = cc in let two : x ≡ other = cc in omega (arith, rise.2 first is, rise.2 other (ap Some two))
least lowest (Some x ∷ others) first other (suc i) rise is there =
    let rest = above rise.0 others i other rise.3 there in omega (arith, rise.2 first is, rest)
least lowest (None ∷ others) first other zero rise is there = absurd cc
least lowest (None ∷ others) first other (suc i) rise is there = least rise.0 others first other i rise.3 is there

-- a refusal that comes of a test
of_test : (test : Bool) (refusal : Refusal) → HasNumber (code_number refusal) (some_if test refusal)
of_test test refusal other is = ap code_number (sym (some_if-some test refusal other is).1)

-- one that comes of the frame's error
of_frame : (frame : Content) → HasNumber 7 (frame_refusal frame)
of_frame frame other is = let found = option_map-some_back BadFrame (error_of frame) other is in ap code_number (sym found.2)

module _ (limits : Limits) (records : List Record) (editor q : ℕ) where
  rises : (wish : EditWish) → Rise 2 (refusals_of limits records editor q wish)
  rises (Put name frame) = (
    2,
    omega arith,
    of_test _ NotOwner,
    (
      3,
      omega arith,
      of_test _ (BadNumber _),
      (
        5,
        omega arith,
        of_test _ (FramesFull _),
        (7, omega arith, of_frame frame, tt),
      ),
    ),
  )
  rises (Drop name) = (
    2,
    omega arith,
    of_test _ NotOwner,
    (
      3,
      omega arith,
      of_test _ (BadNumber _),
      (4, omega arith, of_test _ NoFrame, tt),
    ),
  )
  rises (Account account) = (
    3,
    omega arith,
    of_test _ (BadNumber _),
    (
      6,
      omega arith,
      of_test _ (AccountsFull _),
      (8, omega arith, of_test _ OperatorOnly, tt),
    ),
  )
  rises (Lease root account) = (
    3,
    omega arith,
    of_test _ (BadNumber _),
    (
      8,
      omega arith,
      of_test _ OperatorOnly,
      (
        9,
        omega arith,
        of_test _ (LeasesFull _),
        (10, omega arith, of_test _ NoAccount, tt),
      ),
    ),
  )

  pub refusal_of-least : (wish : EditWish) (first other : Refusal) (i : ℕ) → refusal_of limits records editor q wish ≡ Some first
      → slice_get (refusals_of limits records editor q wish) i ≡ Some (Some other) → code_number first ≤ code_number other
  refusal_of-least wish first other i = least 2 (refusals_of limits records editor q wish) first other i (rises wish)
