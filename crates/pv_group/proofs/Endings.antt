-- What an ask has done to its pass, from what was decided and what was given of it.
use Rattle.std.proofs.Common.{◌≡◌, ℕ, ◌+◌, ◌<◌, ◌≤◌, List, length, Option, Some, None, MatchOption, Result, Ok, Err, refl, ap, sym, ◌∙◌, subst, arith}
use mathlib.Core.List.{IsPrefix}
use Rattle.pv_outside.specs.declared.limits.Limits.{Limits}
use Rattle.pv_node.specs.declared.rules.Rules as rules
use Rattle.pv_node.specs.declared.decision.Told.{Told}
use Rattle.pv_history.proofs.CallerLemmas.{prefix_self, prefix_length, prefix_whole}
use Rattle.pv_live.specs.declared.entry.Entry.{Entry}
use Rattle.pv_live.specs.declared.fault.LiveFault.{LiveFault}
use Rattle.pv_live.specs.declared.fault.LiveFault.TheVariants as fault
use Rattle.pv_live.specs.Pass.{Standing}
use Rattle.pv_live.specs.Asking.{HasAnswered, HasStoredFor, HasFailed}
use Rattle.pv_group.specs.declared.outcome.Outcome.{Outcome}
use Rattle.pv_group.specs.declared.outcome.Outcome.TheVariants.{Replied, Full}
use Rattle.pv_group.specs.Answers.{place_of, stored_by, AnswersAsk, EndsBeforeDeciding, IsOutcome, AskEnds}

module _ {S State Request Rec Reply : Type 0} (r : rules.Ghosts S State Request Rec Reply) (limits : Limits) (opening : List Rec)
    (request : Request) (old mid : Standing Rec) (upto : List (Entry Rec)) (outcome : Outcome Reply)
    (decided : IsOutcome r limits opening request old (record mid { seen = upto }) outcome)
    (same : mid ≡ record old { told = mid.told }) where
  -- the pass has counted what the outcome stores
  pub counted : mid.told ≡ old.told + stored_by outcome
  counted = by outcome decided
    where
      one : (place : Option ℕ) (reply : Reply)
          → MatchOption place (HasAnswered r limits opening request old (record mid { seen = upto }) reply)
          (HasStoredFor r limits opening request old (record mid { seen = upto }) reply)
          → mid.told ≡ old.told + stored_by (Replied (record { reply = reply; number = place }))
      one None reply is = omega (arith, is.told)
      one (Some place) reply is = is.told

      by : (outcome : Outcome Reply) → IsOutcome r limits opening request old (record mid { seen = upto }) outcome
          → mid.told ≡ old.told + stored_by outcome
      by (Replied told) is = one told.number told.reply is
      by (Full count) is = omega (arith, is.0)

  -- the place of its record is after all that the pass had seen
  untold : (D F : Type 0) (stored : Option ℕ) → stored ≡ place_of outcome
      → HasFailed r limits opening {D = D} {F = F} request old mid (fault.Memory stored)
  untold D F stored is = rw is (by outcome decided)
    where
      failed : mid.failed ≡ old.failed
      failed = ap (λ (p : Standing Rec). p.failed) same

      one : (place : Option ℕ) (reply : Reply)
          → MatchOption place (HasAnswered r limits opening request old (record mid { seen = upto }) reply)
          (HasStoredFor r limits opening request old (record mid { seen = upto }) reply)
          → HasFailed r limits opening {D = D} {F = F} request old mid (fault.Memory place)
      one None reply is = (is.told, failed)
      one (Some place) reply is = (
        is.told,
        failed,
        omega (arith, is.stored.counted, prefix_length old.seen is.before is.stored.known),
      )

      by : (outcome : Outcome Reply) → IsOutcome r limits opening request old (record mid { seen = upto }) outcome
          → HasFailed r limits opening {D = D} {F = F} request old mid (fault.Memory (place_of outcome))
      by (Replied told) is = one told.number told.reply is
      by (Full count) is = (is.0, failed)

  -- it has the number and the looks that it had
  others_kept : (seen : List (Entry Rec)) (told failed : ℕ)
      → record mid { seen = seen; told = told; failed = failed } ≡ record old { seen = seen; told = told; failed = failed }
  others_kept seen told failed =
      ap (λ (p : Standing Rec). record { number = p.number; seen = seen; told = told; failed = failed; looks = p.looks }) same

  module _ (D F : Type 0) (prefix : IsPrefix old.seen upto) where
    abbrev pub Ends : Standing Rec → Result (Told Reply) (LiveFault D F) → Type 0
    Ends = AskEnds r limits opening {D = D} {F = F} request old

    -- a pass that has seen all of it may be given the reply
    replied : (told : Told Reply) → outcome ≡ Replied told → Ends (record mid { seen = upto }) (Ok told)
    replied told is = record {
      told = subst (IsOutcome r limits opening request old (record mid { seen = upto })) is decided;
      seen = prefix;
      same = others_kept upto mid.told mid.failed;
      not_failed = ap (λ (p : Standing Rec). p.failed) same;
      failed = tt;
    }

    -- or that the node is full
    full : (count : ℕ) → outcome ≡ Full count → Ends (record mid { seen = upto }) (Err (fault.Full count))
    full count is =
        let has = subst (IsOutcome r limits opening request old (record mid { seen = upto })) is decided in record {
          told = tt;
          seen = prefix;
          same = others_kept upto mid.told mid.failed;
          not_failed = tt;
          failed = (has.0, ap (λ (p : Standing Rec). p.failed) same, has.1);
        }

    -- a pass that had seen all of it before has seen it now
    module _ (all : length upto ≤ length old.seen) where
      whole : record mid { seen = upto } ≡ mid
      whole = ap (λ (l : List (Entry Rec)). record mid { seen = l })
          (sym (prefix_whole old.seen upto prefix all) ∙ sym (ap (λ (p : Standing Rec). p.seen) same))

      pub replied_at_once : (told : Told Reply) → outcome ≡ Replied told → Ends mid (Ok told)
      replied_at_once told is = subst (λ (p : Standing Rec). Ends p (Ok told)) whole (replied told is)

      pub full_at_once : (count : ℕ) → outcome ≡ Full count → Ends mid (Err (fault.Full count))
      full_at_once count is = subst (λ (p : Standing Rec). Ends p (Err (fault.Full count))) whole (full count is)

    -- others are given it once it is stored
    pub ended : length opening + length old.seen < limits.records → (new : Standing Rec)
        (result : Result (Told Reply) (LiveFault D F)) → AnswersAsk outcome upto mid new result → Ends new result
    ended room new (Ok told) is = subst (λ (p : Standing Rec). Ends p (Ok told)) (sym is.1) (replied told is.0)
    ended room new (Err (fault.Full count)) is =
        subst (λ (p : Standing Rec). Ends p (Err (fault.Full count))) (sym is.1) (full count is.0)
    ended room new (Err (fault.Memory stored)) is =
        subst (λ (p : Standing Rec). Ends p (Err (fault.Memory stored))) (sym is.1) (record {
          told = tt;
          seen = subst (IsPrefix old.seen) (sym (ap (λ (p : Standing Rec). p.seen) same)) (prefix_self old.seen);
          same = others_kept mid.seen mid.told mid.failed;
          not_failed = tt;
          failed = untold D F stored is.0;
        })
    ended room new (Err (fault.Disk failure)) is =
        let seen : new.seen ≡ old.seen = ap (λ (p : Standing Rec). p.seen) is.same ∙ ap (λ (p : Standing Rec). p.seen) same in record {
          told = tt;
          seen = subst (IsPrefix old.seen) (sym seen) (prefix_self old.seen);
          same = ap (λ (p : Standing Rec). record { number = p.number; seen = new.seen; told = new.told; failed = new.failed; looks = p.looks })
              is.same
              ∙ others_kept new.seen new.told new.failed;
          not_failed = tt;
          failed = (
            omega (arith, is.told, counted),
            is.failed ∙ ap (λ (p : Standing Rec). p.failed + 1) same,
            omega (arith, ap length seen, room),
          );
        }

-- an ask that ended before anything was decided
pub not_begun : {S State Request Rec Reply : Type 0} (D F : Type 0) (r : rules.Ghosts S State Request Rec Reply) (limits : Limits)
    (opening : List Rec) (request : Request) (old new : Standing Rec) (why : LiveFault D F)
    → length opening + length old.seen < limits.records → EndsBeforeDeciding old new why
    → AskEnds r limits opening {D = D} {F = F} request old new (Err why)
not_begun D F r limits opening request old new (fault.Memory stored) room is =
    subst (λ (p : Standing _). AskEnds r limits opening {D = D} {F = F} request old p (Err (fault.Memory stored))) (sym is.1) (record {
      told = tt;
      seen = prefix_self old.seen;
      same = refl;
      not_failed = tt;
      failed = rw is.0 (refl, refl);
    })
not_begun D F r limits opening request old new (fault.Disk failure) room is =
    subst (λ (p : Standing _). AskEnds r limits opening {D = D} {F = F} request old p (Err (fault.Disk failure))) (sym is) (record {
      told = tt;
      seen = prefix_self old.seen;
      same = refl;
      not_failed = tt;
      failed = (refl, refl, room);
    })
not_begun D F r limits opening request old new (fault.Full count) room is = absurd is
