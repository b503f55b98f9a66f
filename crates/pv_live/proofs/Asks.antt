-- What an ask has done to its pass, from what its steps did.
use Rattle.std.proofs.Common.{◌≡◌, ℕ, ◌+◌, List, Option, Some, None, MatchOption, IfSome, ◌∙◌, ap, subst}
use mathlib.Core.List.{IsPrefix}
use Rattle.pv_outside.specs.declared.limits.Limits.{Limits}
use Rattle.pv_node.specs.declared.rules.Rules as rules
use Rattle.pv_node.specs.declared.decision.Told.{Told}
use Rattle.pv_history.proofs.CallerLemmas.{prefix_trans}
use Rattle.pv_live.specs.declared.entry.Entry.{Entry}
use Rattle.pv_live.specs.declared.fault.LiveFault.TheVariants.{Memory}
use Rattle.pv_live.specs.Pass.{Standing}
use Rattle.pv_live.specs.Board.{Board}
use Rattle.pv_live.specs.Asking.{HasSeenAll, IsStoredFor, Waits, IfKept, HasAnswered, HasStoredFor, HasAsked}

-- a pass that has seen all records, and after a settling all again, is as it was, but has seen more
pub seen_since : {D State Rec : Type 0} (first one settled two : Standing Rec) (board later : Board D State Rec)
    → HasSeenAll first one board → settled ≡ one → HasSeenAll settled two later
    → IsPrefix first.seen two.seen × (two.number ≡ first.number) × (two.told ≡ first.told)
seen_since first one settled two board later a same b = (
  rw (ap (λ p. p.seen) b.seen)
      (prefix_trans first.seen board.log later.log a.prefix
      (subst (λ l. IsPrefix l later.log) (ap (λ p. p.seen) (same ∙ a.seen)) b.prefix)),
  ap (λ p. p.number) b.seen ∙ ap (λ p. p.number) (same ∙ a.seen),
  ap (λ p. p.told) b.seen ∙ ap (λ p. p.told) (same ∙ a.seen),
)

module _ {S State Request Rec Reply : Type 0} (r : rules.Ghosts S State Request Rec Reply) (limits : Limits) (opening : List Rec)
    (request : Request) (first old : Standing Rec) (prefix : IsPrefix first.seen old.seen) (number : old.number ≡ first.number)
    (told : old.told ≡ first.told) where
  -- what was stored for a pass was stored for it as it was before
  stored_earlier : (log before : List (Entry Rec)) (entry : Entry Rec) (place : ℕ) → IsStoredFor opening old log before entry place
      → IsStoredFor opening first log before entry place
  stored_earlier log before entry place is = record {
    last = is.last;
    known = prefix_trans first.seen old.seen before prefix is.known;
    maker = is.maker ∙ number;
    counted = is.counted;
  }

  -- what a later part of an ask has done to its pass, the ask has done
  pub asked_earlier : (new : Standing Rec) (answer : Told Reply) → HasAsked r limits opening request old new answer
      → HasAsked r limits opening request first new answer
  asked_earlier new answer asked = by answer.number asked
    where
      by : (place : Option ℕ)
          → MatchOption place (HasAnswered r limits opening request old new answer.reply)
          (HasStoredFor r limits opening request old new answer.reply)
          → MatchOption place (HasAnswered r limits opening request first new answer.reply)
          (HasStoredFor r limits opening request first new answer.reply)
      by None is = record { told = is.told ∙ told; judged = is.judged }
      by (Some place) is = record {
        before = is.before;
        entry = is.entry;
        stored = stored_earlier new.seen is.before is.entry place is.stored;
        told = is.told ∙ ap (λ (n : ℕ). n + 1) told;
        judged = is.judged;
      }

  -- a record that was stored, and could not be published, waits
  pub kept_for : {D S' : Type 0} (F : Type 0) (new : Standing Rec) (answer : Told Reply) (board : Board D S' Rec) (waiting : ℕ)
      → new.seen ≡ board.log → board.waiting ≡ waiting
      → HasAsked r limits opening request old new answer → IfSome answer.number (λ place. waiting ≡ 1)
      → IfKept {D = D} {F = F} (Memory answer.number) (Waits opening first board)
  kept_for {D} {S'} F new answer board waiting seen still asked waits = by answer.number asked waits
    where
      by : (place : Option ℕ)
          → MatchOption place (HasAnswered r limits opening request old new answer.reply)
          (HasStoredFor r limits opening request old new answer.reply)
          → IfSome place (λ place. waiting ≡ 1)
          → IfKept {D = D} {F = F} (Memory place) (Waits opening first board)
      by None is waits = tt
      by (Some place) is waits = (
        is.before,
        is.entry,
        subst (λ (log : List (Entry Rec)). IsStoredFor opening first log is.before is.entry place) seen
            (stored_earlier new.seen is.before is.entry place is.stored),
        still ∙ waits,
      )
