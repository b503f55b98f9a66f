-- What is known after a record was asked for, from what was decided on it.
use Rattle.std.proofs.Common.{◌≡◌, inl, inr, ℕ, List, [], ◌∷◌, ◌++◌, Option, Some, None, Result, Ok, Err, sym, ap, subst, ◌∙◌}
use Rattle.pv_outside.specs.declared.reports.Reports as reports
use Rattle.pv_journal.specs.Journal.{LeavesOnly}
use Rattle.pv_journal.proofs.Moments.{only_weaker}
use Rattle.pv_node.specs.Asking.{CarriesOut, AskLeaves, HasStored, IsAtLimit, IsTaken, to_store}
use Rattle.pv_node.specs.declared.decision.Decision.{Decision}
use Rattle.pv_node.specs.declared.decision.Decision.TheVariants.{Answer, Store}
use Rattle.pv_node.specs.declared.decision.Told.{Told}
use Rattle.pv_node.specs.declared.fault.AskFault.TheVariants.{Full, Disk}
use Rattle.pv_node.specs.declared.rules.Rules as rules
use Rattle.pv_node.specs.Parts.{Parts}
use Rattle.pv_node.specs.Standing.{Stands, StandsEither, StandsFor}
use Rattle.pv_closing.specs.Bringing.{LeavesNext}

-- the reply that was returned, or this
abbrev told_or : {Reply F : Type 0} → Told Reply → Result (Told Reply) F → Told Reply
told_or other (Ok told) = told
told_or other (Err fault) = other

module _ {S State Request Rec Reply D : Type 0} (r : rules.Ghosts S State Request Rec Reply) (g : reports.Ghosts D)
    (old new : Parts D State Rec) (request : Request) (next : Rec) (decision : Decision Rec Reply)
    (judged : r.judgement old.state request ≡ decision) where
  -- if anything is to be stored, it is this record
  abbrev pub StoresOnly : Decision Rec Reply → Type 0
  StoresOnly (Answer reply) = Unit {0}
  StoresOnly (Store rec reply) = rec ≡ next

  -- so a crash leaves it or not
  leaves_decided : (d : Decision Rec Reply) → StoresOnly d → (records : List Rec) (image : List ℕ)
      → StandsEither r records (to_store d) image → StandsEither r records (Some next) image
  leaves_decided (Answer reply) only records image stands = inl stands
  leaves_decided (Store rec reply) only records image (inl stands) = inl stands
  leaves_decided (Store rec reply) only records image (inr stands) =
      inr (subst (λ (x : Rec). Stands r image (records ++ x ∷ [])) only stands)

  -- nothing was in hand, so nothing is settled
  leaves_next : old.hand ≡ None → StoresOnly decision → (records : List Rec) (image : List ℕ)
      → AskLeaves r g request old records image → StandsEither r records (Some next) image
  leaves_next none only records image (inl stands) =
      inl (subst (λ (h : Option Rec). StandsEither r records h image) none stands)
  leaves_next none only records image (inr (settled, None, is, stands)) =
      let decided : r.judgement settled.state request ≡ decision =
      ap (λ (p : Parts D State Rec). r.judgement p.state request) (is.same none) ∙ judged in
      leaves_decided decision only records image
      (subst (λ (d : Decision Rec Reply). StandsEither r records (to_store d) image) decided stands)
  leaves_next none only records image (inr (settled, Some rec, is, stands)) = absurd (let no : None ≡ Some rec = sym none ∙ is.was in cc)

  -- a crash leaves the records, perhaps with it
  pub asked_leaves : old.hand ≡ None → StoresOnly decision → ((records : List Rec) → StandsFor r g old records
      → LeavesOnly g old.journal.disk new.journal.disk (AskLeaves r g request old records))
      → LeavesNext r g old new next
  asked_leaves none only moments = λ records stands.
      only_weaker g {old = old.journal.disk} {new = new.journal.disk} {P = AskLeaves r g request old records}
      {Q = StandsEither r records (Some next)}
      (λ told image left. leaves_next none only records image left) (moments records stands)

module _ {S State Request Rec Reply D : Type 0} (r : rules.Ghosts S State Request Rec Reply) (g : reports.Ghosts D)
    (old new : Parts D State Rec) (next : Rec) where
  -- it was to be stored, and is
  pub was_stored : (F : Type 0) (decision : Decision Rec Reply) (reply : Reply) (told : Told Reply) → decision ≡ Store next reply
      → CarriesOut r g {F = F} decision old new (Ok told) → HasStored r g old new next
  was_stored F decision reply told is carried =
      (subst (λ (d : Decision Rec Reply). CarriesOut r g {F = F} d old new (Ok told)) is carried).1

  -- the node is full
  pub was_full : (F : Type 0) (decision : Decision Rec Reply) (count : ℕ)
      → CarriesOut r g {F = F} decision old new (Err (Full count)) → IsAtLimit r old new count
  was_full F (Answer reply) count carried = absurd (let no = carried.0 in cc)
  was_full F (Store rec reply) count carried = carried

  -- a call of the disk failed
  pub was_taken : {F : Type 0} (decision : Decision Rec Reply) (reply : Reply) (failure : F) → decision ≡ Store next reply
      → CarriesOut r g {F = F} decision old new (Err (Disk failure)) → IsTaken r g old new next
  was_taken {F = F} decision reply failure is carried =
      subst (λ (d : Decision Rec Reply). CarriesOut r g {F = F} d old new (Err (Disk failure))) is carried

  -- a reply came at once
  pub was_answered : (F : Type 0) (decision : Decision Rec Reply) (reply : Reply) (told : Told Reply) → decision ≡ Answer reply
      → CarriesOut r g {F = F} decision old new (Ok told) → (new ≡ old) × (told.reply ≡ reply)
  was_answered F decision reply told is carried =
      let answered = subst (λ (d : Decision Rec Reply). CarriesOut r g {F = F} d old new (Ok told)) is carried in
      (answered.1, ap (λ (t : Told Reply). t.reply) (ap (told_or told) answered.0))
