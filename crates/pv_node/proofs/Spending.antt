-- What an ask takes of the disk, from what its parts take.
use Rattle.std.proofs.Common.{◌≡◌, ◌≢◌, ◌⊎◌, inl, inr, refl, ℕ, ◌<◌, ◌≤◌, List, Option, Some, None, IfSome, Result, sym, subst, arith}
use Rattle.std.proofs.lemmas.Option.{none-some}
use Rattle.pv_outside.specs.Disk.{Budget, HasCalls, IsEndless}
use Rattle.pv_outside.specs.declared.reports.Reports as reports
use Rattle.pv_outside.specs.declared.limits.Limits.{Limits}
use Rattle.pv_journal.specs.Journal.{HasLeft, LeavesOnly, HasMade, ReadsOnly}
use Rattle.pv_journal.specs.Log.{longest}
use Rattle.pv_journal.proofs.CallerLemmas.{spends_then, too_few}
use Rattle.pv_node.specs.declared.rules.Rules as rules
use Rattle.pv_node.specs.declared.fault.AskFault.{AskFault}
use Rattle.pv_node.specs.Parts.{Parts}
use Rattle.pv_node.specs.Standing.{StandsEither, StandsFor}
use Rattle.pv_node.specs.Asking.{records_with, IsSettled, AskFailsOnDisk, SpendsOnAsk}
use Rattle.pv_node.proofs.Standing.{settled_same}

-- a disk whose calls have no end has any number of calls left
endless_has : (n room : ℕ) (budget : Option Budget) → IsEndless room budget → HasCalls n room budget
endless_has n room None endless = endless
endless_has n room (Some b) endless = (endless.0, subst (λ (o : Option ℕ). IfSome o (λ left. n ≤ left)) (sym endless.1) tt)

-- an option has no value, or one
none_or : {A : Type 0} (option : Option A) → (option ≡ None) ⊎ (option ≢ None)
none_or None = inl refl
none_or (Some value) = inr (λ none. none-some value (sym none))

module _ {S State Request Rec Reply D : Type 0} (r : rules.Ghosts S State Request Rec Reply) (d : reports.Ghosts D) where
  -- an ask takes what its settling took, and then what was taken after it
  pub spends_settled : {T F Fails : Type 0} (old settled new : Parts D State Rec) (stored : Option Rec) (result : Result T (AskFault D F))
      → IsSettled r d old settled stored
      → ReadsOnly d 2 Fails old.journal.disk settled.journal.disk → SpendsOnAsk r d 4 settled new result → SpendsOnAsk r d 6 old new result
  spends_settled old settled new stored result is reads spends = record {
    spends = spends_then d reads.spends spends.spends;
    passes = λ none. (at_rest none).passes none;
    early = λ none. (at_rest none).early none;
  }
    where
      at_rest : old.hand ≡ None → SpendsOnAsk r d 4 old new result
      at_rest none =
          subst (λ (node : Parts D State Rec). SpendsOnAsk r d 4 node new result) (settled_same r d old settled stored is none) spends

  -- after a settling nothing is in hand
  none_after : (old settled : Parts D State Rec) (stored : Option Rec) → IsSettled r d old settled stored → settled.hand ≡ None
  none_after old settled None is = is.hand
  none_after old settled (Some rec) is = is.hand

  -- a node that stood for some records stands, once it is settled, for these with what was stored
  pub stands_then : (old settled : Parts D State Rec) (stored : Option Rec) → IsSettled r d old settled stored
      → (records : List Rec) → StandsFor r d old records → StandsFor r d settled (records_with records stored)
  stands_then old settled None is records stands = is.records records stands
  stands_then old settled (Some rec) is records stands = is.records records stands

  -- with fewer than two calls left before an ask, no crash leaves more than it might have left before
  pub few_calls : {T F : Type 0} (old settled new : Parts D State Rec) (stored : Option Rec) (result : Result T (AskFault D F))
      → IsSettled r d old settled stored
      → (old.hand ≢ None → HasMade d 2 old.journal.disk settled.journal.disk) → SpendsOnAsk r d 4 settled new result
      → (records : List Rec) (n : ℕ) → StandsFor r d old records → HasLeft n (d.budget old.journal.disk) → n < 2
      → LeavesOnly d old.journal.disk new.journal.disk (StandsEither r records old.hand)
  few_calls old settled new stored result is both spends records n stands has few = elim (none_or old.hand) [
    | inl none ↦
        let at_rest = subst (λ (node : Parts D State Rec). SpendsOnAsk r d 4 node new result) (settled_same r d old settled stored is none) spends in
        subst (λ (hand : Option Rec). LeavesOnly d old.journal.disk new.journal.disk (StandsEither r records hand)) (sym none)
        (too_few d n has few (at_rest.early none records stands))
    | inr some ↦ let left = (both some).left n has in absurd (omega (arith, few, left.2))
  ]

  -- after a settling no call fails, if the disk has room for all records and its calls have no end
  pub never_fails : {T F Fails : Type 0} (old settled new : Parts D State Rec) (stored : Option Rec) (result : Result T (AskFault D F))
      → IsSettled r d old settled stored
      → ReadsOnly d 2 Fails old.journal.disk settled.journal.disk → r.limits_of settled.state ≡ r.limits_of old.state
      → SpendsOnAsk r d 4 settled new result
      → (records : List Rec) → StandsFor r d old records → IsEndless (longest (r.limits_of old.state).records) (d.budget old.journal.disk)
      → AskFailsOnDisk result → ⊥
  never_fails old settled new stored result is reads limits spends records stands endless fails =
      let now = stands_then old settled stored is records stands in
      let room = longest (r.limits_of old.state).records in
      let still = subst (λ (l : Limits). HasCalls 4 (longest l.records) (d.budget settled.journal.disk)) (sym limits)
      (endless_has 4 room (d.budget settled.journal.disk) (reads.spends.endless room endless)) in
      spends.passes (none_after old settled stored is) (records_with records stored) now still fails
