-- Which records a node stands for, once it has stored one more.
use Rattle.std.proofs.Common.{◌≡◌, ℕ, ◌<◌, List, [], ◌∷◌, ◌++◌, length, map, All, Option, None, Some, refl, sym, ◌∙◌, ap, subst, arith, ◌⊎◌, inl, inr, rules}
use Rattle.std.proofs.lemmas.List.{map_push, length-map}
use Rattle.std.proofs.lemmas.Option.{none-some}
use Rattle.std.proofs.lemmas.List.Elements.{All-push}
use Rattle.pv_outside.specs.declared.reports.Reports as reports
use Rattle.pv_journal.specs.Log.{Log}
use Rattle.pv_journal.specs.Journal.{LeavesOnly, Holds, HoldsInHand}
use Rattle.pv_journal.proofs.Moments.{only_weaker}
use Rattle.pv_journal.specs.Text.{Spells, SpellsEither}
use Rattle.pv_node.specs.declared.rules.Rules as rules
use Rattle.pv_node.specs.Parts.{Parts}
use Rattle.pv_node.specs.Standing.{Stands, Meets, MeetsBoth, Keeps, StandsFor}
use Rattle.pv_node.proofs.Rooms.{meets_more}
use Rattle.pv_outside.specs.declared.limits.Limits.{Limits}
use Rattle.pv_node.specs.Asking.{IsSettled}

module _ {S State Request Rec Reply D : Type 0} (r : rules.Ghosts S State Request Rec Reply) (d : reports.Ghosts D) where
  -- a node with nothing in hand stands for the records whose spellings its journal holds and for which its state stands
  pub stands_at_rest : (log : Log D) (state : State) (records : List Rec) → Holds d log (map r.spelling records) → All r.is_record records
      → Meets r (r.limits_of state) records → r.stands state records
      → StandsFor r d (record { journal = log; state = state; hand = None }) records
  stands_at_rest log state records holds each meets stood = search (rules, length-map)

  -- whatever is in hand, the records meet the limits
  pub meets_alone : (limits : Limits) (records : List Rec) (hand : Option Rec) → MeetsBoth r limits records hand → Meets r limits records
  meets_alone limits records None meets = meets
  meets_alone limits records (Some rec) meets = meets.0

  -- a record that the journal has stored joins those that the node stood for
  pub gained : (grows : (state : State) (records : List Rec) (rec : Rec) → r.stands state records → r.is_record rec → r.fits state rec → length records < (r.limits_of state).records → r.stands (r.after state rec (length records)) (records ++ rec ∷ []))
      (same_room : (one other : State) (records : List Rec) (rec : Rec) → r.stands one records → r.stands other records → r.limits_of one ≡ r.limits_of other → r.fits one rec → r.fits other rec)
      (limits_stay : (state : State) (rec : Rec) (place : ℕ) → r.limits_of (r.after state rec place) ≡ r.limits_of state)
      (old : Parts D State Rec) (log : Log D) (state : State) (hand : Option Rec) (rec : Rec) (records : List Rec) → hand ≡ None
      → StandsFor r d old records → Holds d log (map r.spelling records ++ r.spelling rec ∷ [])
      → r.is_record rec → r.fits old.state rec → state ≡ r.after old.state rec old.journal.count
      → old.journal.count < (r.limits_of old.state).records
      → StandsFor r d (record { journal = log; state = state; hand = hand }) (records ++ rec ∷ [])
  gained grows same_room limits_stay old log state hand rec records none stands holds spelled fits absorbed room =
      let room_for : length records < (r.limits_of old.state).records = omega (arith, stands.count, room) in
      let stood : r.stands (r.after old.state rec (length records)) (records ++ rec ∷ []) = grows old.state records rec stands.state spelled fits room_for in
      subst (λ (h : Option Rec). StandsFor r d (record { journal = log; state = state; hand = h }) (records ++ rec ∷ [])) (sym none)
      (stands_at_rest log state (records ++ rec ∷ [])
      (subst (λ (l : List (List ℕ)). Holds d log l) (sym (map_push r.spelling records rec)) holds)
      (All-push r.is_record records rec stands.each spelled)
      (subst (λ (limits : Limits). Meets r limits (records ++ rec ∷ [])) (sym (ap r.limits_of absorbed ∙ limits_stay old.state rec old.journal.count))
      (meets_more r same_room (r.limits_of old.state) old.state records rec (meets_alone (r.limits_of old.state) records old.hand stands.meets) stands.state refl fits room_for))
      (subst (λ (s : State). r.stands s (records ++ rec ∷ [])) (sym (absorbed ∙ ap (r.after old.state rec) stands.count)) stood))

  -- what spells the spellings of records, perhaps with that of one more, stands for these, perhaps with that one
  pub either : (records : List Rec) (rec : Rec) → All r.is_record records → r.is_record rec → (image : List ℕ)
      → SpellsEither (map r.spelling records) (r.spelling rec ∷ []) image → Stands r image records ⊎ Stands r image (records ++ rec ∷ [])
  either records rec each spelled image (inl without) = inl (record { text = without; each = each })
  either records rec each spelled image (inr longer) =
      inr (record {
        text = subst (λ (l : List (List ℕ)). Spells image l) (sym (map_push r.spelling records rec)) longer;
        each = All-push r.is_record records rec each spelled;
      })

  -- a record that the journal has in hand leaves what the node stood for
  pub taken : (same_room : (one other : State) (records : List Rec) (rec : Rec) → r.stands one records → r.stands other records → r.limits_of one ≡ r.limits_of other → r.fits one rec → r.fits other rec)
      (old : Parts D State Rec) (log : Log D) (rec : Rec) (records : List Rec) → StandsFor r d old records
      → HoldsInHand d log (map r.spelling records) (r.spelling rec ∷ [])
      → r.is_record rec → r.fits old.state rec → old.journal.count < (r.limits_of old.state).records
      → StandsFor r d (record { journal = log; state = old.state; hand = Some rec }) records
  taken same_room old log rec records stands holds spelled fits room =
      let room_for : length records < (r.limits_of old.state).records = omega (arith, stands.count, room) in
      let meets : Meets r (r.limits_of old.state) records = meets_alone (r.limits_of old.state) records old.hand stands.meets in
      record {
        state = stands.state;
        count = holds.counted.count ∙ length-map records r.spelling;
        each = stands.each;
        meets = (meets, meets_more r same_room (r.limits_of old.state) old.state records rec meets stands.state refl fits room_for);
        journal = holds;
        images = λ told image left. either records rec stands.each spelled image (holds.images told image left);
      }

  -- a record that stays in hand leaves what the node stood for too
  pub still : (old : Parts D State Rec) (log : Log D) (rec : Rec) (records : List Rec) → old.hand ≡ Some rec → StandsFor r d old records
      → log.count ≡ old.journal.count
      → HoldsInHand d log (map r.spelling records) (r.spelling rec ∷ []) → r.is_record rec
      → StandsFor r d (record old { journal = log }) records
  still old log rec records some stands same holds spelled = search (rules, either)

  -- the journal of a node with nothing in hand holds the spellings of its records
  pub holds_at_rest : (node : Parts D State Rec) (records : List Rec) → StandsFor r d node records → node.hand ≡ None
      → Holds d node.journal (map r.spelling records)
  holds_at_rest node records stands none = subst (λ (h : Option Rec). Keeps r d node.journal records h) none stands.journal

  -- the journal of a node with a record in hand holds the spellings of the others, and has that of this one in hand
  pub holds_in_hand : (node : Parts D State Rec) (records : List Rec) (rec : Rec) → StandsFor r d node records → node.hand ≡ Some rec
      → HoldsInHand d node.journal (map r.spelling records) (r.spelling rec ∷ [])
  holds_in_hand node records rec stands some = subst (λ (h : Option Rec). Keeps r d node.journal records h) some stands.journal

  -- what spells the spellings of records stands for these
  pub only_stand : {old new : D} (records : List Rec) → All r.is_record records
      → LeavesOnly d old new (λ image. Spells image (map r.spelling records)) → LeavesOnly d old new (λ image. Stands r image records)
  only_stand records each only = only_weaker d (λ told image spells. record { text = spells; each = each }) only

  -- a settling at which nothing was in hand changes nothing
  pub settled_same : (old new : Parts D State Rec) (stored : Option Rec) → IsSettled r d old new stored → old.hand ≡ None → new ≡ old
  settled_same old new None settled none = settled.same none
  settled_same old new (Some rec) settled none = absurd (none-some rec (sym none ∙ settled.was))
