-- A node stops within an ask: what the image stands for that a crash then leaves of its disk.
use Rattle.std.proofs.Common.{◌≡◌, ℕ, ◌<◌, ◌≤◌, Bool, true, false, cond, List, [], ◌∷◌, ◌++◌, Option, Some, None, Result, Ok, Err, inl, inr, refl, ap, sym, subst, ◌∙◌, arith}
use Rattle.std.specs.Prelude.{nat_lt, ◌==◌, is_some, length}
use Rattle.std.proofs.lemmas.Bool.{lt-leb, le-leb, ltb-true, ltb-false, eqb-true, eqb-false}
use Rattle.std.proofs.lemmas.List.{length-append}
use Rattle.std.proofs.lemmas.Option.{IfSome_then}
use Rattle.pv_outside.specs.Disk.{Budget, HasCalls, IsEndless}
use Rattle.pv_outside.specs.declared.failed.Failed.{Failed}
use Rattle.pv_outside.specs.declared.limits.Limits.{Limits}
use Rattle.pv_memory.specs.Medium.{Medium, moment_of, IsImage, budget_of}
use Rattle.pv_memory.specs.MediumLaws.{new_disk}
use Rattle.pv_memory.specs.contracts.disk.MemDiskReports.TheImpl as memory
use Rattle.pv_node.specs.Asking.{CarriesOut, AskFailsOnDisk, records_with}
use Rattle.pv_node.specs.Parts.{Parts}
use Rattle.pv_node.specs.Standing.{Stands, StandsEither, StandsFor, DiskStands, Meets, MeetsBoth}
use Rattle.pv_node.specs.declared.decision.Decision.{Decision}
use Rattle.pv_node.specs.declared.decision.Decision.TheVariants.{Answer, Store}
use Rattle.pv_node.specs.declared.decision.Told.{Told}
use Rattle.pv_node.specs.declared.fault.AskFault.{AskFault}
use Rattle.pv_node.specs.declared.fault.AskFault.TheVariants.{Disk, Full}
use Rattle.pv_node.specs.declared.rules.Rules as rules
use Rattle.pv_edits.specs.declared.record.Record.{Record}
use Rattle.pv_udc.specs.EditList.{EditList}
use Rattle.pv_irc.specs.Growing.{grown}
use Rattle.pv_irc.specs.History.{CentreState, centre_state_of, with_centre_record}
use Rattle.pv_irc.specs.declared.record.CentreRecord.{CentreRecord}
use Rattle.pv_nodes.specs.OnDisk.{list_with, centre_with}
use Rattle.pv_journal.specs.declared.storing.TheConstants.{APPEND_CALLS, GATE_CALLS}
use Rattle.pv_nodes.specs.declared.cut.Cut.TheVariants.{Kept, Lost}
use Rattle.pv_nodes.specs.Cutting.{cut_by, IsLeft, IsLeftWith, IsCut}
use Rattle.pv_nodes.specs.Nodes.{stored_of, HasRecords, IsReady}
use Rattle.pv_journal.specs.Log.{longest}

module _ {S State Request Rec Reply : Type 0} (r : rules.Ghosts S State Request Rec Reply) where
  -- a disk whose bytes stand for records that meet the limits
  is_left : (limits : Limits) (disk : Medium) (records : List Rec) → Stands r disk.text records → Meets r limits records
      → IsLeftWith r limits disk records
  is_left limits disk records stands meets = record { stands = (disk.text, refl, stands); meets = meets }

  -- a node with nothing in hand, one of whose images the disk is
  image_left : (node : Parts Medium State Rec) (limits : Limits) (records : List Rec) (disk : Medium) → node.hand ≡ None
      → r.limits_of node.state ≡ limits → StandsFor r memory.ghosts node records → IsImage (moment_of node.journal.disk) disk.text
      → IsLeftWith r limits disk records
  image_left node limits records disk none same stood image = is_left limits disk records
      (subst (λ hand. StandsEither r records hand disk.text) none (stood.images refl disk.text image))
      (subst (λ limits. Meets r limits records) same (subst (λ hand. MeetsBoth r (r.limits_of node.state) records hand) none stood.meets))

  module _ (calls : ℕ) (old new : Parts Medium State Rec) (records : List Rec) (disk : Medium)
      (none : old.hand ≡ None) (counted : old.journal.count ≡ r.count_of old.state)
      (same : r.limits_of new.state ≡ r.limits_of old.state) (stood : StandsFor r memory.ghosts old records)
      (image : IsImage (moment_of new.journal.disk) disk.text)
      (few : calls < GATE_CALLS → Stands r disk.text records) where
    -- nothing was to be stored, or the node is full
    unchanged : new ≡ old → IsLeftWith r (r.limits_of old.state) disk records
    unchanged is = image_left old (r.limits_of old.state) records disk none refl stood
        (subst (λ (node : Parts Medium State Rec). IsImage (moment_of node.journal.disk) disk.text) is image)

    -- a record is on the disk, unless too few calls passed
    on_disk : (rec : Rec) → Meets r (r.limits_of old.state) records → IsLeftWith r (r.limits_of old.state) disk (records ++ rec ∷ [])
        → IsLeft r calls (Some rec) (r.limits_of old.state) disk records
    on_disk rec meets left = by (nat_lt calls GATE_CALLS) refl
      where
        by : (test : Bool) → nat_lt calls GATE_CALLS ≡ test → IsLeft r calls (Some rec) (r.limits_of old.state) disk records
        by true is = let below = ltb-true calls GATE_CALLS is in
            inl (is_left (r.limits_of old.state) disk records (few below) meets, omega (arith, below))
        by false is = inr (left, ltb-false calls GATE_CALLS is)

    -- it is not, unless all calls passed
    not_on_disk : (rec : Rec) → (APPEND_CALLS ≤ calls → ⊥) → IsLeftWith r (r.limits_of old.state) disk records
        → IsLeft r calls (Some rec) (r.limits_of old.state) disk records
    not_on_disk rec stopped left = by (nat_lt calls APPEND_CALLS) refl
      where
        by : (test : Bool) → nat_lt calls APPEND_CALLS ≡ test → IsLeft r calls (Some rec) (r.limits_of old.state) disk records
        by true is = inl (left, ltb-true calls APPEND_CALLS is)
        by false is = absurd (stopped (ltb-false calls APPEND_CALLS is))

    -- the limits of the records as they were
    meets_old : Meets r (r.limits_of old.state) records
    meets_old = subst (λ hand. MeetsBoth r (r.limits_of old.state) records hand) none stood.meets

    -- a disk that stood either way while this record was in hand
    either : (rec : Rec) → (APPEND_CALLS ≤ calls → ⊥) → new.hand ≡ Some rec → StandsFor r memory.ghosts new records
        → IsLeft r calls (Some rec) (r.limits_of old.state) disk records
    either rec stopped hand stands =
        let meets : MeetsBoth r (r.limits_of old.state) records (Some rec) =
        subst (λ limits. MeetsBoth r limits records (Some rec)) same (subst (λ hand. MeetsBoth r (r.limits_of new.state) records hand) hand stands.meets) in
        by meets (subst (λ hand. StandsEither r records hand disk.text) hand (stands.images refl disk.text image))
      where
        by : MeetsBoth r (r.limits_of old.state) records (Some rec) → StandsEither r records (Some rec) disk.text
            → IsLeft r calls (Some rec) (r.limits_of old.state) disk records
        by meets (inl without) = not_on_disk rec stopped (is_left (r.limits_of old.state) disk records without meets.0)
        by meets (inr whole) = on_disk rec meets.0 (is_left (r.limits_of old.state) disk (records ++ rec ∷ []) whole meets.1)

    -- what the disk then stands for, by what was decided and what came of it
    pub left_by : (d : Decision Rec Reply) (result : Result (Told Reply) (AskFault Medium Failed))
        → CarriesOut r memory.ghosts d old new result → (APPEND_CALLS ≤ calls → AskFailsOnDisk result → ⊥)
        → IsLeft r calls (stored_of (r.limits_of old.state).records (r.count_of old.state) d) (r.limits_of old.state) disk records
    left_by (Answer reply) result is passes = unchanged is.1
    left_by (Store rec reply) (Ok told) is passes =
        let has_room : r.count_of old.state < (r.limits_of old.state).records = subst (λ n. n < (r.limits_of old.state).records) counted is.1.room in
        rw (lt-leb (r.limits_of old.state).records (r.count_of old.state) has_room)
        (on_disk rec meets_old (image_left new (r.limits_of old.state) (records ++ rec ∷ []) disk is.1.hand same (is.1.records records stood) image))
    left_by (Store rec reply) (Err (Disk failure)) is passes =
        let has_room : r.count_of old.state < (r.limits_of old.state).records = subst (λ n. n < (r.limits_of old.state).records) counted is.room in
        rw (lt-leb (r.limits_of old.state).records (r.count_of old.state) has_room)
        (either rec (λ all. passes all tt) is.hand (is.records records stood))
    left_by (Store rec reply) (Err (Full count)) is passes =
        let at_count : count ≡ r.count_of old.state = sym is.counted ∙ counted in
        rw (le-leb (r.limits_of old.state).records (r.count_of old.state) (omega (arith, at_count, is.limit)))
        (unchanged is.same)

-- ---- calls that are left

-- calls without end are as many as are wanted
pub endless_calls : (n room : ℕ) (b : Option Budget) → IsEndless room b → HasCalls n room b
endless_calls n room (Some b) endless = (endless.0, rw endless.1 tt)
endless_calls n room None endless = absurd endless

-- as many calls are also fewer
pub fewer_calls : (few many room : ℕ) (b : Option Budget) → few ≤ many → HasCalls many room b → HasCalls few room b
fewer_calls few many room (Some b) less has = (has.0, IfSome_then b.left has.1 (λ left enough. omega (arith, less, enough)))
fewer_calls few many room None less has = absurd has

-- a new disk of the same room takes calls without end
pub endless_again : (room : ℕ) (disk : Medium) (failing : List ℕ) → disk.plan.failing ≡ failing → HasCalls 0 room (budget_of disk) → (text : List ℕ)
    → IsEndless room (budget_of (record (new_disk disk.room []) { text = text; synced = text }))
endless_again room disk [] is has text =
    ((subst (λ (fails : List ℕ). HasCalls 0 room (budget_of (record disk { plan = record disk.plan { failing = fails } }))) is has).0, refl)
endless_again room disk (n ∷ failing) is has text =
    absurd (subst (λ (fails : List ℕ). HasCalls 0 room (budget_of (record disk { plan = record disk.plan { failing = fails } }))) is has)

module _ {S State Request Rec Reply : Type 0} (r : rules.Ghosts S State Request Rec Reply) where
  -- nodes of the same limits that stand for the same records leave the same
  pub same_left : (one other : State) (records : List Rec) (request : Request) (calls : ℕ) (disk : Medium) → r.limits_of one ≡ r.limits_of other
      → r.count_of one ≡ r.count_of other → r.judgement one request ≡ r.judgement other request
      → IsLeft r calls (stored_of (r.limits_of one).records (r.count_of one) (r.judgement one request)) (r.limits_of one) disk records
      → IsLeft r calls (stored_of (r.limits_of other).records (r.count_of other) (r.judgement other request)) (r.limits_of other) disk records
  same_left one other records request calls disk limits count judgement left =
      subst (λ (l : Limits). IsLeft r calls (stored_of l.records (r.count_of other) (r.judgement other request)) l disk records) limits
      (subst (λ n. IsLeft r calls (stored_of (r.limits_of one).records n (r.judgement other request)) (r.limits_of one) disk records) count
      (subst (λ d. IsLeft r calls (stored_of (r.limits_of one).records (r.count_of one) d) (r.limits_of one) disk records) judgement left))

-- ---- the node that is opened again

module _ {S State Request Rec Reply : Type 0} (r : rules.Ghosts S State Request Rec Reply) where
  -- what is left stands for records that meet the limits
  pub ready : (calls : ℕ) (stored : Option Rec) (limits : Limits) (disk : Medium) (records : List Rec) → IsLeft r calls stored limits disk records
      → IsEndless (longest limits.records) (budget_of disk) → IsReady r limits disk
  ready calls None limits disk records left endless = record { records = records; stands = left.stands; meets = left.meets; endless = endless }
  ready calls (Some rec) limits disk records (inl left) endless =
      record { records = records; stands = left.0.stands; meets = left.0.meets; endless = endless }
  ready calls (Some rec) limits disk records (inr left) endless =
      record { records = records ++ rec ∷ []; stands = left.0.stands; meets = left.0.meets; endless = endless }

  module _ (calls : ℕ) (old new : Parts Medium State Rec) (limits : Limits) (disk : Medium) (has : HasRecords r old)
      (same : r.limits_of new.state ≡ r.limits_of old.state)
      (counted : (state : State) (records : List Rec) → r.stands state records → r.count_of state ≡ length records)
      (opened : (records : List Rec) → DiskStands r memory.ghosts disk records → StandsFor r memory.ghosts new records) where
    -- what is left of each list for which the node stood
    abbrev AreLeft : Option Rec → Type 0
    AreLeft stored = (records : List Rec) → StandsFor r memory.ghosts old records → IsLeft r calls stored limits disk records

    -- without the record there are as many records as before, and with it there are not
    as_many : (records : List Rec) → StandsFor r memory.ghosts old records → IsLeftWith r limits disk records
        → r.count_of new.state ≡ r.count_of old.state
    as_many records stood left =
        counted new.state records (opened records left.stands).state ∙ sym (counted old.state records stood.state)

    one_more : (rec : Rec) (records : List Rec) → StandsFor r memory.ghosts old records → IsLeftWith r limits disk (records ++ rec ∷ [])
        → r.count_of new.state ≡ r.count_of old.state → ⊥
    one_more rec records stood left is =
        let now = counted new.state (records ++ rec ∷ []) (opened (records ++ rec ∷ []) left.stands).state in
        omega (arith, now, is, counted old.state records stood.state, length-append records (rec ∷ []))

    -- a record was to be stored, and there are as many records as before
    lost : (rec : Rec) → AreLeft (Some rec) → r.count_of new.state ≡ r.count_of old.state → IsCut r calls (Some rec) Lost old new
    lost rec left is = record {
      may = elim (left has.0 has.1) [ inl without ↦ without.1 | inr whole ↦ absurd (one_more rec has.0 has.1 whole.0 is) ];
      limits = same;
      stands = λ records stood. elim (left records stood) [
        | inl without ↦ opened records without.0.stands
        | inr whole ↦ absurd (one_more rec records stood whole.0 is)
      ];
    }

    -- or there are not
    kept : (rec : Rec) → AreLeft (Some rec) → (r.count_of new.state ≡ r.count_of old.state → ⊥) → IsCut r calls (Some rec) Kept old new
    kept rec left differ = record {
      may = elim (left has.0 has.1) [ inl without ↦ absurd (differ (as_many has.0 has.1 without.0)) | inr whole ↦ whole.1 ];
      limits = same;
      stands = λ records stood. elim (left records stood) [
        | inl without ↦ absurd (differ (as_many records stood without.0))
        | inr whole ↦ opened (records ++ rec ∷ []) whole.0.stands
      ];
    }

    -- the counts say what became of the record
    pub cut_by_counts : (stored : Option Rec) → AreLeft stored
        → IsCut r calls stored (cut_by (is_some stored) (r.count_of old.state) (r.count_of new.state)) old new
    cut_by_counts None left = record { may = tt; limits = same; stands = λ records stood. opened records (left records stood).stands }
    cut_by_counts (Some rec) left = by (r.count_of new.state == r.count_of old.state) refl
      where
        by : (test : Bool) → (r.count_of new.state == r.count_of old.state) ≡ test
            → IsCut r calls (Some rec) (cond test Lost Kept) old new
        by true is = lost rec left (eqb-true _ _ is)
        by false is = kept rec left (eqb-false _ _ is)

-- ---- what the nodes of a network know then

-- an edit list is known by its limits and its records
pub same_list : (old new : EditList) (kept : Option Record) (records : List Record) → old.records ≡ records → new.limits ≡ old.limits
    → new.records ≡ records_with records kept → new ≡ list_with old kept
same_list old new None records was limits now = λ i. record { limits = limits i; records = (now ∙ sym was) i }
same_list old new (Some rec) records was limits now =
    λ i. record { limits = limits i; records = (now ∙ ap (λ (l : List Record). l ++ rec ∷ []) (sym was)) i }

-- what a centre knows is known by its number, its limits and its records
pub same_centre : (number : ℕ) (old new : CentreState) (kept : Option CentreRecord) (records : List CentreRecord)
    → old ≡ centre_state_of number old.limits records → new.limits ≡ old.limits
    → new ≡ centre_state_of number new.limits (records_with records kept) → new ≡ centre_with old kept
same_centre number old new None records was limits now = now ∙ ap (λ l. centre_state_of number l records) limits ∙ sym was
same_centre number old new (Some rec) records was limits now =
    now ∙ ap (λ l. centre_state_of number l (records ++ rec ∷ [])) limits ∙ sym (grown number old.limits records rec)
    ∙ ap (λ (s : CentreState). with_centre_record s rec) (sym was)
