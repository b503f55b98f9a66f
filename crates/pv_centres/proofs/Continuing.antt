-- What a node was brought goes on as a run after what it had.
use Rattle.std.proofs.Common.{◌≡◌, ℕ, ◌<◌, List, [], ◌∷◌, ◌++◌, length, drop, get_or, Option, Some, None, ◌⊎◌, inl, inr, refl, ap, sym, ◌∙◌, subst, arith, append-nil, append_assoc, length-append}
use Rattle.std.specs.Prelude.{All, IfSome, IsTrue}
use Rattle.std.proofs.lemmas.List.Elements.{All-head, All-tail}
use denote.Param.{number}
use Rattle.pv_outside.specs.declared.limits.Limits.{Limits}
use Rattle.pv_outside.specs.declared.reports.Reports as reports
use Rattle.pv_post.specs.declared.item.Item.{Item}
use Rattle.pv_edits.specs.Edits.{taken_of}
use Rattle.pv_edits.specs.Record.{IsRecord}
use Rattle.pv_edits.specs.declared.record.Record.{Record}
use Rattle.pv_node.specs.Asking.{records_with}
use Rattle.pv_node.specs.Parts.{Parts}
use Rattle.pv_node.specs.Standing.{Meets, MeetsBoth, StandsFor}
use Rattle.pv_node.specs.declared.decision.Decision.TheVariants.{Store}
use Rattle.pv_node.specs.declared.rules.Rules as rules
use Rattle.pv_udc.specs.EditList.{EditList}
use Rattle.pv_udc.specs.Judgement.{judge}
use Rattle.pv_udc.specs.Requests.{IsRequest}
use Rattle.pv_udc.specs.contracts.rules.UdcRulesRules.TheImpl as udc
use Rattle.pv_udc.specs.declared.reply.UdcReply.TheVariants.{Stored}
use Rattle.pv_udc.specs.declared.request.UdcRequest.{UdcRequest}
use Rattle.pv_irc.specs.Deciding.{IsCentreRequest, centre_has_room, centre_judgement}
use Rattle.pv_irc.specs.History.{CentreState, applied_of, centre_state_of}
use Rattle.pv_irc.specs.Record.{IsCentreRecord}
use Rattle.pv_irc.specs.contracts.rules.IrcRulesRules.TheImpl as irc
use Rattle.pv_irc.specs.declared.record.CentreRecord.{CentreRecord}
use Rattle.pv_irc.specs.declared.reply.IrcReply.TheVariants.{Applied}
use Rattle.pv_irc.specs.declared.request.IrcRequest.{IrcRequest}
use Rattle.pv_live.specs.Run.{IsMade}
use Rattle.pv_closing.specs.Bringing.{EndsBringing, HasAdded, settled_state}
use Rattle.pv_closing.specs.Lacking.{lacked_items, take_records, apply_records, lacked_records}
use Rattle.pv_closing.specs.declared.rest_end.RestEnd.{RestEnd}
use Rattle.pv_closing.specs.declared.rest_end.RestEnd.TheVariants.{Brought, Full, NoRoom, DiskFault}
use Rattle.pv_centres.specs.Ends.{rest_end}
use Rattle.pv_centres.specs.Rest.{AddsRun, IsRunAfter, StandsOn}
use Rattle.pv_centres.proofs.Carrying.{settled_applied}

-- what holds of all holds at a place
all_at : {X : Type 0} (P : X → Type 0) (before : List X) (x : X) (after : List X) → All P (before ++ x ∷ after) → P x
all_at P [] x after all = All-head P x after all
all_at P (y ∷ before) x after all = all_at P before x after (All-tail P y (before ++ x ∷ after) all)

-- ---- records that go on after others

module _ {S State Request Rec Reply : Type 0} (r : rules.Ghosts S State Request Rec Reply) (limits : Limits) where
  none_goes_on : (records : List Rec) → IsRunAfter r limits records []
  none_goes_on records [] after rec split = absurd cc
  none_goes_on records (x ∷ before) after rec split = absurd cc

  -- one, and then more
  one_goes_on : (records : List Rec) (one : Rec) (more : List Rec) → IsMade r limits records one → IsRunAfter r limits (records ++ one ∷ []) more
      → IsRunAfter r limits records (one ∷ more)
  one_goes_on records one more made later [] after rec split =
      let same : one ≡ rec = ap (λ (l : List Rec). get_or l 0 one) split in
      subst (λ (l : List Rec). IsMade r limits l rec) (sym (append-nil records)) (subst (IsMade r limits records) same made)
  one_goes_on records one more made later (x ∷ before) after rec split =
      let same : one ≡ x = ap (λ (l : List Rec). get_or l 0 one) split in
      subst (λ (y : Rec). IsMade r limits (records ++ y ∷ before) rec) same
      (subst (λ (l : List Rec). IsMade r limits l rec) (append_assoc records (one ∷ []) before)
      (later before after rec (ap (λ (l : List Rec). drop 1 l) split)))

  first_goes_on : (records : List Rec) (one : Rec) (more : List Rec) → IsRunAfter r limits records (one ∷ more) → IsMade r limits records one
  first_goes_on records one more goes = subst (λ (l : List Rec). IsMade r limits l one) (append-nil records) (goes [] more one refl)

  later_go_on : (records : List Rec) (one : Rec) (more : List Rec) → IsRunAfter r limits records (one ∷ more)
      → IsRunAfter r limits (records ++ one ∷ []) more
  later_go_on records one more goes before after rec split =
      subst (λ (l : List Rec). IsMade r limits l rec) (sym (append_assoc records (one ∷ []) before))
      (goes (one ∷ before) after rec (ap (λ (l : List Rec). one ∷ l) split))

  -- some, and then more
  some_go_on : (records some more : List Rec) → IsRunAfter r limits records some → IsRunAfter r limits (records ++ some) more
      → IsRunAfter r limits records (some ++ more)
  some_go_on records [] more first later = subst (λ (l : List Rec). IsRunAfter r limits l more) (append-nil records) later
  some_go_on records (one ∷ some) more first later =
      one_goes_on records one (some ++ more) (first_goes_on records one some first)
      (some_go_on (records ++ one ∷ []) some more (later_go_on records one some first)
      (subst (λ (l : List Rec). IsRunAfter r limits l more) (sym (append_assoc records (one ∷ []) some)) later))

  -- each record of what is lacked is one that a request stores, if it is a record, has room and is within the limit
  abbrev IsToStore : List Rec → List Rec → Type 0
  IsToStore had lacked = (before after : List Rec) (next : Rec) → lacked ≡ before ++ next ∷ after → r.is_record next
      → ((state : State) → r.stands state (had ++ before) → r.limits_of state ≡ limits → r.fits state next)
      → length (had ++ before) < limits.records → IsMade r limits (had ++ before) next

-- ---- what a node was brought

module _ {S State Request Rec Reply D : Type 0} (r : rules.Ghosts S State Request Rec Reply) (g : reports.Ghosts D) where
  meets_limits : (limits : Limits) (records : List Rec) (hand : Option Rec) → MeetsBoth r limits records hand → Meets r limits records
  meets_limits limits records None meets = meets
  meets_limits limits records (Some rec) meets = meets.0

  -- the first of what is lacked go on, if the node stands for them
  brought_goes_on : (limits : Limits) (new : Parts D State Rec) (had more rest lacked : List Rec) → IsToStore r limits had lacked
      → lacked ≡ more ++ rest → StandsFor r g new (had ++ more) → r.limits_of new.state ≡ limits → IsRunAfter r limits had more
  brought_goes_on limits new had more rest lacked to_store is stands same before after rec split =
      let whole : had ++ more ≡ (had ++ before) ++ rec ∷ after =
      ap (λ (l : List Rec). had ++ l) split ∙ sym (append_assoc had before (rec ∷ after)) in
      let meets = meets_limits (r.limits_of new.state) (had ++ more) new.hand stands.meets in
      to_store before (after ++ rest) rec (is ∙ ap (λ (l : List Rec). l ++ rest) split ∙ append_assoc before (rec ∷ after) rest)
      (all_at r.is_record (had ++ before) rec after (subst (All r.is_record) whole stands.each))
      (λ state stood limited. meets.room (had ++ before) after rec state whole stood (limited ∙ sym same))
      (omega (arith, meets.count, ap length whole, length-append (had ++ before) (rec ∷ after), ap (λ (l : Limits). l.records) same))

  -- what was stored, if no disk failed: the record in hand, if it was found stored, and the first of what was lacked then
  record IsPart (old new : Parts D State Rec) (lacked_at : State → List Rec) : Type 0 where
    found : Option Rec
    more : List Rec
    rest : List Rec
    lacked : lacked_at (settled_state r old found) ≡ more ++ rest
    added : HasAdded r g old new found more
    hand : new.hand ≡ None

  part : {F : Type 0} (old new : Parts D State Rec) (lacked_at : State → List Rec) (end : RestEnd D F)
      → EndsBringing r g old new lacked_at end → rest_end end ≡ None → IsPart old new lacked_at
  part old new lacked_at Brought (inl unsettled) none = absurd unsettled.1
  part old new lacked_at Brought (inr all) none = record {
    found = all.0;
    more = lacked_at (settled_state r old all.0);
    rest = [];
    lacked = sym (append-nil (lacked_at (settled_state r old all.0)));
    added = all.1.0;
    hand = all.1.1;
  }
  part old new lacked_at (Full count) (inl unsettled) none = absurd unsettled.1
  part old new lacked_at (Full count) (inr some) none = record {
    found = some.0;
    more = some.1.before;
    rest = some.1.next ∷ some.1.after;
    lacked = some.1.lacked_is;
    added = some.1.added;
    hand = some.1.why.0;
  }
  part old new lacked_at NoRoom (inl unsettled) none = absurd unsettled.1
  part old new lacked_at NoRoom (inr some) none = record {
    found = some.0;
    more = some.1.before;
    rest = some.1.next ∷ some.1.after;
    lacked = some.1.lacked_is;
    added = some.1.added;
    hand = some.1.why.0;
  }
  part old new lacked_at (DiskFault failure) ends none = absurd cc

  -- with the record that was in hand
  with_hand : (limits : Limits) (old new : Parts D State Rec) (records : List Rec) (found : Option Rec) (more : List Rec)
      → (found ≡ None) ⊎ (found ≡ old.hand) → IfSome old.hand (IsMade r limits records) → StandsFor r g new (records_with records found ++ more)
      → IsRunAfter r limits (records_with records found) more → new.hand ≡ None → StandsOn r g limits records new
  with_hand limits old new records None more of_hand made stands goes none =
      record { more = more; stands = stands; goes_on = goes; hand = rw none tt }
  with_hand limits old new records (Some rec) more (inl absent) made stands goes none = absurd cc
  with_hand limits old new records (Some rec) more (inr of_hand) made stands goes none = record {
    more = rec ∷ more;
    stands = subst (StandsFor r g new) (append_assoc records (rec ∷ []) more) stands;
    goes_on = one_goes_on r limits records rec more (subst (λ (h : Option Rec). IfSome h (IsMade r limits records)) (sym of_hand) made) goes;
    hand = rw none tt;
  }

  adds_run : {F : Type 0} (old new : Parts D State Rec) (lacked_at : State → List Rec) (end : RestEnd D F)
      → EndsBringing r g old new lacked_at end → rest_end end ≡ None → r.limits_of new.state ≡ r.limits_of old.state
      → ((records : List Rec) (found : Option Rec) → r.stands old.state records
      → IsToStore r (r.limits_of old.state) (records_with records found) (lacked_at (settled_state r old found)))
      → AddsRun r g old new
  adds_run old new lacked_at end ends none same to_store records stands made =
      let all = part old new lacked_at end ends none in
      let had = records_with records all.found in
      let now = all.added.stands records stands in
      with_hand (r.limits_of old.state) old new records all.found all.more all.added.of_hand made now
      (brought_goes_on (r.limits_of old.state) new had all.more all.rest (lacked_at (settled_state r old all.found))
      (to_store records all.found stands.state) all.lacked now same) all.hand

  -- nothing was brought
  pub adds_no_run : (old : Parts D State Rec) → AddsRun r g old old
  adds_no_run old records stands made = record {
    more = [];
    stands = subst (StandsFor r g old) (sym (append-nil records)) stands;
    goes_on = none_goes_on r (r.limits_of old.state) records;
    hand = subst (λ (l : List Rec). IfSome old.hand (IsMade r (r.limits_of old.state) l)) (sym (append-nil records)) made;
  }

  -- it was brought twice
  pub run_trans : (old mid new : Parts D State Rec) → r.limits_of mid.state ≡ r.limits_of old.state → AddsRun r g old mid
      → AddsRun r g mid new → AddsRun r g old new
  run_trans old mid new same one other records stands made =
      let limits = r.limits_of old.state in
      let first = one records stands made in
      let had = records ++ first.more in
      let second : StandsOn r g limits had new = subst (λ (l : Limits). StandsOn r g l had new) same
      (other had first.stands (subst (λ (l : Limits). IfSome mid.hand (IsMade r l had)) (sym same) first.hand)) in
      let whole = append_assoc records first.more second.more in
      record {
        more = first.more ++ second.more;
        stands = subst (StandsFor r g new) whole second.stands;
        goes_on = some_go_on r limits records first.more second.more first.goes_on second.goes_on;
        hand = subst (λ (l : List Rec). IfSome new.hand (IsMade r limits l)) whole second.hand;
      }

-- ---- the Update Centre

module _ (law : (centre : ℕ) (items : List Item) (list : EditList) (before after : List Record) (next : Record)
    → lacked_items centre items list ≡ before ++ next ∷ after → IsRecord next
    → (request : UdcRequest) × IsRequest request
    × (judge list.limits (list.records ++ before) request ≡ Store next (Stored (length (list.records ++ before)))))
    (centre : ℕ) (items : List Item) where
  item_to_store : (limits : Limits) (settled : EditList) (had : List Record) → settled.records ≡ had
      → IsToStore udc.ghosts limits had (lacked_items centre items settled)
  item_to_store limits settled had same before after next lacked is room within =
      let list : EditList = record { limits = limits; records = had } in
      let one = law centre items list before after next
      (ap (λ (l : List Record). drop (taken_of l centre) (take_records centre items)) (sym same) ∙ lacked) is in
      record {
        request = one.0;
        reply = Stored (length (had ++ before));
        valid = one.1;
        judged = (record { limits = limits; records = had ++ before }, record { stands = refl; limited = refl }, one.2);
        within = within;
      }

  records_settled : {D : Type 0} (old : Parts D EditList Record) (records : List Record) (found : Option Record)
      → old.state.records ≡ records → (settled_state udc.ghosts old found).records ≡ records_with records found
  records_settled old records None stands = stands
  records_settled old records (Some rec) stands = ap (λ (l : List Record). l ++ rec ∷ []) stands

  pub update_adds_run : {D F : Type 0} (g : reports.Ghosts D) (old new : Parts D EditList Record) (end : RestEnd D F)
      → EndsBringing udc.ghosts g old new (lacked_items centre items) end → rest_end end ≡ None → new.state.limits ≡ old.state.limits
      → AddsRun udc.ghosts g old new
  update_adds_run g old new end ends none same =
      adds_run udc.ghosts g old new (lacked_items centre items) end ends none same (λ records found stands.
      item_to_store old.state.limits (settled_state udc.ghosts old found) (records_with records found)
      (records_settled old records found stands))

-- ---- a centre

module _ (C : ℕ) (law : (centre : ℕ) (limits : Limits) (edits : List Record) (records before after : List CentreRecord) (next : CentreRecord)
    → lacked_records edits (centre_state_of centre limits records) ≡ before ++ next ∷ after → IsCentreRecord next
    → IsTrue (centre_has_room (centre_state_of centre limits (records ++ before)) next)
    → (request : IrcRequest) × IsCentreRequest request
    × (centre_judgement (centre_state_of centre limits (records ++ before)) request ≡ Store next Applied))
    (edits : List Record) where
  record_to_store : (limits : Limits) (settled : CentreState) (had : List CentreRecord) → settled.applied ≡ applied_of had
      → IsToStore (irc.ghosts (number C)) limits had (lacked_records edits settled)
  record_to_store limits settled had same before after next lacked is room within =
      let state = centre_state_of C limits (had ++ before) in
      let one = law C limits edits had before after next (ap (λ (n : ℕ). drop n (apply_records edits)) (sym same) ∙ lacked) is
      (room state refl refl) in
      record {
        request = one.0;
        reply = Applied;
        valid = one.1;
        judged = (state, record { stands = refl; limited = refl }, one.2);
        within = within;
      }

  pub centre_adds_run : {D F : Type 0} (g : reports.Ghosts D) (old new : Parts D CentreState CentreRecord) (end : RestEnd D F)
      → EndsBringing (irc.ghosts (number C)) g old new (lacked_records edits) end → rest_end end ≡ None
      → new.state.limits ≡ old.state.limits → AddsRun (irc.ghosts (number C)) g old new
  centre_adds_run g old new end ends none same =
      adds_run (irc.ghosts (number C)) g old new (lacked_records edits) end ends none same (λ records found stands.
      record_to_store old.state.limits (settled_state (irc.ghosts (number C)) old found) (records_with records found)
      (settled_applied (irc.ghosts (number C)) g (λ state. refl) (λ state records stands. ap (λ (s : CentreState). s.applied) stands)
      (λ state rec place. refl) (λ state rec room. room) old records found stands))
