-- The laws of what a node lacks.
use Rattle.std.proofs.Common.{◌≡◌, ℕ, zero, suc, ◌+◌, ◌≤◌, Bool, true, cond, List, [], ◌∷◌, ◌++◌, length, map, drop, Option, Some, None, refl, sym, ap, subst, ◌∙◌, arith, length-append, append-nil}
use Rattle.std.specs.Prelude.{slice_get}
use Rattle.std.specs.List.{enumerate_from, filter_map}
use Rattle.std.proofs.lemmas.Bool.{eq-eqb}
use Rattle.std.proofs.lemmas.List.{drop-map, length-drop, append_assoc}
use Rattle.std.proofs.lemmas.List.Elements.{filter_map-append}
use Rattle.std.proofs.lemmas.List.Sums.{sum_by-append, sum_by-cons}
use Rattle.std.proofs.lemmas.Option.{slice_get_past}
use Rattle.pv_outside.specs.declared.limits.Limits.{Limits}
use Rattle.pv_post.specs.declared.item.Item.{Item}
use Rattle.pv_edits.specs.Edits.{is_of_centre, taken_of}
use Rattle.pv_edits.specs.Record.{IsRecord}
use Rattle.pv_edits.specs.declared.record.Record.{Record}
use Rattle.pv_node.specs.declared.decision.Decision.TheVariants.{Store}
use Rattle.pv_udc.specs.EditList.{EditList, with_record}
use Rattle.pv_udc.specs.Judgement.{judge}
use Rattle.pv_udc.specs.Replies.{down_of}
use Rattle.pv_udc.specs.Requests.{IsRequest}
use Rattle.pv_udc.specs.declared.reply.UdcReply.TheVariants.{Stored}
use Rattle.pv_udc.specs.declared.request.UdcRequest.{UdcRequest}
use Rattle.pv_udc.specs.declared.request.UdcRequest.TheVariants.{TakeUp}
use Rattle.pv_irc.specs.Deciding.{IsCentreRequest, centre_has_room, centre_judgement}
use Rattle.pv_irc.specs.Growing.{grown}
use Rattle.pv_irc.specs.History.{applied_in, CentreState, centre_state_of, applied_of, with_centre_record}
use Rattle.pv_irc.specs.Record.{IsCentreRecord}
use Rattle.pv_irc.specs.declared.record.CentreRecord.{CentreRecord}
use Rattle.pv_irc.specs.declared.reply.IrcReply.TheVariants.{Applied}
use Rattle.pv_irc.specs.declared.request.IrcRequest.{IrcRequest}
use Rattle.pv_irc.specs.declared.request.IrcRequest.TheVariants.{Apply}
use Rattle.pv_closing.specs.Lacking.{take_record, lacked_items, apply_record, lacked_records}
use Rattle.pv_closing.proofs.Lacking.{made_at, length_made, items_next, items_none, judges_item, records_next, records_none, judges_record}
use Rattle.pv_closing.proofs.Lists.{length_below, length_numbered}

-- ---- what each record is

-- what is at an index from a place on
slice_get_later : {A : Type 0} (l : List A) (place i : ℕ) → slice_get (drop place l) i ≡ slice_get l (place + i)
slice_get_later l zero i = let same : i ≡ 0 + i = omega arith in ap (slice_get l) same
slice_get_later [] (suc place) i = refl
slice_get_later (y ∷ ys) (suc place) i =
    let same : suc (place + i) ≡ suc place + i = omega arith in slice_get_later ys place i ∙ ap (slice_get (y ∷ ys)) same

-- the element of a list that an element was made of
module _ {A B : Type 0} (make : ℕ → A → B) (l : List A) where
  abbrev made : List B
  made = map (λ (x : ℕ × A). make x.0 x.1) (enumerate_from 0 l)

  made_back : (i : ℕ) (y : B) → slice_get made i ≡ Some y → (x : A) × (slice_get l i ≡ Some x) × (y ≡ make i x)
  made_back i y is = by (slice_get l i) refl
    where
      by : (found : Option A) → slice_get l i ≡ found → (x : A) × (slice_get l i ≡ Some x) × (y ≡ make i x)
      by (Some x) at = (x, at, let same : Some y ≡ Some (make i x) = sym is ∙ made_at make l i x at in cc)
      by None none =
          let past = slice_get_past made i (omega (arith, length_below l i none, length_made make l)) in
          absurd (let no : None ≡ Some y = sym past ∙ is in cc)

  pub lacked_at : (place i : ℕ) (y : B) → slice_get (drop place made) i ≡ Some y
      → (x : A) × (slice_get l (place + i) ≡ Some x) × (y ≡ make (place + i) x)
  lacked_at place i y is = made_back (place + i) y (sym (slice_get_later made place i) ∙ is)

-- ---- how many there are

-- each of these records takes up an item of the centre
taken_of_all : (centre : ℕ) (pairs : List (ℕ × Item))
    → taken_of (map (λ (x : ℕ × Item). take_record centre x.0 x.1) pairs) centre ≡ length pairs
taken_of_all centre [] = refl
taken_of_all centre (x ∷ pairs) =
    sum_by-cons (λ (e : Record). cond (is_of_centre centre e) 1 0) (take_record centre x.0 x.1)
    (map (λ (y : ℕ × Item). take_record centre y.0 y.1) pairs)
    ∙ ap (λ (test : Bool). cond test 1 0 + taken_of (map (λ (y : ℕ × Item). take_record centre y.0 y.1) pairs) centre)
    (eq-eqb centre centre refl)
    ∙ (let one : 1 + taken_of (map (λ (y : ℕ × Item). take_record centre y.0 y.1) pairs) centre
    ≡ suc (taken_of (map (λ (y : ℕ × Item). take_record centre y.0 y.1) pairs) centre) = omega arith in one)
    ∙ ap suc (taken_of_all centre pairs)

pub all_taken : (centre : ℕ) (items : List Item) (list : EditList) → taken_of list.records centre ≤ length items
    → taken_of (list.records ++ lacked_items centre items list) centre ≡ length items
all_taken centre items list within =
    let k = taken_of list.records centre in
    let rest = drop k (enumerate_from 0 items) in
    let form : lacked_items centre items list ≡ map (λ (x : ℕ × Item). take_record centre x.0 x.1) rest =
    drop-map (λ (x : ℕ × Item). take_record centre x.0 x.1) k (enumerate_from 0 items) in
    let count : taken_of (lacked_items centre items list) centre ≡ length rest =
    ap (λ (l : List Record). taken_of l centre) form ∙ taken_of_all centre rest in
    let both = sum_by-append (λ (e : Record). cond (is_of_centre centre e) 1 0) list.records (lacked_items centre items list) in
    omega (arith, both, count, within, length-drop k (enumerate_from 0 items), length_numbered 0 items)

-- each of these records applies one of the edit list
applied_of_all : (pairs : List (ℕ × Record)) → applied_of (map (λ (x : ℕ × Record). apply_record x.0 x.1) pairs) ≡ length pairs
applied_of_all [] = refl
applied_of_all (x ∷ pairs) = ap suc (applied_of_all pairs)

pub all_applied : (edits : List Record) (state : CentreState) (records : List CentreRecord) → state.applied ≡ applied_of records
    → applied_of records ≤ length edits → applied_of (records ++ lacked_records edits state) ≡ length edits
all_applied edits state records is within =
    let rest = drop state.applied (enumerate_from 0 edits) in
    let form : lacked_records edits state ≡ map (λ (x : ℕ × Record). apply_record x.0 x.1) rest =
    drop-map (λ (x : ℕ × Record). apply_record x.0 x.1) state.applied (enumerate_from 0 edits) in
    let count : applied_of (lacked_records edits state) ≡ length rest =
    ap (λ (l : List CentreRecord). applied_of l) form ∙ applied_of_all rest in
    let both : applied_of (records ++ lacked_records edits state) ≡ applied_of records + applied_of (lacked_records edits state) =
    ap length (filter_map-append applied_in records (lacked_records edits state))
    ∙ length-append (filter_map applied_in records) (filter_map applied_in (lacked_records edits state)) in
    omega (arith, both, count, within, is, length-drop state.applied (enumerate_from 0 edits), length_numbered 0 edits)

-- ---- each is to be stored

-- the first element, or this one
abbrev first_or : {A : Type 0} → A → List A → A
first_or other [] = other
first_or other (x ∷ xs) = x

-- and what comes after it
abbrev after_first : {A : Type 0} → List A → List A
after_first [] = []
after_first (x ∷ xs) = xs

module _ (centre : ℕ) (items : List Item) where
  -- what comes first of what is lacked takes up an item, and the rest is lacked after it
  items_first : (list : EditList) (x : Record) (rest : List Record) → lacked_items centre items list ≡ x ∷ rest
      → (item : Item) × (take_record centre (taken_of list.records centre) item ≡ x)
      × (lacked_items centre items (with_record list x) ≡ rest)
  items_first list x rest is = by (slice_get items (taken_of list.records centre)) refl
    where
      by : (found : Option Item) → slice_get items (taken_of list.records centre) ≡ found
          → (item : Item) × (take_record centre (taken_of list.records centre) item ≡ x)
          × (lacked_items centre items (with_record list x) ≡ rest)
      by None none = absurd (let no : [] ≡ x ∷ rest = sym (items_none centre list items none) ∙ is in cc)
      by (Some item) at =
          let now = sym (items_next centre list items item at) ∙ is in
          let same : take_record centre (taken_of list.records centre) item ≡ x = ap (first_or x) now in (
            item,
            same,
            subst (λ (e : Record). lacked_items centre items (with_record list e) ≡ rest) same (ap after_first now),
          )

  -- a valid request stores this record
  abbrev pub IsTakenNext : Limits → List Record → Record → Type 0
  IsTakenNext limits records next = (request : UdcRequest) × IsRequest request
      × (judge limits records request ≡ Store next (Stored (length records)))

  pub item_to_store : (before : List Record) (list : EditList) (after : List Record) (next : Record)
      → lacked_items centre items list ≡ before ++ next ∷ after → IsRecord next → IsTakenNext list.limits (list.records ++ before) next
  item_to_store [] list after next is valid =
      let first = items_first list next after is in
      let k = taken_of list.records centre in (
        TakeUp centre k first.0,
        subst IsRecord (sym first.1) valid,
        subst (λ (l : List Record). judge list.limits l (TakeUp centre k first.0) ≡ Store next (Stored (length l)))
            (sym (append-nil list.records))
            (judges_item centre list first.0 ∙ ap (λ (e : Record). Store e (Stored (length list.records))) first.1),
      )
  item_to_store (x ∷ xs) list after next is valid =
      let first = items_first list x (xs ++ next ∷ after) is in
      subst (λ (l : List Record). IsTakenNext list.limits l next) (append_assoc list.records (x ∷ []) xs)
      (item_to_store xs (with_record list x) after next first.2 valid)

module _ (edits : List Record) where
  -- what comes first of what is lacked applies a record, and the rest is lacked after it
  records_first : (state : CentreState) (x : CentreRecord) (rest : List CentreRecord) → lacked_records edits state ≡ x ∷ rest
      → (edit : Record) × (apply_record state.applied edit ≡ x) × (lacked_records edits (with_centre_record state x) ≡ rest)
  records_first state x rest is = by (slice_get edits state.applied) refl
    where
      by : (found : Option Record) → slice_get edits state.applied ≡ found
          → (edit : Record) × (apply_record state.applied edit ≡ x) × (lacked_records edits (with_centre_record state x) ≡ rest)
      by None none = absurd (let no : [] ≡ x ∷ rest = sym (records_none state edits none) ∙ is in cc)
      by (Some edit) at =
          let now = sym (records_next state edits edit at) ∙ is in
          let same : apply_record state.applied edit ≡ x = ap (first_or x) now in (
            edit,
            same,
            subst (λ (e : CentreRecord). lacked_records edits (with_centre_record state e) ≡ rest) same (ap after_first now),
          )

  module _ (centre : ℕ) (limits : Limits) where
    -- a valid request stores this record at these
    abbrev pub IsAppliedNext : List CentreRecord → CentreRecord → Type 0
    IsAppliedNext records next = (request : IrcRequest) × IsCentreRequest request
        × (centre_judgement (centre_state_of centre limits records) request ≡ Store next Applied)

    -- it has room there
    abbrev pub HasRoomAt : List CentreRecord → CentreRecord → Type 0
    HasRoomAt records next = centre_has_room (centre_state_of centre limits records) next ≡ true

    pub record_to_store : (before records after : List CentreRecord) (next : CentreRecord)
        → lacked_records edits (centre_state_of centre limits records) ≡ before ++ next ∷ after → IsCentreRecord next
        → HasRoomAt (records ++ before) next → IsAppliedNext (records ++ before) next
    record_to_store [] records after next is valid room =
        let state = centre_state_of centre limits records in
        let first = records_first state next after is in
        let fits : centre_has_room state (apply_record state.applied first.0) ≡ true =
        subst (λ (e : CentreRecord). HasRoomAt records e) (sym first.1)
        (subst (λ (l : List CentreRecord). HasRoomAt l next) (append-nil records) room) in
        subst (λ (l : List CentreRecord). IsAppliedNext l next) (sym (append-nil records)) (
          Apply state.applied (down_of first.0),
          subst IsCentreRecord (sym first.1) valid,
          judges_record state (down_of first.0) true fits ∙ ap (λ (e : CentreRecord). Store e Applied) first.1,
        )
    record_to_store (x ∷ xs) records after next is valid room =
        let first = records_first (centre_state_of centre limits records) x (xs ++ next ∷ after) is in
        let longer : lacked_records edits (centre_state_of centre limits (records ++ x ∷ [])) ≡ xs ++ next ∷ after =
        ap (lacked_records edits) (sym (grown centre limits records x)) ∙ first.2 in
        let same : (records ++ x ∷ []) ++ xs ≡ records ++ x ∷ xs = append_assoc records (x ∷ []) xs in
        subst (λ (l : List CentreRecord). IsAppliedNext l next) same
        (record_to_store xs (records ++ x ∷ []) after next longer valid
        (subst (λ (l : List CentreRecord). HasRoomAt l next) (sym same) room))
