-- What a node lacks, one record after the other, and what is decided on the record that comes next.
use Rattle.std.proofs.Common.{◌≡◌, ℕ, suc, ◌+◌, Bool, true, false, ltb, cond, List, [], ◌∷◌, ◌++◌, length, map, drop, Some, None, refl, sym, ap, ◌∙◌, arith}
use Rattle.std.specs.Prelude.{slice_get, option_map}
use Rattle.std.specs.List.{enumerate_from}
use Rattle.std.proofs.lemmas.Bool.{eq-eqb}
use Rattle.std.proofs.lemmas.Bool.Decides.{nat_tests}
use Rattle.std.proofs.lemmas.List.{drop_all, length-map}
use Rattle.std.proofs.lemmas.List.Sums.{sum_by_push}
use Rattle.std.proofs.lemmas.Option.{slice_get-map}
use Rattle.pv_post.specs.declared.item.Item.{Item}
use Rattle.pv_edits.specs.Edits.{is_of_centre, taken_of}
use Rattle.pv_edits.specs.declared.down.DownRecord.{DownRecord}
use Rattle.pv_edits.specs.declared.down.DownRecord.TheVariants.{Whole, Blank}
use Rattle.pv_edits.specs.declared.record.Record.{Record}
use Rattle.pv_node.specs.declared.decision.Decision.{Decision}
use Rattle.pv_node.specs.declared.decision.Decision.TheVariants.{Answer, Store}
use Rattle.pv_udc.specs.EditList.{EditList, with_record}
use Rattle.pv_udc.specs.Judgement.{judge}
use Rattle.pv_udc.specs.Replies.{down_of}
use Rattle.pv_udc.specs.declared.reply.UdcReply.TheVariants.{Stored}
use Rattle.pv_udc.specs.declared.request.UdcRequest.TheVariants.{TakeUp}
use Rattle.pv_irc.specs.Deciding.{down_fits, centre_judgement}
use Rattle.pv_irc.specs.History.{CentreState, with_down, with_centre_record}
use Rattle.pv_irc.specs.declared.record.CentreRecord.{CentreRecord}
use Rattle.pv_irc.specs.declared.record.CentreRecord.TheVariants as records
use Rattle.pv_irc.specs.declared.reply.IrcReply.{IrcReply}
use Rattle.pv_irc.specs.declared.reply.IrcReply.TheVariants.{Applied, NoRoom}
use Rattle.pv_irc.specs.declared.request.IrcRequest.TheVariants.{Apply}
use Rattle.pv_closing.specs.Lacking.{take_record, take_records, lacked_items, apply_record, apply_records, lacked_records}
use Rattle.pv_closing.proofs.Lists.{drop_here, length_below, number_at, length_numbered}

-- ---- what is made of the elements of a list and their numbers

module _ {A B : Type 0} (make : ℕ → A → B) (l : List A) where
  -- all that is made
  abbrev all_made : List B
  all_made = map (λ (x : ℕ × A). make x.0 x.1) (enumerate_from 0 l)

  pub made_at : (i : ℕ) (x : A) → slice_get l i ≡ Some x → slice_get all_made i ≡ Some (make i x)
  made_at i x is =
      slice_get-map (λ (y : ℕ × A). make y.0 y.1) (enumerate_from 0 l) i
      ∙ ap (option_map (λ (y : ℕ × A). make y.0 y.1)) (number_at 0 l i x is)
      ∙ (let same : 0 + i ≡ i = omega arith in ap (λ (n : ℕ). Some (make n x)) same)

  pub length_made : length all_made ≡ length l
  length_made = length-map (enumerate_from 0 l) (λ (x : ℕ × A). make x.0 x.1) ∙ length_numbered 0 l

  -- from an element on, it comes first
  pub made_next : (i : ℕ) (x : A) → slice_get l i ≡ Some x → drop i all_made ≡ make i x ∷ drop (i + 1) all_made
  made_next i x is =
      let one : suc i ≡ i + 1 = omega arith in
      drop_here all_made i (make i x) (made_at i x is) ∙ ap (λ (n : ℕ). make i x ∷ drop n all_made) one

  -- after the last there is none
  pub made_none : (i : ℕ) → slice_get l i ≡ None → drop i all_made ≡ []
  made_none i none = drop_all i all_made (omega (arith, length_made, length_below l i none))

-- ---- the Update Centre

module _ (centre : ℕ) (list : EditList) where
  -- how many it has taken up
  abbrev taken : ℕ
  taken = taken_of list.records centre

  pub taken_next : (item : Item) → taken_of (list.records ++ take_record centre taken item ∷ []) centre ≡ taken + 1
  taken_next item =
      sum_by_push (λ (e : Record). cond (is_of_centre centre e) 1 0) list.records (take_record centre taken item)
      ∙ ap (λ (test : Bool). taken + cond test 1 0) (eq-eqb centre centre refl)

  pub items_next : (items : List Item) (item : Item) → slice_get items taken ≡ Some item
      → lacked_items centre items list
      ≡ take_record centre taken item ∷ lacked_items centre items (with_record list (take_record centre taken item))
  items_next items item is =
      made_next (take_record centre) items taken item is
      ∙ ap (λ (n : ℕ). take_record centre taken item ∷ drop n (take_records centre items)) (sym (taken_next item))

  pub items_none : (items : List Item) → slice_get items taken ≡ None → lacked_items centre items list ≡ []
  items_none items none = made_none (take_record centre) items taken none

  -- the item that comes next is stored
  pub judges_item : (item : Item) → judge list.limits list.records (TakeUp centre taken item)
      ≡ Store (take_record centre taken item) (Stored (length list.records))
  judges_item item =
      let below : ltb taken taken ≡ false = grind (arith, nat_tests) in
      rw below refl

-- the number that is read from the list is that
pub number_read : (centre k : ℕ) (list seen : EditList) → seen ≡ list → k ≡ taken_of seen.records centre → k ≡ taken_of list.records centre
number_read centre k list seen same is = is ∙ ap (λ (l : EditList). taken_of l.records centre) same

-- it is asked for under that number
pub item_judged : (centre k : ℕ) (list seen : EditList) (item : Item) → seen ≡ list → k ≡ taken_of seen.records centre
    → judge list.limits list.records (TakeUp centre k item)
    ≡ Store (take_record centre (taken_of list.records centre) item) (Stored (length list.records))
item_judged centre k list seen item same is =
    ap (λ (n : ℕ). judge list.limits list.records (TakeUp centre n item)) (number_read centre k list seen same is)
    ∙ judges_item centre list item

-- ---- a centre

module _ (state : CentreState) where
  -- what came down is one more
  pub applied_next : (down : DownRecord) → (with_down state down).applied ≡ state.applied + 1
  applied_next (Whole edit) = refl
  applied_next Blank = refl

  pub records_next : (edits : List Record) (edit : Record) → slice_get edits state.applied ≡ Some edit
      → lacked_records edits state
      ≡ apply_record state.applied edit ∷ lacked_records edits (with_centre_record state (apply_record state.applied edit))
  records_next edits edit is =
      made_next apply_record edits state.applied edit is
      ∙ ap (λ (n : ℕ). apply_record state.applied edit ∷ drop n (apply_records edits)) (sym (applied_next (down_of edit)))

  pub records_none : (edits : List Record) → slice_get edits state.applied ≡ None → lacked_records edits state ≡ []
  records_none edits none = made_none apply_record edits state.applied none

  -- the record that comes next is stored if it has room
  abbrev pub decided_by : Bool → DownRecord → Decision CentreRecord IrcReply
  decided_by true down = Store (records.Applied state.applied down) Applied
  decided_by false down = Answer (NoRoom state.applied)

  pub judges_record : (down : DownRecord) (fits : Bool) → down_fits state down ≡ fits
      → centre_judgement state (Apply state.applied down) ≡ decided_by fits down
  judges_record down true fits =
      let below : ltb state.applied state.applied ≡ false = grind (arith, nat_tests) in
      rw (below, fits) refl
  judges_record down false fits =
      let below : ltb state.applied state.applied ≡ false = grind (arith, nat_tests) in
      rw (below, fits) refl

-- the place that is read from the state is that
pub place_read : (n : ℕ) (state seen : CentreState) → seen ≡ state → n ≡ seen.applied → n ≡ state.applied
place_read n state seen same is = is ∙ ap (λ (s : CentreState). s.applied) same

-- it is asked for as what goes down of it, at that place
pub record_judged : (n : ℕ) (state seen : CentreState) (edit : Record) (down : DownRecord) → seen ≡ state → n ≡ seen.applied
    → down ≡ down_of edit → (fits : Bool) → down_fits state (down_of edit) ≡ fits
    → centre_judgement state (Apply n down) ≡ decided_by state fits (down_of edit)
record_judged n state seen edit down same is down_is fits fit =
    ap (λ (k : ℕ). centre_judgement state (Apply k down)) (place_read n state seen same is)
    ∙ ap (λ (d : DownRecord). centre_judgement state (Apply state.applied d)) down_is
    ∙ judges_record state (down_of edit) fits fit
