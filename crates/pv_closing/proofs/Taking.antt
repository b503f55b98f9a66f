-- The Update Centre takes up the items that it lacks, one after the other.
use Rattle.std.proofs.Common.{◌≡◌, ℕ, ◌+◌, ◌-◌, ◌<◌, ◌≤◌, List, ◌∷◌, length, Some, None, sym, ap, subst, ◌∙◌, arith}
use Rattle.std.specs.Prelude.{slice_get}
use Rattle.std.proofs.lemmas.Option.{slice_get_within}
use Rattle.pv_outside.specs.declared.reports.Reports as reports
use Rattle.pv_post.specs.declared.item.Item.{Item}
use Rattle.pv_edits.specs.Edits.{taken_of}
use Rattle.pv_edits.specs.declared.record.Record.{Record}
use Rattle.pv_node.specs.Asking.{HasStored}
use Rattle.pv_node.specs.Parts.{Parts}
use Rattle.pv_node.specs.declared.rules.Rules as rules
use Rattle.pv_udc.specs.EditList.{EditList, with_record}
use Rattle.pv_udc.specs.declared.reply.UdcReply.{UdcReply}
use Rattle.pv_udc.specs.declared.request.UdcRequest.{UdcRequest}
use Rattle.pv_closing.specs.Bringing.{LeavesNext, IsAskStop, LeavesFirst, IsBroughtTo, HasAdded}
use Rattle.pv_closing.specs.Lacking.{take_record, lacked_items}
use Rattle.pv_closing.specs.declared.rest_end.RestEnd.{RestEnd}
use Rattle.pv_closing.proofs.Bringing.{IsGoing, going_next, going_stopped, going_last, moments_next}
use Rattle.pv_closing.proofs.Lacking.{items_next, items_none, taken_next}
use Rattle.pv_closing.proofs.Lists.{length_below}

module _ {S D : Type 0} (r : rules.Ghosts S EditList UdcRequest Record UdcReply) (g : reports.Ghosts D)
    (after : (state : EditList) (edit : Record) (place : ℕ) → r.after state edit place ≡ with_record state edit)
    (number : ℕ) (items : List Item) (old now : Parts D EditList Record) where
  -- what is lacked now is still to come
  abbrev Going : Parts D EditList Record → Type 0
  Going node = IsGoing r g old (lacked_items number items old.state) node (lacked_items number items node.state)

  -- the item that comes next
  abbrev next : Item → Record
  next item = take_record number (taken_of now.state.records number) item

  module _ (going : Going now) (item : Item) (there : slice_get items (taken_of now.state.records number) ≡ Some item)
      (new : Parts D EditList Record) where
    -- it comes first of what is lacked
    going_at : IsGoing r g old (lacked_items number items old.state) now
        (next item ∷ lacked_items number items (with_record now.state (next item)))
    going_at = subst (IsGoing r g old (lacked_items number items old.state) now) (items_next number now.state items item there) going

    pub item_leaves : LeavesNext r g now new (next item) → LeavesFirst r g old new (lacked_items number items old.state)
    item_leaves asked = moments_next r g old (lacked_items number items old.state) now new (next item)
        (lacked_items number items (with_record now.state (next item))) going_at asked

    pub item_taken : HasStored r g now new (next item) → LeavesNext r g now new (next item)
        → g.faults now.journal.disk ≤ g.faults new.journal.disk → Going new
    item_taken stored asked counted =
        let state : new.state ≡ with_record now.state (next item) = stored.state ∙ after now.state (next item) now.journal.count in
        subst (λ (s : EditList). IsGoing r g old (lacked_items number items old.state) new (lacked_items number items s)) (sym state)
        (going_next r g old (lacked_items number items old.state) now new (next item)
        (lacked_items number items (with_record now.state (next item))) going_at stored asked counted)

    -- one more is taken, so fewer are left
    pub item_fewer : HasStored r g now new (next item)
        → length items - taken_of new.state.records number < length items - taken_of now.state.records number
    item_fewer stored =
        let state : new.state ≡ with_record now.state (next item) = stored.state ∙ after now.state (next item) now.journal.count in
        let one : taken_of new.state.records number ≡ taken_of now.state.records number + 1 =
        ap (λ (s : EditList). taken_of s.records number) state ∙ taken_next number now.state item in
        let within = slice_get_within items (taken_of now.state.records number) item there in
        omega (arith, one, within)

    pub item_stopped : {F : Type 0} (end : RestEnd D F) → IsAskStop r g now new (next item) end
        → IsBroughtTo r g old new None (lacked_items number items old.state) end
    item_stopped {F = F} end stop = going_stopped r g old (lacked_items number items old.state) now new (next item)
        (lacked_items number items (with_record now.state (next item))) going_at {F = F} end stop

  -- none is left
  pub items_brought : Going now → slice_get items (taken_of now.state.records number) ≡ None
      → HasAdded r g old now None (lacked_items number items old.state) × (now.hand ≡ None)
  items_brought going none = going_last r g old (lacked_items number items old.state) now (lacked_items number items now.state)
      (items_none number now.state items none) going

  pub items_all : slice_get items (taken_of now.state.records number) ≡ None → length items ≤ taken_of now.state.records number
  items_all none = length_below items (taken_of now.state.records number) none
