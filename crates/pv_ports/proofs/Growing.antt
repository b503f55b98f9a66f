-- What a node has stored grows, and what was right of it stays so.
use Rattle.std.proofs.Common.{◌≡◌, ℕ, zero, suc, ◌+◌, ◌≤◌, cond, List, [], ◌∷◌, ◌++◌, length, Some, refl, ap, sym, ◌∙◌, subst, arith, append_assoc, length-append}
use Rattle.std.specs.Prelude.{slice_get}
use Rattle.std.proofs.lemmas.List.Elements.{filter_map-append}
use Rattle.std.proofs.lemmas.List.Sums.{sum_by-append}
use mathlib.Core.List.{IsPrefix}
use Rattle.pv_edits.specs.Edits.{is_of_centre, taken_of}
use Rattle.pv_edits.specs.declared.record.Record.{Record}
use Rattle.pv_irc.specs.History.{applied_in, kept_in, applied_records, applied_of, items_of}
use Rattle.pv_irc.specs.declared.record.CentreRecord.{CentreRecord}
use Rattle.pv_live.specs.Entries.{records_in, with_opening}
use Rattle.pv_live.specs.declared.entry.Entry.{Entry}
use Rattle.pv_packet.specs.declared.packet.Packet.{Packet}
use Rattle.pv_packet.specs.declared.packet.Packet.TheVariants.{Down, Up, DownHeard, UpHeard}
use Rattle.pv_ports.specs.Rights.{GoesDown, GoesUp}

-- what is at a place stays there as the list grows
get_prefix : {X : Type 0} (xs ys : List X) (i : ℕ) (x : X) → slice_get xs i ≡ Some x → slice_get (xs ++ ys) i ≡ Some x
get_prefix [] ys i x is = absurd cc
get_prefix (y ∷ xs) ys zero x is = is
get_prefix (y ∷ xs) ys (suc i) x is = get_prefix xs ys i x is

module _ {T : Type 0} where
  -- the records of more entries
  records_more : (one more : List (Entry T)) → records_in (one ++ more) ≡ records_in one ++ records_in more
  records_more [] more = refl
  records_more (x ∷ one) more = ap (λ (l : List T). x.rec ∷ l) (records_more one more)

  -- all records, with more entries
  pub with_more : (opening : List T) (one more : List (Entry T))
      → with_opening opening (one ++ more) ≡ with_opening opening one ++ records_in more
  with_more opening one more =
      ap (λ (l : List T). opening ++ l) (records_more one more) ∙ sym (append_assoc opening (records_in one) (records_in more))

  -- of a prefix of the entries
  pub with_prefix : (opening : List T) (one other : List (Entry T)) → IsPrefix one other
      → IsPrefix (with_opening opening one) (with_opening opening other)
  with_prefix opening one other is =
      (records_in is.0, sym (with_more opening one is.0) ∙ ap (λ (l : List (Entry T)). with_opening opening l) is.1)

-- one item more of a centre is taken up, if a record is of one
pub taken_more : (C : ℕ) (records more : List Record) → taken_of (records ++ more) C ≡ taken_of records C + taken_of more C
taken_more C records more = sum_by-append (λ r. cond (is_of_centre C r) 1 0) records more

pub applied_more : (records more : List CentreRecord) → applied_of (records ++ more) ≡ applied_of records + applied_of more
applied_more records more =
    ap length (filter_map-append applied_in records more) ∙ length-append (applied_records records) (applied_records more)

-- a packet that is right stays right as the records grow
down_more : (packet : Packet) (records more : List Record) → GoesDown records packet → GoesDown (records ++ more) packet
down_more (Down centre n rec) records more is = (is.0, get_prefix records more n is.0 is.1, is.2)
down_more (UpHeard centre count) records more is = omega (arith, is, taken_more centre records more)
down_more (Up centre number item) records more is = is
down_more (DownHeard centre count) records more is = is

up_more : (packet : Packet) (records more : List CentreRecord) → GoesUp records packet → GoesUp (records ++ more) packet
up_more (Up centre number item) records more is =
    ap (λ l. slice_get l number) (filter_map-append kept_in records more) ∙ get_prefix (items_of records) (items_of more) number item is
up_more (DownHeard centre count) records more is = omega (arith, is, applied_more records more)
up_more (Down centre n rec) records more is = is
up_more (UpHeard centre count) records more is = is

pub down_grows : (packet : Packet) (opening : List Record) (one other : List (Entry Record)) → IsPrefix one other
    → GoesDown (with_opening opening one) packet → GoesDown (with_opening opening other) packet
down_grows packet opening one other prefix is =
    let more = with_prefix opening one other prefix in
    subst (λ (l : List Record). GoesDown l packet) more.1 (down_more packet (with_opening opening one) more.0 is)

pub up_grows : (packet : Packet) (opening : List CentreRecord) (one other : List (Entry CentreRecord)) → IsPrefix one other
    → GoesUp (with_opening opening one) packet → GoesUp (with_opening opening other) packet
up_grows packet opening one other prefix is =
    let more = with_prefix opening one other prefix in
    subst (λ (l : List CentreRecord). GoesUp l packet) more.1 (up_more packet (with_opening opening one) more.0 is)

-- more is applied, and more is taken up, as a pass sees more
pub applied_grows : (opening : List CentreRecord) (one other : List (Entry CentreRecord)) → IsPrefix one other
    → applied_of (with_opening opening one) ≤ applied_of (with_opening opening other)
applied_grows opening one other prefix =
    let more = with_prefix opening one other prefix in
    omega (arith, applied_more (with_opening opening one) more.0, ap applied_of more.1)

pub taken_grows : (C : ℕ) (opening : List Record) (one other : List (Entry Record)) → IsPrefix one other
    → taken_of (with_opening opening one) C ≤ taken_of (with_opening opening other) C
taken_grows C opening one other prefix =
    let more = with_prefix opening one other prefix in
    omega (arith, taken_more C (with_opening opening one) more.0, ap (λ (l : List Record). taken_of l C) more.1)
