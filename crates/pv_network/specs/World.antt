-- The world: the one edit list, what each centre has of it, and every packet that was ever made.
use Rattle.std.specs.Prelude.{ℕ, Option, Some, None, List, [], ◌∷◌, ◌++◌, take, replicate, slice_index_or, slice_set}
use Rattle.pv_outside.specs.declared.limits.Limits.{Limits}
use Rattle.pv_edits.specs.declared.record.Record.{Record}
use Rattle.pv_udc.specs.EditList.{EditList, empty_list, with_record}
use Rattle.pv_editor.specs.Say.{new_seat}
use Rattle.pv_editor.specs.declared.seat.EditorSeat.{EditorSeat}
use Rattle.pv_editor.specs.declared.replies.UdcReplyView.{UdcReplyView}
use Rattle.pv_editor.specs.declared.replies.UdcReplyView.TheVariants.{Stored, Refused}
use Rattle.pv_network.specs.declared.event.TheConstants.{EDITORS}
use Rattle.pv_network.specs.declared.outcome.BillLine.{BillLine}
use Rattle.pv_network.specs.Centre.{Centre, new_centre}
use Rattle.pv_traffic.specs.Link.{Link, new_link, link_in}

-- an edit that was acknowledged to its editor: under his number, at its place in the list
pub record Receipt : Type 0 where
  pub editor : ℕ
  pub number : ℕ
  pub place : ℕ

-- a call that was stopped while a charge line of it was stored and its frame not yet shown
pub record StoppedCall : Type 0 where
  pub centre : ℕ
  pub serial : ℕ

-- everything there is
pub record World : Type 0 where
  -- the edit list with its limits
  pub update : EditList
  -- what the clock shows, in seconds since 1970
  pub moment : ℕ
  -- the editors' seats, one for each port
  pub seats : List EditorSeat
  -- the centres, and the link of each
  pub centres : List Centre
  pub links : List Link
  -- what happened in this run: the edits that were acknowledged, the charge lines of the frames that callers were shown, and the
  -- calls that were stopped with a line in hand
  pub receipts : List Receipt
  pub shown : List BillLine
  pub stopped : List StoppedCall

-- the world at the start
abbrev pub start : ℕ → Limits → World
start centres limits = record {
  update = empty_list limits;
  moment = 0;
  seats = replicate EDITORS new_seat;
  centres = replicate centres new_centre;
  links = replicate centres new_link;
  receipts = [];
  shown = [];
  stopped = [];
}

-- the seat at a port; after the last there is none, and a new one stands for it
abbrev pub seat_at : World → ℕ → EditorSeat
seat_at w port = slice_index_or w.seats port new_seat

-- the world with another seat at a port
abbrev pub with_seat : World → ℕ → EditorSeat → World
with_seat w port seat = record w { seats = slice_set w.seats port seat }

-- the centre of a number; after the last there is none, and a new one stands for it
abbrev pub centre_at : World → ℕ → Centre
centre_at w c = slice_index_or w.centres c new_centre

-- the link of a centre
abbrev pub link_at : World → ℕ → Link
link_at w c = link_in w.links c

-- the page base of a centre: the prefix of the edit list that it has applied
abbrev pub page_base : World → ℕ → List Record
page_base w c = take (centre_at w c).applied w.update.records

-- the world with another centre in the place of that number
abbrev pub with_centre : World → ℕ → Centre → World
with_centre w c centre = record w { centres = slice_set w.centres c centre }

-- the world with another link in the place of that number
abbrev pub with_link : World → ℕ → Link → World
with_link w c link = record w { links = slice_set w.links c link }

-- the world with what was stored: one more record, or as it was
abbrev pub with_edit : World → Option Record → World
with_edit w None = w
with_edit w (Some edit) = record w { update = with_record w.update edit }

-- the world with one more receipt, if an editor's request under a number is acknowledged
abbrev pub with_receipt : World → ℕ → ℕ → UdcReplyView → World
with_receipt w editor q (Stored place) = record w { receipts = w.receipts ++ record { editor = editor; number = q; place = place } ∷ [] }
with_receipt w editor q (Refused code shown) = w
