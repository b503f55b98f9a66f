-- Worked examples of the network's rules, computed from the definitions.
use Rattle.std.proofs.Common.{lit<, lit≤, ◌≡◌, ℕ, [], ◌∷◌, Some, None, codes, refl, length, true, false, arith}
use Rattle.std.specs.Prelude.{◌==◌, if◌then◌else◌, Option}
use Rattle.std.specs.Fmt.{digits}
use Rattle.std.specs.Int.{IsInRange}
use Rattle.pv_outside.specs.declared.limits.Limits.{Limits}
use Rattle.pv_node.specs.declared.decision.Decision.TheVariants.{Answer}
use Rattle.pv_charge.specs.Line.{Charge}
use Rattle.pv_post.specs.Boxes.{WaitingLetter}
use Rattle.pv_post.specs.declared.item.Item.{Item}
use Rattle.pv_post.specs.declared.item.Item.TheVariants as items
use Rattle.pv_edits.specs.declared.record.Record.{Record}
use Rattle.pv_edits.specs.declared.record.Record.TheVariants as edits
use Rattle.pv_packet.specs.declared.packet.Packet.TheVariants.{Down, Up, DownHeard, UpHeard}
use Rattle.pv_udc.specs.Replies.{down_of}
use Rattle.pv_udc.specs.EditList.{EditList, empty_list, with_record}
use Rattle.pv_udc.specs.declared.reply.Code.{Code}
use Rattle.pv_udc.specs.declared.reply.UdcReply.TheVariants.{Again, Refused}
use Rattle.pv_editor.specs.Replies.{reply_of}
use Rattle.pv_editor.specs.declared.replies.UdcReplyView.TheVariants as told
use Rattle.pv_network.specs.Replies.{first_capital, last_capital}
use Rattle.pv_network.specs.declared.outcome.Outcome.TheVariants as outcomes
use Rattle.pv_session.specs.declared.message.Message.TheVariants.{KeyAccount}
use Rattle.pv_session.specs.declared.step.Paid.TheVariants.{Serial, Stored}
use Rattle.pv_session.specs.declared.step.Phase.TheVariants.{Owing}
use Rattle.pv_session.specs.declared.step.Wish.TheVariants as wishes
use Rattle.pv_session.specs.Messages.{screen_of_blank}
use Rattle.pv_session.specs.State.{new_call}
use Rattle.pv_network.specs.Call.{Call, call_of, first_call, serial_of}
use Rattle.pv_network.specs.Calling.{calls_at, call_at}
use Rattle.pv_network.specs.Calls.{Holdings, no_calls, call_in, with_call, dial_at, with_wish, store_at}
use Rattle.pv_network.specs.Keying.{is_over}
use Rattle.pv_network.specs.declared.arrival.Arrival.TheVariants.{Taken, Old, Early, Full}
use Rattle.pv_network.specs.declared.event.NodeName.TheVariants as nodes
use Rattle.pv_network.specs.declared.event.TheConstants.{EDITORS}
use Rattle.pv_network.specs.Bills.{bill_answer, bill_lines}
use Rattle.pv_network.specs.Centre.{Centre, new_centre, arrival_of}
use Rattle.pv_network.specs.Charging.{lines_with, shown_lines, line_at, lines_in_hand, with_stops}
use Rattle.pv_network.specs.Crashing.{step_of_crash}
use Rattle.pv_network.specs.Cutting.{MayBeKept, step_of_cut}
use Rattle.pv_network.specs.declared.storing.Storing.TheVariants as commands
use Rattle.pv_traffic.specs.Link.{new_link}
use Rattle.pv_link.specs.Sending.{SendingEnd, number_to_give}
use Rattle.pv_network.specs.Traffic.{carry_rounds, step_of_carry, step_of_send}
use Rattle.pv_network.specs.Verdict.{verdict_by}
use Rattle.pv_network.specs.World.{World, start, centre_at, link_at}
use Rattle.pv_verdicts.specs.declared.view.TheConstants.{FULL}

-- The next record is taken, one that was taken is old, one after the next is early. At the limit, of which the log-ons are a part,
-- the next one finds the centre full, and an old one is old there too.
pub arrivals : (arrival_of 3 9 10 3 ≡ Taken) × (arrival_of 3 9 10 2 ≡ Old) × (arrival_of 3 9 10 4 ≡ Early)
    × (arrival_of 3 10 10 3 ≡ Full) × (arrival_of 3 10 10 2 ≡ Old)
arrivals = (refl, refl, refl, refl, refl)

-- An end sends one after another, begins again after the last record with the first that is not acknowledged, and sends nothing if all
-- are acknowledged.
pub turns : (number_to_give (record { acknowledged = 0; next = 1 }) 3 ≡ Some 1)
    × (number_to_give (record { acknowledged = 1; next = 3 }) 3 ≡ Some 1)
    × (number_to_give (record { acknowledged = 3; next = 3 }) 3 ≡ None)
turns = (refl, refl, refl)

-- ---- verdicts

-- the reply of a full Update Centre
pub full_reply : reply_of (told.Refused FULL 10000) ≡ codes "NO 14 FULL 10000"
unfolding digits
full_reply = refl

-- a request that is refused or repeated is answered so by a full one too
pub refused_first : (u : EditList) (code : Code) → (verdict_by u (Answer (Refused code))).reply ≡ told.Refused code.code code.shown
refused_first u code = refl

pub repeated_first : (u : EditList) (place : ℕ) → (verdict_by u (Answer (Again place))).reply ≡ told.Stored place
repeated_first u place = refl

-- ---- carry

-- the limits of a small network
abbrev small : Limits
small = record { frames = 2; records = 5; frames_in_range = (lit< tt, lit≤ tt); records_in_range = (lit< tt, lit≤ tt) }

-- a new centre that has kept an item
abbrev with_item : Item → Centre
with_item item = record new_centre { calls = record no_calls { items = item ∷ [] } }

-- a new centre gets both records of a list in two rounds, and then nothing is left to send
pub two_are_carried : (one other : Record)
    → (step_of_carry (record (start 1 small) { update = with_record (with_record (empty_list small) one) other }) 0).1
    ≡ outcomes.Carried 2 0
unfolding carry_rounds
two_are_carried one other = refl

-- there is nothing to send at the start
pub idle_at_start : (limits : Limits) → (step_of_send (start 1 limits) 0).1 ≡ outcomes.Idle
idle_at_start limits = refl

-- an item of a centre that has nothing to apply goes up, and its record then comes down
pub item_is_carried : (item : Item) → (step_of_carry (record (start 1 small) { centres = with_item item ∷ [] }) 0).1 ≡ outcomes.Carried 1 1
unfolding carry_rounds
item_is_carried item = refl

-- so the packets that go down are the acknowledgement of the item and its record, and those that go up the item and the
-- acknowledgement of the record
pub carried_packets : (item : Item) (after : World) → after ≡ (step_of_carry (record (start 1 small) { centres = with_item item ∷ [] }) 0).0
    → ((link_at after 0).down ≡ (UpHeard 0 1 ∷ Down 0 0 (down_of (edits.Taken (record { centre = 0; k = 0; item = item }))) ∷ []))
    × ((link_at after 0).up ≡ (Up 0 0 item ∷ DownHeard 0 1 ∷ []))
unfolding carry_rounds
carried_packets item after is = rw is (refl, refl)

-- ---- crashes

-- an end that heard
abbrev heard_end : SendingEnd
heard_end = record { acknowledged = 1; next = 1 }

-- a world in which both ends heard
abbrev half_way : World
half_way = record (start 1 small) { links = record new_link { sending = heard_end; posting = heard_end } ∷ [] }

-- a crash of the Update Centre leaves the centre's end as it is, and a crash of the centre that of the Update Centre
pub crashes : (link_at (step_of_crash half_way nodes.Udc).0 0 ≡ record new_link { posting = heard_end })
    × (link_at (step_of_crash half_way (nodes.Centre 0)).0 0 ≡ record new_link { sending = heard_end })
    × ((step_of_crash half_way nodes.Udc).1 ≡ outcomes.Crashed 0) × ((step_of_crash half_way (nodes.Centre 0)).1 ≡ outcomes.Crashed 0)
crashes = (refl, refl, refl, refl)

-- there are four editors' seats after it
pub editors : (EDITORS ≡ 4) × (length (step_of_crash half_way nodes.Udc).0.seats ≡ 4)
editors = (refl, refl)

-- ---- bills

-- a charge line of this price, for an account
abbrev charge : ℕ → ℕ → Charge
charge account price =
    record { serial = 0; number = 0; account = account; name = record { page = 1; letter = 0 }; price = price; moment = 0 }

-- the bill of an account has its own lines, of all centres, and their sum
pub bills : bill_answer (bill_lines (
    edits.Taken (record { centre = 0; k = 0; item = items.Charge (charge 7 99) })
    ∷ edits.Taken (record { centre = 1; k = 0; item = items.Charge (charge 8 1) })
    ∷ edits.Taken (record { centre = 2; k = 0; item = items.Charge (charge 7 5) })
    ∷ []) 7) ≡ outcomes.Bill (line_at 0 (charge 7 99) ∷ line_at 2 (charge 7 5) ∷ []) 104
bills = refl

-- ---- calls

-- a centre has sixteen ports, and nobody has called
pub ports : length no_calls.ports ≡ 16
ports = refl

-- a dial at a free port is answered by the first screen, and a second one by the first call
pub dials : ((dial_at no_calls 0 None).1 ≡ outcomes.Shown (record { screen = screen_of_blank KeyAccount; ended = None }))
    × ((dial_at (dial_at no_calls 0 None).0 0 (call_in (dial_at no_calls 0 None).0 0)).1 ≡ outcomes.Busy)
dials = (refl, refl)

-- a letter that has waited since place 3
abbrev letter : WaitingLetter
letter = record { number = 3; sender = 2; moment = 0; text = [] }

-- a centre that has applied seven records, of this many in all and five at most, where the letter waits for account 1
abbrev holdings : ℕ → Holdings
holdings count = record { limit = 5; count = count; applied = 7; letters = λ account. if account == 1 then letter ∷ [] else [] }

-- a log-on raises the count, its serial is the count before it, and a call that owes nothing stores none
pub serials : ((with_wish (holdings 4) no_calls 0 first_call (wishes.LogOn 1)).log_ons ≡ 1)
    × (serial_of (record first_call { stored = Some (Serial 0) }) ≡ Some 0)
    × ((store_at (holdings 5) no_calls 0 (Some first_call)).1 ≡ outcomes.Nothing)
serials = (refl, refl, refl)

-- the call at a port that owes the removal of a letter
abbrev removing : ℕ → Option Call
removing number = Some (call_of (record new_call { phase = Owing (wishes.Remove 1 number); account = Some 1; serial = Some 7 }))

-- A letter that waits is removed at the count of the applied records, and a full centre has no room for that. The removal of one
-- that does not wait stores nothing, also at a full centre.
pub removals :
    ((store_at (holdings 4) no_calls 0 (removing 3)).0.removals ≡ record { account = 1; number = 3; place = 7 } ∷ [])
    × (is_over (store_at (holdings 5) no_calls 0 (removing 3)).1 ≡ true)
    × ((store_at (holdings 4) no_calls 0 (removing 2)).0.removals ≡ [])
    × ((store_at (holdings 5) no_calls 0 (removing 2)).1 ≡ outcomes.Stored)
removals = (refl, refl, refl, refl)

-- ---- charges

-- the line of a number in the call of a serial
abbrev line : ℕ → ℕ → Charge
line serial number = record {
  serial = serial;
  number = number;
  account = 1;
  name = record { page = 1; letter = 97 };
  price = 5;
  moment = 0;
}

-- the call of serial 7 that owes its line of number 0
abbrev owing : Call
owing = call_of (record new_call { phase = Owing (wishes.Charge (line 7 0)); account = Some 1; serial = Some 7 })

-- the lines of a call are those of its serial, in order
pub lines_by_serial : lines_with (items.Charge (line 7 0) ∷ items.Charge (line 8 0) ∷ items.Charge (line 7 1) ∷ []) 7
    ≡ line 7 0 ∷ line 7 1 ∷ []
lines_by_serial = refl

-- what a call was shown is what its centre showed to its serial
pub shown_by_call : shown_lines (line_at 0 (line 7 0) ∷ line_at 1 (line 7 1) ∷ line_at 0 (line 8 0) ∷ []) 0 7 ≡ line 7 0 ∷ []
shown_by_call = refl

-- A charge is an item once it is stored, and then it is in hand. It is not before. A full centre stores none.
pub charge_is_stored :
    ((store_at (holdings 4) (with_call no_calls 0 (Some owing)) 0 (Some owing)).0.items ≡ items.Charge (line 7 0) ∷ [])
    × (lines_in_hand (store_at (holdings 4) (with_call no_calls 0 (Some owing)) 0 (Some owing)).0.ports ≡ line 7 0 ∷ [])
    × (lines_in_hand (Some owing ∷ []) ≡ [])
    × ((store_at (holdings 5) (with_call no_calls 0 (Some owing)) 0 (Some owing)).0.items ≡ [])
charge_is_stored = (refl, refl, refl, refl)

-- a call that ends with a line in hand was stopped, and one without was not
pub stops_with_a_line : (w : World)
    → ((with_stops (record w { stopped = [] }) 2 (Some (record owing { stored = Some Stored }) ∷ Some first_call ∷ [])).stopped
    ≡ record { centre = 2; serial = 7 } ∷ [])
    × ((with_stops (record w { stopped = [] }) 2 (Some owing ∷ None ∷ [])).stopped ≡ [])
stops_with_a_line w = (refl, refl)

-- ---- cuts

-- the record cannot be there before the third call of the disk, and is there after the fourth
pub calls_of_an_append : (MayBeKept 1 true → ⊥) × MayBeKept 2 true × MayBeKept 3 false × (MayBeKept 4 false → ⊥)
calls_of_an_append = (λ may. omega (arith, may), lit≤ tt, lit< tt, λ may. omega (arith, may))

-- a world in which a call owes its charge
abbrev in_debt : World
in_debt = record (start 1 small) { centres = record new_centre { calls = with_call no_calls 0 (Some owing) } ∷ [] }

-- A stop within the store of a charge ends the call. If the line is kept, it is stored, and the call is one that was stopped with it;
-- else there is neither.
pub charge_is_cut : ((step_of_cut in_debt (commands.Store 0 0) true None).1 ≡ outcomes.Kept)
    × ((calls_at (step_of_cut in_debt (commands.Store 0 0) true None).0 0).items ≡ items.Charge (line 7 0) ∷ [])
    × ((step_of_cut in_debt (commands.Store 0 0) true None).0.stopped ≡ record { centre = 0; serial = 7 } ∷ [])
    × (call_at (step_of_cut in_debt (commands.Store 0 0) true None).0 0 0 ≡ None)
    × ((step_of_cut in_debt (commands.Store 0 0) false None).1 ≡ outcomes.Lost)
    × ((calls_at (step_of_cut in_debt (commands.Store 0 0) false None).0 0).items ≡ [])
    × ((step_of_cut in_debt (commands.Store 0 0) false None).0.stopped ≡ [])
    × (call_at (step_of_cut in_debt (commands.Store 0 0) false None).0 0 0 ≡ None)
charge_is_cut = (refl, refl, refl, refl, refl, refl, refl, refl)

-- a world in which a record was sent that the centre has not applied
abbrev under_way : Record → World
under_way edit = (step_of_send (record (start 1 small) { update = with_record (empty_list small) edit }) 0).0

-- a stop within a delivery leaves the record applied or not, and no acknowledgement either way
pub delivery_is_cut : (edit : Record) → ((centre_at (step_of_cut (under_way edit) (commands.Deliver 0 0) true None).0 0).applied ≡ 1)
    × ((link_at (step_of_cut (under_way edit) (commands.Deliver 0 0) true None).0 0).up ≡ [])
    × ((centre_at (step_of_cut (under_way edit) (commands.Deliver 0 0) false None).0 0).applied ≡ 0)
    × ((step_of_cut (under_way edit) (commands.Deliver 0 1) true None).1 ≡ outcomes.NotStored)
delivery_is_cut edit = (refl, refl, refl, refl)

-- ---- replies

-- A and Z are capital letters, and the codes on either side are not
abbrev IsCapital : ℕ → Type 0
IsCapital code = IsInRange first_capital last_capital code

capitals : IsCapital 65 × IsCapital 90 × (IsCapital 64 → ⊥) × (IsCapital 91 → ⊥)
capitals = ((lit≤ tt, lit≤ tt), (lit≤ tt, lit≤ tt), (λ is. omega (arith, is.0)), (λ is. omega (arith, is.1)))
