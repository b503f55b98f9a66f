-- A packet that is given or read, and a round put together of its looks and its stages.
use Rattle.std.proofs.Common.{◌≡◌, ℕ, false, List, Option, Some, None, refl, ap, sym, ◌∙◌, subst}
use Rattle.std.specs.Prelude.{take, unwrap_or}
use Rattle.pv_outside.specs.declared.limits.Limits.{Limits}
use Rattle.pv_outside.specs.declared.link.Link as links
use Rattle.pv_node.specs.declared.rules.Rules as rules
use Rattle.pv_edits.specs.declared.record.Record.{Record}
use Rattle.pv_irc.specs.History.{CentreState}
use Rattle.pv_irc.specs.declared.record.CentreRecord.{CentreRecord}
use Rattle.pv_irc.specs.declared.reply.IrcReply.{IrcReply}
use Rattle.pv_irc.specs.declared.request.IrcRequest.{IrcRequest}
use Rattle.pv_link.specs.Sending.{SendingEnd}
use Rattle.pv_live.specs.Pass.{Standing}
use Rattle.pv_live.specs.declared.fault.LiveFault.{LiveFault}
use Rattle.pv_live.specs.declared.fault.LiveFault.TheVariants as faults
use Rattle.pv_packet.specs.Packet.{IsPacket, packet_bytes, centre_of}
use Rattle.pv_packet.specs.Reading.{packet_of_bytes}
use Rattle.pv_packet.specs.declared.packet.Packet.{Packet}
use Rattle.pv_udc.specs.EditList.{EditList}
use Rattle.pv_udc.specs.declared.reply.UdcReply.{UdcReply}
use Rattle.pv_udc.specs.declared.request.UdcRequest.{UdcRequest}
use Rattle.pv_ports.specs.Parcels.{BeginsWithPacket}
use Rattle.pv_ports.specs.Round.{Stop, Round, round_at, GivesTo, IsReadAs, LooksDown, LooksUp, Carries, IsRound, ask_stop, end_of_trip}
use Rattle.pv_ports.specs.Session.{ask_fault}
use Rattle.pv_ports.specs.declared.trip.Trip.{Trip}

-- the stop does not depend on which failure of the disk it was
pub same_stop : {D F : Type 0} (node : ℕ) (fault : LiveFault D F) → ask_stop node fault ≡ ask_stop node (ask_fault fault)
same_stop node (faults.Memory stored) = refl
same_stop node (faults.Disk failure) = refl
same_stop node (faults.Full count) = refl

-- what is acknowledged is given, by the trip that counted the reply
pub answered_to : {L : Type 0} (k : links.Ghosts L) (packet other : Option Packet) (old new : L) (trip counted after : Trip)
    (stop : Option Stop) → packet ≡ other → trip ≡ counted → GivesTo k packet old trip new after stop
    → GivesTo k other old counted new after stop
answered_to k packet other old new trip counted after stop same_packet same_trip is =
    subst (λ (p : Option Packet). GivesTo k p old counted new after stop) same_packet
    (subst (λ (t : Trip). GivesTo k packet old t new after stop) same_trip is)

-- what a buffer holds is given, if it holds a packet
pub given_if : {L : Type 0} (k : links.Ghosts L) (packet : Option Packet) (bytes : List ℕ) (size : Option ℕ) (n : ℕ) (old new : L)
    (trip after : Trip) (stop : Option Stop) → size ≡ Some n → BeginsWithPacket bytes size packet
    → ((one : Packet) → IsPacket one → take n bytes ≡ packet_bytes one → GivesTo k (Some one) old trip new after stop)
    → GivesTo k packet old trip new after stop
given_if k packet bytes size n old new trip after stop some spelled gives =
    by packet (subst (λ (s : Option ℕ). BeginsWithPacket bytes s packet) some spelled)
  where
    by : (p : Option Packet) → BeginsWithPacket bytes (Some n) p → GivesTo k p old trip new after stop
    by (Some one) is = gives one is.1 is.2
    by None is = absurd is

-- bytes that spell a packet of another centre spell none of this one
pub of_another : (reads : (packet : Packet) → IsPacket packet → packet_of_bytes (packet_bytes packet) ≡ Some packet) (C : ℕ)
    (bytes : List ℕ) (packet : Packet) → IsPacket packet → bytes ≡ packet_bytes packet → (centre_of packet ≡ C → ⊥)
    → IsReadAs C bytes None
of_another reads C bytes packet ranges is away = λ other other_ranges same own.
    let one : Some packet ≡ Some other =
    sym (reads packet ranges) ∙ ap packet_of_bytes (sym is ∙ same) ∙ reads other other_ranges in
    away (ap (λ (p : Option Packet). centre_of (unwrap_or p packet)) one ∙ own)

module _ {SU SC L : Type 0} (u : rules.Ghosts SU EditList UdcRequest Record UdcReply)
    (c : rules.Ghosts SC CentreState IrcRequest CentreRecord IrcReply) (k : links.Ghosts L) (udc_limits centre_limits : Limits)
    (udc_opening : List Record) (centre_opening : List CentreRecord) (C : ℕ) where
  -- the trip is begun, both nodes are looked at, and the stages follow
  pub round_of : (old_udc udc ready_udc : Standing Record) (old_centre looked_centre centre : Standing CentreRecord)
      (old begun looked ready : Trip) (going_down going_up : Option Packet) (down up : L) (last : Round L) (stop : Option Stop) (end : Stop)
      → begun ≡ record old { moved = false; applied = 0; taken_up = 0 }
      → LooksDown u udc_limits udc_opening C old_udc begun.sending udc looked.sending looked.record_count going_down
      → looked_centre ≡ old_centre
      → looked ≡ record begun { sending = looked.sending; record_count = looked.record_count }
      → LooksUp c centre_limits centre_opening C looked_centre looked.posting centre ready.posting ready.item_count going_up
      → ready_udc ≡ udc
      → ready ≡ record looked { posting = ready.posting; item_count = ready.item_count }
      → Carries u c k udc_limits centre_limits udc_opening centre_opening C going_down going_up (round_at ready_udc centre ready down up)
      last stop
      → end ≡ unwrap_or stop (end_of_trip last.trip)
      → IsRound u c k udc_limits centre_limits udc_opening centre_opening C
      (record { udc = old_udc; centre = old_centre; sending = old.sending; posting = old.posting }) down up
      (record { udc = last.udc; centre = last.centre; sending = last.trip.sending; posting = last.trip.posting }) last.down last.up end
  round_of old_udc udc ready_udc old_centre looked_centre centre old begun looked ready going_down going_up down up last stop end begins
      looks_down same_centre first looks_up same_udc second carries ends =
      record {
        first = round_at ready_udc centre ready down up;
        last = last;
        going_down = going_down;
        going_up = going_up;
        looks_down =
            subst (λ (e : SendingEnd). LooksDown u udc_limits udc_opening C old_udc e ready_udc ready.sending ready.record_count going_down)
            (ap (λ (t : Trip). t.sending) begins)
            (subst (λ (p : Standing Record). LooksDown u udc_limits udc_opening C old_udc begun.sending p ready.sending
            ready.record_count going_down)
            (sym same_udc)
            (subst (λ (e : SendingEnd). LooksDown u udc_limits udc_opening C old_udc begun.sending udc e ready.record_count going_down)
            (sym (ap (λ (t : Trip). t.sending) second))
            (subst (λ (n : ℕ). LooksDown u udc_limits udc_opening C old_udc begun.sending udc looked.sending n going_down)
            (sym (ap (λ (t : Trip). t.record_count) second)) looks_down)));
        looks_up =
            subst (λ (p : Standing CentreRecord). LooksUp c centre_limits centre_opening C p old.posting centre ready.posting
            ready.item_count going_up)
            same_centre
            (subst (λ (e : SendingEnd). LooksUp c centre_limits centre_opening C looked_centre e centre ready.posting ready.item_count
            going_up)
            (ap (λ (t : Trip). t.posting) first ∙ ap (λ (t : Trip). t.posting) begins) looks_up);
        begins = (
          ap (λ (t : Trip). t.moved) second ∙ ap (λ (t : Trip). t.moved) first ∙ ap (λ (t : Trip). t.moved) begins,
          ap (λ (t : Trip). t.applied) second ∙ ap (λ (t : Trip). t.applied) first ∙ ap (λ (t : Trip). t.applied) begins,
          ap (λ (t : Trip). t.taken_up) second ∙ ap (λ (t : Trip). t.taken_up) first ∙ ap (λ (t : Trip). t.taken_up) begins,
        );
        old_links = (refl, refl);
        stop = stop;
        carries = carries;
        state = refl;
        new_links = (refl, refl);
        ends = ends;
      }
