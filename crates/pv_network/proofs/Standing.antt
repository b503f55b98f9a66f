-- How the parts of a network stand for the parts of a world, and what a part that is replaced leaves as it was.
use Rattle.std.proofs.Common.{◌≡◌, ℕ, ◌+◌, ◌<◌, Bool, List, [], ◌∷◌, ◌++◌, length, get_or, set, take, Option, Some, None, refl, sym, ap, subst, ◌∙◌, arith, inl, inr}
use Rattle.std.proofs.lemmas.List.{length-set, take-append-le, length-append}
use Rattle.std.proofs.lemmas.Option.{slice_get_read}
use Rattle.pv_outside.specs.declared.limits.Limits.{Limits}
use Rattle.pv_edits.specs.declared.record.Record.{Record}
use Rattle.pv_irc.specs.History.{state_count}
use Rattle.pv_udc.specs.EditList.{EditList, empty_list, with_record}
use Rattle.pv_editor.specs.declared.replies.UdcReplyView.{UdcReplyView}
use Rattle.pv_editor.specs.declared.replies.UdcReplyView.TheVariants.{Stored, Refused}
use Rattle.pv_network.specs.Centre.{Centre, Held, CentreStands, CentresStand, AreNew, new_centre, calls_of, record_count, state_of_prefix}
use Rattle.pv_traffic.specs.Link.{Link}
use Rattle.pv_editor.specs.declared.seat.EditorSeat.{EditorSeat}
use Rattle.pv_nodes.specs.OnDisk.{OnDisk, UpdateIsOnDisk, list_with}
use Rattle.pv_network.specs.World.{World, StoppedCall, with_seat, centre_at, with_centre, with_link, with_edit, with_receipt}
use Rattle.pv_network.specs.Charging.{IsChargedWorld}
use Rattle.pv_network.specs.declared.outcome.BillLine.{BillLine}
use Rattle.pv_network.specs.Sound.{IsSound}
use Rattle.pv_network.specs.Standing.{State, StandsFor}
use Rattle.pv_network.proofs.Soundness.{sound_seat, sound_clock}
use Rattle.pv_network.proofs.Lists.{set_both, get_push}

-- ---- a centre: all that the network cites

module _ (u : EditList) (c : ℕ) (here : Held) (centre : Centre) (stands : CentreStands u c here centre) where
  -- its calls are the world's
  pub calls_are : calls_of here ≡ centre.calls
  calls_are = λ i. record {
    log_ons = (stands.state i).log_ons;
    items = (stands.state i).items;
    removals = (stands.state i).removals;
    ports = stands.ports i;
  }

  -- it has as many records in all
  pub held_there : state_count here.node.state ≡ record_count centre
  held_there = ap state_count stands.state ∙ omega arith

  -- it stands for the same prefix as the list grows
  pub centre_longer : (edit : Record) → CentreStands (with_record u edit) c here centre
  centre_longer edit =
      let same : take centre.applied (u.records ++ edit ∷ []) ≡ take centre.applied u.records =
      take-append-le centre.applied u.records (edit ∷ []) stands.within in
      record {
        within = omega (arith, stands.within, length-append u.records (edit ∷ []));
        state = stands.state ∙ ap (λ (prefix : List Record). state_of_prefix c u.limits centre prefix) (sym same);
        on_disk = stands.on_disk;
        ports = stands.ports;
      }

-- ---- centres that nothing has reached

pub none_new : (limits : Limits) → AreNew limits 0 []
none_new limits = record { count_is = refl; each = λ c held is. absurd cc }

-- one more, under the next number
pub one_more_new : (limits : Limits) (count : ℕ) (here : List Held) (held : Held) → AreNew limits count here
    → CentreStands (empty_list limits) count held new_centre → AreNew limits (count + 1) (here ++ held ∷ [])
one_more_new limits count here held are is = record {
  count_is = omega (arith, length-append here (held ∷ []), are.count_is);
  each = λ c one at. elim (get_push here held c one at) [
    | inl before ↦ are.each c one before
    | inr last ↦
        let number : count ≡ c = sym (last.0 ∙ are.count_is) in
        subst (λ (h : Held). CentreStands (empty_list limits) c h new_centre) last.1
        (subst (λ (n : ℕ). CentreStands (empty_list limits) n held new_centre) number is)
  ];
}

-- ---- the network

module _ (s : State) (w : World) (stands : StandsFor s w) where
  -- it stands for the same world whether it is out of memory or not
  pub out_stands : (out : Bool) → StandsFor (record s { is_out = out }) w
  out_stands out = record {
    sound = stands.sound;
    charged = stands.charged;
    update = stands.update;
    on_disk = stands.on_disk;
    moment = stands.moment;
    seats = stands.seats;
    centres = stands.centres;
    links = stands.links;
  }

  -- the centres stand for the same with one more record in the list
  longer : (edit : Record) → CentresStand (with_record w.update edit) s.centres w.centres
  longer edit = record {
    count = stands.centres.count;
    each = λ c held is. centre_longer w.update c held _ (stands.centres.each c held is) edit;
  }

  -- Another Update Centre, which has stored what the world's stored and has its list on its disk, leaves all else standing,
  -- whatever is acknowledged.
  module _ (here : OnDisk EditList) (on_disk : UpdateIsOnDisk here) where
    -- the network with it
    abbrev with_update : State
    with_update = record s { update = here.state; disk = here.disk }

    pub edit_stands : (stored : Option Record) → here.state ≡ list_with w.update stored → IsSound (with_edit w stored)
        → StandsFor with_update (with_edit w stored)
    edit_stands None is sound =
        record {
          sound = sound;
          charged = stands.charged;
          update = is;
          on_disk = on_disk;
          moment = stands.moment;
          seats = stands.seats;
          centres = stands.centres;
          links = stands.links;
        }
    edit_stands (Some edit) is sound =
        record {
          sound = sound;
          charged = stands.charged;
          update = is;
          on_disk = on_disk;
          moment = stands.moment;
          seats = stands.seats;
          centres = longer edit;
          links = stands.links;
        }

    pub request_stands : (editor q : ℕ) (stored : Option Record) (reply : UdcReplyView) → here.state ≡ list_with w.update stored
        → IsSound (with_receipt (with_edit w stored) editor q reply)
        → StandsFor with_update (with_receipt (with_edit w stored) editor q reply)
    request_stands editor q None (Stored place) is sound =
        record {
          sound = sound;
          charged = stands.charged;
          update = is;
          on_disk = on_disk;
          moment = stands.moment;
          seats = stands.seats;
          centres = stands.centres;
          links = stands.links;
        }
    request_stands editor q None (Refused code shown) is sound =
        record {
          sound = sound;
          charged = stands.charged;
          update = is;
          on_disk = on_disk;
          moment = stands.moment;
          seats = stands.seats;
          centres = stands.centres;
          links = stands.links;
        }
    request_stands editor q (Some edit) (Stored place) is sound =
        record {
          sound = sound;
          charged = stands.charged;
          update = is;
          on_disk = on_disk;
          moment = stands.moment;
          seats = stands.seats;
          centres = longer edit;
          links = stands.links;
        }
    request_stands editor q (Some edit) (Refused code shown) is sound =
        record {
          sound = sound;
          charged = stands.charged;
          update = is;
          on_disk = on_disk;
          moment = stands.moment;
          seats = stands.seats;
          centres = longer edit;
          links = stands.links;
        }

  -- another moment leaves all else standing
  pub clock_shows : (moment : ℕ) → StandsFor (record s { moment = moment }) (record w { moment = moment })
  clock_shows moment = record {
    sound = sound_clock w moment stands.sound;
    charged = stands.charged;
    update = stands.update;
    on_disk = stands.on_disk;
    moment = refl;
    seats = stands.seats;
    centres = stands.centres;
    links = stands.links;
  }

  -- another seat in the place of one leaves all else standing
  pub seat_replaced : (port : ℕ) (seats : List EditorSeat) (seat : EditorSeat) → seats ≡ set w.seats port seat
      → StandsFor (record s { seats = seats }) (with_seat w port seat)
  seat_replaced port seats seat is = record {
    sound = sound_seat w port seat stands.sound;
    charged = stands.charged;
    update = stands.update;
    on_disk = stands.on_disk;
    moment = stands.moment;
    seats = is;
    centres = stands.centres;
    links = stands.links;
  }

  module _ (c : ℕ) where
    -- a centre that is read stands for the world's
    pub centre_stands : (here : Held) → c < length s.centres → here ≡ get_or s.centres c here → CentreStands w.update c here (centre_at w c)
    centre_stands here there read = stands.centres.each c here (slice_get_read s.centres (length s.centres) c here refl there read)

    -- another centre in the place of one leaves all others standing, whatever callers were shown and whichever calls were stopped
    pub centre_replaced : (here : Held) (centre : Centre) (shown : List BillLine) (stopped : List StoppedCall)
        → CentreStands w.update c here centre → IsSound (record (with_centre w c centre) { shown = shown; stopped = stopped })
        → IsChargedWorld (record (with_centre w c centre) { shown = shown; stopped = stopped })
        → StandsFor (record s { centres = set s.centres c here }) (record (with_centre w c centre) { shown = shown; stopped = stopped })
    centre_replaced here centre shown stopped is sound charged = record {
      sound = sound;
      charged = charged;
      update = stands.update;
      on_disk = stands.on_disk;
      moment = stands.moment;
      seats = stands.seats;
      centres = record {
        count = length-set s.centres c here ∙ stands.centres.count ∙ sym (length-set w.centres c centre);
        each = set_both (CentreStands w.update) s.centres w.centres c here centre new_centre stands.centres.count stands.centres.each is;
      };
      links = stands.links;
    }

    -- another link in the place of one leaves all else standing
    pub link_replaced : (links : List Link) (link : Link) → links ≡ set w.links c link → IsSound (with_link w c link)
        → StandsFor (record s { links = links }) (with_link w c link)
    link_replaced links link is sound = record {
      sound = sound;
      charged = stands.charged;
      update = stands.update;
      on_disk = stands.on_disk;
      moment = stands.moment;
      seats = stands.seats;
      centres = stands.centres;
      links = is;
    }
