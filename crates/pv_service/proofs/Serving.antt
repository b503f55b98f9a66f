-- Lines that are served one after another.
use Rattle.std.proofs.Common.{◌≡◌, ℕ, ◌+◌, ◌<◌, Bool, false, List, [], ◌∷◌, ◌++◌, length, Option, Some, None, refl, ap, sym, ◌∙◌, subst, arith, append_assoc, append-nil, length-append}
use Rattle.std.specs.Prelude.{◌||◌}
use Rattle.std.specs.Option.{option_map}
use Rattle.pv_service.specs.Chain.{IsChain}
use Rattle.pv_service.specs.Doors.{DoorReport, GivesBack, LetsNoneIn}
use Rattle.pv_service.specs.Serving.{Served, lines_in, ServesNext, HasServedSome, HasServed}
use Rattle.pv_service.specs.declared.port_report.PortFault.TheVariants as faults

-- what a door can report, with a connection more
back_more : {L : Type 0} (old : Option (List L)) (earlier : List L) (line : L)
    → option_map (λ (b : List L). b ++ line ∷ []) (option_map (λ (b : List L). b ++ earlier) old)
    ≡ option_map (λ (b : List L). b ++ (earlier ++ line ∷ [])) old
back_more None earlier line = refl
back_more (Some before) earlier line = ap Some (append_assoc before earlier (line ∷ []))

-- and with none
back_same : {L : Type 0} (old : Option (List L)) → old ≡ option_map (λ (b : List L). b ++ []) old
back_same None = refl
back_same (Some before) = ap Some (sym (append-nil before))

-- no connection was given back yet
no_lines : {L : Type 0} (door : DoorReport L) → GivesBack [] door door
no_lines door = record {
  back = back_same door.lines;
  accepted = omega arith;
  finished = omega arith;
  faults = omega arith;
}

-- one more was
line_more : {L : Type 0} (lines : List L) (line : L) (old mid new : DoorReport L) → GivesBack lines old mid
    → GivesBack (line ∷ []) mid new → GivesBack (lines ++ line ∷ []) old new
line_more {L} lines line old mid new earlier last = record {
  back = last.back ∙ ap (option_map (λ (b : List L). b ++ line ∷ [])) earlier.back ∙ back_more old.lines lines line;
  accepted = omega (arith, earlier.accepted, last.accepted, length-append lines (line ∷ []));
  finished = omega (arith, earlier.finished, last.finished, length-append lines (line ∷ []));
  faults = omega (arith, earlier.faults, last.faults);
}

-- none was, since the door failed
line_none : {L : Type 0} (lines : List L) (old mid new : DoorReport L) → GivesBack lines old mid → LetsNoneIn mid new
    → GivesBack lines old new
line_none lines old mid new earlier last = record {
  back = last.back ∙ earlier.back;
  accepted = last.accepted ∙ earlier.accepted;
  finished = last.finished ∙ earlier.finished;
  faults = omega (arith, earlier.faults, last.counted);
}

-- there are as many connections as were served
pub length-lines_in : {L E : Type 0} (served : List (Served L E)) → length (lines_in served) ≡ length served
length-lines_in [] = refl
length-lines_in (last ∷ earlier) =
    omega (arith, length-append (lines_in earlier) (last.line ∷ []), length-lines_in earlier)

module _ {P L E F : Type 0} (Serves : P → Served L E → P → Type 0) (failure_in : E → Option F) (lacked_memory : E → Bool) where
  -- none was served yet
  pub serves_none : (now : P) (door : DoorReport L) → HasServedSome Serves failure_in lacked_memory 0 now door now door false
  serves_none now door = record {
    served = [];
    serves = refl;
    door = no_lines door;
    memory_is = refl;
    goes_on = tt;
    counted = refl;
  }

  module _ (n : ℕ) (old : P) (old_door : DoorReport L) (mid : P) (mid_door : DoorReport L) (memory : Bool)
      (some : HasServedSome Serves failure_in lacked_memory n old old_door mid mid_door memory) where
    -- a door has accepted as many more as were served
    pub accepted_so : mid_door.accepted ≡ old_door.accepted + n
    accepted_so = omega (arith, some.door.accepted, length-lines_in some.served, some.counted)

    -- one more was served
    pub serves_more : (new : P) (new_door : DoorReport L) (end : E) (now : Bool) → ServesNext Serves mid mid_door new new_door end
        → failure_in end ≡ None → now ≡ (memory || lacked_memory end)
        → HasServedSome Serves failure_in lacked_memory (n + 1) old old_door new new_door now
    serves_more new new_door end now next none noted = record {
      served = record { line = next.line; end = end } ∷ some.served;
      serves = (mid, some.serves, next.serves);
      door = line_more (lines_in some.served) next.line old_door mid_door new_door some.door next.door;
      memory_is = noted ∙ ap (λ (b : Bool). b || lacked_memory end) some.memory_is;
      goes_on = (some.goes_on, none);
      counted = omega (arith, some.counted);
    }

    module _ {D : Type 0} (calls : ℕ) where
      -- all were served
      pub ends_with_all : n ≡ calls
          → HasServed Serves failure_in lacked_memory {D = D} calls old old_door mid mid_door (record { memory = memory; fault = None })
      ends_with_all all = record {
        served = some.served;
        serves = some.serves;
        door = some.door;
        memory_is = some.memory_is;
        ends = (some.counted ∙ all, some.goes_on);
      }

      module _ (left : n < calls) (new : P) (new_door : DoorReport L) where
        -- the door let none in
        pub ends_at_door : new ≡ mid → LetsNoneIn mid_door new_door
            → HasServed Serves failure_in lacked_memory {D = D} calls old old_door new new_door
            (record { memory = memory; fault = Some faults.Door })
        ends_at_door same none = record {
          served = some.served;
          serves = subst (λ (p : P). IsChain Serves some.served old p) (sym same) some.serves;
          door = line_none (lines_in some.served) old_door mid_door new_door some.door none;
          memory_is = some.memory_is;
          ends = (omega (arith, left, some.counted), some.goes_on, omega (arith, none.rose, some.door.faults));
        }

        -- the disk failed in the next one
        pub ends_at_disk : (end : E) (failure : F) (now : Bool) → ServesNext Serves mid mid_door new new_door end
            → failure_in end ≡ Some failure → now ≡ (memory || lacked_memory end)
            → HasServed Serves failure_in lacked_memory {D = D} calls old old_door new new_door
            (record { memory = now; fault = Some (faults.Disk failure) })
        ends_at_disk end failure now next failed noted = record {
          served = record { line = next.line; end = end } ∷ some.served;
          serves = (mid, some.serves, next.serves);
          door = line_more (lines_in some.served) next.line old_door mid_door new_door some.door next.door;
          memory_is = noted ∙ ap (λ (b : Bool). b || lacked_memory end) some.memory_is;
          ends = (omega (arith, left, some.counted), (some.goes_on, failed));
        }
