use Rattle.std.proofs.Common.{◌≡◌, ◌+◌, ◌++◌, Some, None, refl, ap, subst, ◌∙◌}
use Rattle.pv_words.specs.Parts.{Exactly}
use Rattle.pv_edits.specs.Sight.{view_of}
use Rattle.pv_session.specs.Entries.{IsEntry, mode_keys, kept_keys}
use Rattle.pv_session.specs.Reading.{mode_of, keys_so_far}
use Rattle.pv_session.specs.Seat.{state_of}
use Rattle.pv_session.specs.State.{CallState}
use Rattle.pv_session.specs.Turns.{Goes, entry_turn, reading_call, call_at_entry}
use Rattle.pv_session.proofs.Leaving.{left_counted}
use Rattle.pv_session.proofs.seat.Seat.hear.Goals as goal
use Rattle.pv_session.proofs.seat.Seat.hear.Goals.{After-take}

-- the call at which the byte is read, which counts it
abbrev reading : After-take → CallState
reading c = reading_call (state_of c.args.self.now) c.args.byte

counted : (c : After-take) → state_of c.leave.new.self ≡ record (reading c) { bytes = (reading c).bytes + 1 }
counted c = c.leave.ensures.call ∙ left_counted (state_of c.args.self.now) c.args.byte

-- an entry is made
pub returns-in-Some : goal.returns-in-Some
returns-in-Some c =
    let taken = (goal.at.returns-in-Some c).After-take in
    let view = view_of c.args.sight.now in
    let byte = c.args.byte in
    let entry = c.in-Some.entry in
    let at_entry : record (state_of c.leave.new.self) {
      mode = mode_of c.take.new.self;
      keyed = keys_so_far c.take.new.self;
      entries = c.leave.new.self.entries + 1;
    } ≡ call_at_entry (reading taken) = (λ i. record (counted taken i) {
      mode = (c.in-Some.ensures.mode ∙ ap (λ (call : CallState). call.mode) (counted taken)) i;
      keyed = c.in-Some.ensures.keys i;
      entries = (counted taken i).entries + 1;
    }) in record {
      entry = Some entry;
      says = subst (λ (call : CallState). Exactly (IsEntry call.mode (call.keyed ++ mode_keys call.mode byte)) (Some entry)) (counted taken)
          c.in-Some.ensures.entry;
      goes = subst (λ (call : CallState). Goes (entry_turn call view c.args.moment entry) (state_of c.enter.new.self) c.enter.result)
          at_entry c.enter.ensures;
    }

-- none is made, and the keys are kept
pub returns-in-None : goal.returns-in-None
returns-in-None c =
    let taken = (goal.at.returns-in-None c).After-take in
    let byte = c.args.byte in record {
      entry = None;
      says = subst (λ (call : CallState). Exactly (IsEntry call.mode (call.keyed ++ mode_keys call.mode byte)) None) (counted taken)
          c.in-None.ensures.entry;
      goes = record {
        after_is = λ i. record (counted taken i) {
          mode = (c.in-None.ensures.mode ∙ ap (λ (call : CallState). call.mode) (counted taken)) i;
          keyed = (c.in-None.ensures.keys
              ∙ ap (λ (call : CallState). kept_keys call.mode (call.keyed ++ mode_keys call.mode byte)) (counted taken)) i;
        };
        step_is = refl;
      };
    }
