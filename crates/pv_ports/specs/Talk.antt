-- A call at a caller's port: what happens at its seat, what its pass has seen each time, and what the caller is sent.
use Rattle.std.specs.Prelude.{◌≡◌, ℕ, ◌+◌, ◌-◌, ◌^◌, ◌==◌, not, ◌&&◌, min, nat_lt, List, [], ◌∷◌, ◌++◌, length, Option, Some, is_some, IfSome, if◌then◌else◌}
use mathlib.Core.List.{IsPrefix}
use Rattle.pv_outside.specs.declared.limits.Limits.{Limits}
use Rattle.pv_node.specs.declared.rules.Rules as rules
use Rattle.pv_node.specs.declared.decision.Told.{Told}
use Rattle.pv_edits.specs.Sight.{View, sight_of}
use Rattle.pv_irc.specs.History.{CentreState, letters_for}
use Rattle.pv_irc.specs.declared.record.CentreRecord.{CentreRecord}
use Rattle.pv_irc.specs.declared.reply.IrcReply.{IrcReply}
use Rattle.pv_irc.specs.declared.request.IrcRequest.{IrcRequest}
use Rattle.pv_live.specs.Asking.{HasAsked, IsFullFor}
use Rattle.pv_live.specs.Entries.{with_opening}
use Rattle.pv_live.specs.Pass.{Standing}
use Rattle.pv_live.specs.Run.{IsStateOf}
use Rattle.pv_screen.specs.Painting.{screen_bytes}
use Rattle.pv_session.specs.Messages.{screen_of_blank}
use Rattle.pv_session.specs.State.{CallState, new_call, wish_in}
use Rattle.pv_session.specs.Charging.{IsStorable}
use Rattle.pv_session.specs.Seat.{state_of}
use Rattle.pv_session.specs.declared.seat.Seat.{Seat}
use Rattle.pv_session.specs.Turns.{Goes, IsTurn, CanBeShown, storing_turn, full_turn}
use Rattle.pv_session.specs.declared.step.Phase.TheVariants.{Listening}
use Rattle.pv_session.specs.declared.message.Message.TheVariants.{KeyAccount}
use Rattle.pv_session.specs.declared.step.Step.{Step}
use Rattle.pv_session.specs.declared.step.Step.TheVariants as steps
use Rattle.pv_session.specs.declared.step.Wish.{Wish}
use Rattle.pv_session.specs.declared.step.Wish.TheVariants as wishes
use Rattle.pv_charge.specs.Line.{Charge}
use Rattle.pv_live.specs.declared.entry.Entry.{Entry}
use Rattle.pv_irc.specs.declared.record.CentreRecord.TheVariants as records
use Rattle.pv_post.specs.declared.item.Item.TheVariants as items
use Rattle.pv_wishes.specs.Wishes.{request_for, paid_by}
use Rattle.pv_ports.specs.declared.port.TheConstants.{MAX_MARKS}

-- What happens at a port: a byte is taken at a moment; or the centre is asked for what is owed, and this is its answer; or it is full, with
-- this many records, and the call ends.
pub data Happening : Type 0 where
  KeyTaken : ℕ → ℕ → Happening
  WishAnswered : Wish → Told IrcReply → Happening
  TurnedAway : ℕ → Happening

-- the keys taken, the bytes that are sent, and how many records the pass had seen at each entry
pub record Talked : Type 0 where
  pub keys : List ℕ
  pub sent : List ℕ
  pub marks : List ℕ

-- what is sent first
abbrev pub first_talked : Talked
first_talked = record { keys = []; sent = screen_bytes (screen_of_blank KeyAccount); marks = [] }

-- the bytes of the screen of a step
abbrev pub step_bytes : Step → List ℕ
step_bytes steps.Quiet = []
step_bytes (steps.Show screen) = screen_bytes screen
step_bytes (steps.Owe wish) = []
step_bytes (steps.Ended why screen) = screen_bytes screen

-- the key of a happening, if it is one
abbrev pub keys_in : Happening → List ℕ
keys_in (KeyTaken byte moment) = byte ∷ []
keys_in (WishAnswered wish told) = []
keys_in (TurnedAway count) = []

-- a mark is noted at an entry, up to as many as there is room for
abbrev pub marks_with : ℕ → ℕ → ℕ → List ℕ → List ℕ
marks_with before after mark marks = if not (before == after) && nat_lt (length marks) MAX_MARKS then marks ++ mark ∷ [] else marks

-- the marks after a happening, by the entries that were keyed before and after it
abbrev pub marks_after : Happening → ℕ → ℕ → ℕ → List ℕ → List ℕ
marks_after (KeyTaken byte moment) before after mark marks = marks_with before after mark marks
marks_after (WishAnswered wish told) before after mark marks = marks
marks_after (TurnedAway count) before after mark marks = marks

-- what the caller whose call this is may see at a state
abbrev pub shown_by : CentreState → CallState → View
shown_by state call = sight_of state.edits (letters_for state) state.centre call.account

-- at a state the seat takes the byte, with what its caller may see there; what comes of it can be shown and stored
pub record TurnsAt (state : CentreState) (seat : Seat) (byte moment : ℕ) (after : Seat) (step : Step) : Type 0 where
  pub turns : IsTurn (state_of seat) byte (shown_by state (state_of seat)) moment (state_of after) step
  pub cells : CanBeShown step
  pub valid : IsStorable step

-- a pass has looked: it has seen what it had seen, and perhaps more
pub record PassLooks {Rec : Type 0} (old new : Standing Rec) : Type 0 where
  pub prefix : IsPrefix old.seen new.seen
  pub same : new ≡ record old { seen = new.seen; looks = min (old.looks + 1) (2 ^ 64 - 1) }

-- a pass has asked: it has seen what it had seen, and perhaps more
pub record PassAsks {Rec : Type 0} (old new : Standing Rec) : Type 0 where
  pub prefix : IsPrefix old.seen new.seen
  pub same : new ≡ record old { seen = new.seen; told = new.told; failed = new.failed }

-- the charge that was stored, if one was
abbrev pub charge_of_wish : Wish → List Charge
charge_of_wish (wishes.LogOn account) = []
charge_of_wish (wishes.Charge charge) = charge ∷ []
charge_of_wish (wishes.Post item) = []
charge_of_wish (wishes.Remove account number) = []

abbrev pub charges_at : Happening → List Charge
charges_at (KeyTaken byte moment) = []
charges_at (WishAnswered wish told) = charge_of_wish wish
charges_at (TurnedAway count) = []

-- the charges of a call, in order: its happenings are given the last first
abbrev pub charges_of : List Happening → List Charge
charges_of [] = []
charges_of (happening ∷ earlier) = charges_of earlier ++ charges_at happening

-- how many records replies say are stored
abbrev pub stored_at : Happening → ℕ
stored_at (KeyTaken byte moment) = 0
stored_at (WishAnswered wish told) = if is_some told.number then 1 else 0
stored_at (TurnedAway count) = 0

abbrev pub stored_count : List Happening → ℕ
stored_count [] = 0
stored_count (happening ∷ earlier) = stored_count earlier + stored_at happening

-- the charge has a record among those that were seen
pub record HasRecord (seen : List (Entry CentreRecord)) (charge : Charge) : Type 0 where
  pub before : List (Entry CentreRecord)
  pub entry : Entry CentreRecord
  pub after : List (Entry CentreRecord)
  pub split : seen ≡ before ++ entry ∷ after
  pub is : entry.rec ≡ records.Kept (items.Charge charge)

-- what was talked, after a happening
abbrev pub talked_after : List CentreRecord → Happening → ℕ → ℕ → Standing CentreRecord → Step → Talked → Talked
talked_after opening happening before after pass step talked = record {
  keys = talked.keys ++ keys_in happening;
  sent = talked.sent ++ step_bytes step;
  marks = marks_after happening before after (length opening + length pass.seen) talked.marks;
}

module _ {S : Type 0} (r : rules.Ghosts S CentreState IrcRequest CentreRecord IrcReply) (limits : Limits) (opening : List CentreRecord) where
  -- a byte is keyed at a moment, and taken with what the caller may see at the records that the pass has seen then
  pub record AnswersKey (old : Standing CentreRecord) (call : CallState) (byte moment : ℕ) (new : Standing CentreRecord) (after : CallState)
      (step : Step) : Type 0 where
    pub state : CentreState
    pub stands : IsStateOf r limits state (with_opening opening new.seen)
    pub turns : IsTurn call byte (shown_by state call) moment after step
    pub looks : PassLooks old new

  -- what is owed is asked for, and the call goes on with what is told
  pub record StoresWish (old : Standing CentreRecord) (call : CallState) (wish : Wish) (told : Told IrcReply) (new : Standing CentreRecord) (after : CallState)
      (step : Step) : Type 0 where
    pub owed : wish_in call.phase ≡ Some wish
    pub asked : HasAsked r limits opening (request_for wish) old new told
    pub asks : PassAsks old new
    pub not_failed : new.failed ≡ old.failed
    pub goes : Goes (storing_turn call call.phase (paid_by told.reply)) after step

  -- what is owed is asked for, and the centre is full
  pub record IsTurnedAway (old : Standing CentreRecord) (call : CallState) (count : ℕ) (new : Standing CentreRecord) (after : CallState)
      (step : Step) : Type 0 where
    pub wish : Wish
    pub owed : wish_in call.phase ≡ Some wish
    pub full : IsFullFor r limits opening (request_for wish) new count
    pub asks : PassAsks old new
    pub not_told : new.told ≡ old.told
    pub not_failed : new.failed ≡ old.failed
    pub goes : Goes (full_turn call call.phase) after step

  -- What happens, by a clock that shows this moment, if it can report one. A byte is taken by a call that owes nothing and is not over.
  abbrev pub ComesAbout : Option ℕ → Standing CentreRecord → CallState → Happening → Standing CentreRecord → CallState → Step → Type 0
  ComesAbout shown old call (KeyTaken byte moment) new after step =
      (call.phase ≡ Listening) × AnswersKey old call byte moment new after step × IfSome shown (λ m. moment ≡ m)
  ComesAbout shown old call (WishAnswered wish told) new after step = StoresWish old call wish told new after step
  ComesAbout shown old call (TurnedAway count) new after step = IsTurnedAway old call count new after step

  -- A whole call since its dial: what happened, the last first. Each thing happened with what the pass had seen then, which only grows.
  -- The last step was this, and this was talked.
  abbrev pub IsTalk : Option ℕ → List Happening → Standing CentreRecord → Standing CentreRecord → CallState → Step → Talked → Type 0
  IsTalk shown [] start pass call step talked = (pass ≡ start) × (call ≡ new_call) × (step ≡ steps.Quiet) × (talked ≡ first_talked)
  IsTalk shown (happening ∷ earlier) start pass call step talked =
      (old : Standing CentreRecord) × (before : CallState) × (last : Step) × (first : Talked) × IsTalk shown earlier start old before last first
      × ComesAbout shown old before happening pass call step
      × (talked ≡ talked_after opening happening before.entries call.entries pass step first)

  -- some call came to this
  pub record Talks (shown : Option ℕ) (start pass : Standing CentreRecord) (call : CallState) (step : Step) (talked : Talked) : Type 0 where
    pub happened : List Happening
    pub talk : IsTalk shown happened start pass call step talked
