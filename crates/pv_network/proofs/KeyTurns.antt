-- A key at a seat, with the entry that it makes.
use Rattle.std.proofs.Common.{ℕ, Bool, true, false, cond, Option, None, refl}
use Rattle.pv_edits.specs.Sight.{View}
use Rattle.pv_session.specs.declared.entry.Entry.{Entry}
use Rattle.pv_session.specs.declared.message.Message.TheVariants.{CallEnded}
use Rattle.pv_session.specs.declared.step.Phase.{Phase}
use Rattle.pv_session.specs.declared.step.Phase.TheVariants.{Listening, Owing, Over}
use Rattle.pv_session.specs.declared.step.Step.{Step}
use Rattle.pv_session.specs.declared.step.Why.TheVariants.{Spent}
use Rattle.pv_session.specs.Fetching.{ending_turn}
use Rattle.pv_session.specs.State.{CallState}
use Rattle.pv_session.specs.Turns.{Goes, Listens, IsTurnIn, IsTurn, is_spent, byte_turn}
use Rattle.pv_network.specs.Call.{IsEntryUnless, IsEntryIn, IsEntryAt, key_turn, key_turn_in}

module _ (seat after : CallState) (byte : ℕ) (view : View) (moment : ℕ) (step : Step) where
  -- the turn of a seat that listens
  abbrev listening : Bool → Option Entry → CallState × Step
  listening spent entry = cond spent (ending_turn seat Spent CallEnded) (byte_turn seat byte view moment entry)

  listens_by : (spent : Bool) → Listens spent seat byte view moment after step
      → (entry : Option Entry) × IsEntryUnless spent seat byte entry × Goes (listening spent entry) after step
  listens_by true goes = (None, tt, goes)
  listens_by false hears = (hears.entry, hears.says, hears.goes)

  turns_by : (phase : Phase) → IsTurnIn phase seat byte view moment after step
      → (entry : Option Entry) × IsEntryIn phase seat byte entry × Goes (key_turn_in phase seat byte view moment entry) after step
  turns_by Listening turns = listens_by (is_spent seat) turns
  turns_by (Owing wish) goes = (None, tt, goes)
  turns_by Over goes = (None, tt, goes)

  -- a turn is that of some entry
  pub turn_by_entry : IsTurn seat byte view moment after step
      → (entry : Option Entry) × IsEntryAt seat byte entry × Goes (key_turn seat byte view moment entry) after step
  turn_by_entry turns = turns_by seat.phase turns

-- the turn of an entry that the byte makes is one of the seat
pub entry_turns : (seat : CallState) (byte : ℕ) (view : View) (moment : ℕ) (entry : Option Entry) → IsEntryAt seat byte entry
    → IsTurn seat byte view moment (key_turn seat byte view moment entry).0 (key_turn seat byte view moment entry).1
entry_turns seat byte view moment entry says = by seat.phase says
  where
    listens : (spent : Bool) → IsEntryUnless spent seat byte entry
        → Listens spent seat byte view moment (cond spent (ending_turn seat Spent CallEnded) (byte_turn seat byte view moment entry)).0
        (cond spent (ending_turn seat Spent CallEnded) (byte_turn seat byte view moment entry)).1
    listens true says = record { after_is = refl; step_is = refl }
    listens false says = record { entry = entry; says = says; goes = record { after_is = refl; step_is = refl } }

    by : (phase : Phase) → IsEntryIn phase seat byte entry
        → IsTurnIn phase seat byte view moment (key_turn_in phase seat byte view moment entry).0
        (key_turn_in phase seat byte view moment entry).1
    by Listening says = listens (is_spent seat) says
    by (Owing wish) says = record { after_is = refl; step_is = refl }
    by Over says = record { after_is = refl; step_is = refl }
