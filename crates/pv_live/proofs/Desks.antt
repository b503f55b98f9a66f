-- What the steps of the node do to a desk.
use Rattle.std.proofs.Common.{◌≡◌, ℕ, ◌+◌, ◌<◌, ◌≤◌, List, [], ◌∷◌, ◌++◌, length, Option, Some, None, IfSome, Result, Ok, Err, refl, ap, sym, ◌∙◌, subst, arith}
use Rattle.pv_outside.specs.declared.limits.Limits.{Limits}
use Rattle.pv_outside.specs.declared.reports.Reports as reports
use Rattle.pv_node.specs.declared.rules.Rules as rules
use Rattle.pv_node.specs.declared.decision.Decision.{Decision}
use Rattle.pv_node.specs.declared.decision.Decision.TheVariants.{Answer, Store}
use Rattle.pv_node.specs.Parts.{Parts}
use Rattle.pv_node.specs.Standing.{StandsFor, Gains}
use Rattle.pv_node.specs.Asking.{to_store, HasStored, IsTaken, CarriesOut}
use Rattle.pv_node.specs.declared.decision.Told.{Told}
use Rattle.pv_node.specs.declared.fault.AskFault.{AskFault}
use Rattle.pv_node.specs.declared.fault.AskFault.TheVariants.{Disk, Full}
use Rattle.pv_live.specs.declared.entry.Entry.{Entry}
use Rattle.pv_live.specs.Entries.{with_opening}
use Rattle.pv_live.specs.Run.{IsStateOf, IsMade}
use Rattle.pv_live.specs.Board.{count_in_hand, IsDesk}
use Rattle.pv_live.specs.Pass.{Standing}
use Rattle.pv_live.specs.Asking.{IsFullFor}
use Rattle.pv_live.proofs.Lists.{with_more, with_count, last_count}
use Rattle.pv_live.proofs.States.{run_more}

-- a record that is to be stored is stored with a reply
pub reply_to : {Rec Reply : Type 0} (decision : Decision Rec Reply) (rec : Rec) → to_store decision ≡ Some rec
    → (reply : Reply) × (decision ≡ Store rec reply)
reply_to (Answer reply) rec is = absurd cc
reply_to (Store other reply) rec is = (reply, cc is)

module _ {S State Request Rec Reply D : Type 0} (r : rules.Ghosts S State Request Rec Reply) (d : reports.Ghosts D) (limits : Limits)
    (opening : List Rec) (log : List (Entry Rec)) (told failed : ℕ) (old : Parts D State Rec)
    (desk : IsDesk r d limits opening old log told failed) where
  -- the node's state is one of all records
  pub node_state : IsStateOf r limits old.state (with_opening opening log)
  node_state = record { stands = desk.stands.state; limited = desk.limited }

  -- the node counts all records
  pub node_count : old.journal.count ≡ length opening + length log
  node_count = desk.stands.count ∙ with_count opening log

  -- what is decided at the node's state, if there is room, is the next record of the run
  pub next_made : (request : Request) (rec : Rec) (reply : Reply) → r.is_request request
      → r.judgement old.state request ≡ Store rec reply → old.journal.count < (r.limits_of old.state).records
      → IsMade r limits (with_opening opening log) rec
  next_made request rec reply valid judged room = record {
    request = request;
    reply = reply;
    valid = valid;
    judged = (old.state, node_state, judged);
    within = subst (λ (n : ℕ). n < limits.records) desk.stands.count
        (subst (λ (l : Limits). old.journal.count < l.records) desk.limited room);
  }

  -- a record was stored, of which a pass was told or an ask had failed
  pub desk_more : (new : Parts D State Rec) (entry : Entry Rec) (told_now : ℕ) → Gains r d old new entry.rec → new.hand ≡ None
      → r.limits_of new.state ≡ r.limits_of old.state → IsMade r limits (with_opening opening log) entry.rec
      → told_now ≤ length log + 1 → length log + 1 ≤ told_now + failed
      → IsDesk r d limits opening new (log ++ entry ∷ []) told_now failed
  desk_more new entry told_now gains none same made reported accounted =
      let count = last_count log (log ++ entry ∷ []) entry refl in record {
        stands = subst (λ (l : List Rec). StandsFor r d new l) (sym (with_more opening log entry))
            (gains (with_opening opening log) desk.stands);
        limited = same ∙ desk.limited;
        run = run_more r limits opening log entry desk.run made;
        hand = rw none tt;
        reported = omega (arith, count, reported);
        accounted = rw none (omega (arith, count, accounted));
      }

  -- a record was taken in hand, and the ask failed
  pub desk_taken : (new : Parts D State Rec) (rec : Rec) → IsTaken r d old new rec → old.hand ≡ None
      → r.limits_of new.state ≡ r.limits_of old.state → IsMade r limits (with_opening opening log) rec
      → IsDesk r d limits opening new log told (failed + 1)
  desk_taken new rec taken none same made = record {
    stands = taken.records (with_opening opening log) desk.stands;
    limited = same ∙ desk.limited;
    run = desk.run;
    hand = rw taken.hand made;
    reported = desk.reported;
    accounted =
        let before : length log + 0 ≤ told + failed =
        subst (λ (h : Option Rec). length log + count_in_hand h ≤ told + failed) none desk.accounted in
        rw taken.hand (omega (arith, before));
  }

  -- a record in hand is made after those that are stored, and an ask has failed for it
  pub hand_made : (rec : Rec) → old.hand ≡ Some rec
      → IsMade r limits (with_opening opening log) rec × (length log + 1 ≤ told + failed)
  hand_made rec was = (
    subst (λ (h : Option Rec). IfSome h (IsMade r limits (with_opening opening log))) was desk.hand,
    subst (λ (h : Option Rec). length log + count_in_hand h ≤ told + failed) was desk.accounted,
  )

  module _ (request : Request) (rec : Rec) (valid : r.is_request request)
      (judged : to_store (r.judgement old.state request) ≡ Some rec) where
    -- what was decided, with the reply
    pub reply_is : (reply : Reply) × (r.judgement old.state request ≡ Store rec reply)
    reply_is = reply_to (r.judgement old.state request) rec judged

    -- what the node did is what it does to store the record
    carries : (F : Type 0) (new : Parts D State Rec) (result : Result (Told Reply) (AskFault D F))
        → CarriesOut r d (r.judgement old.state request) old new result → CarriesOut r d (Store rec reply_is.0) old new result
    carries F new result carried = subst (λ (x : Decision Rec Reply). CarriesOut r d x old new result) reply_is.1 carried

    -- the record is the next one of the run
    made_if_room : old.journal.count < (r.limits_of old.state).records → IsMade r limits (with_opening opening log) rec
    made_if_room room = next_made request rec reply_is.0 valid reply_is.1 room

    -- it is stored
    pub storing : (F : Type 0) (new : Parts D State Rec) (answer : Told Reply)
        → CarriesOut r d {F = F} (r.judgement old.state request) old new (Ok answer)
        → HasStored r d old new rec × IsMade r limits (with_opening opening log) rec
        × (answer ≡ record { reply = reply_is.0; number = Some old.journal.count })
    storing F new answer carried =
        let done = carries F new (Ok answer) carried in (done.1, made_if_room done.1.room, done.0)

    -- or it is in hand
    pub taking : (F : Type 0) (new : Parts D State Rec) (failure : F)
        → CarriesOut r d (r.judgement old.state request) old new (Err (Disk failure))
        → IsTaken r d old new rec × IsMade r limits (with_opening opening log) rec
    taking F new failure carried =
        let taken = carries F new (Err (Disk failure)) carried in (taken, made_if_room taken.room)

    -- or the node is full
    pub refusing : (F : Type 0) (new : Parts D State Rec) (count : ℕ) (pass : Standing Rec) → pass.seen ≡ log
        → CarriesOut r d {F = F} (r.judgement old.state request) old new (Err (Full count))
        → IsFullFor r limits opening request pass count
    refusing F new count pass seen carried =
        let full = carries F new (Err (Full count)) carried in record {
          limit = full.limit ∙ ap (λ (l : Limits). l.records) desk.limited;
          length = ap (λ (l : List (Entry Rec)). length opening + length l) seen ∙ (sym node_count ∙ full.counted);
          record_to_store = rec;
          reply = reply_is.0;
          judged = rw seen (old.state, node_state, reply_is.1);
        }

    -- and nothing has changed
    pub refusing_same : (F : Type 0) (new : Parts D State Rec) (count : ℕ)
        → CarriesOut r d {F = F} (r.judgement old.state request) old new (Err (Full count)) → new ≡ old
    refusing_same F new count carried = (carries F new (Err (Full count)) carried).same
