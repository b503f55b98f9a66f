-- An ask of a node whose disk never fails: it is carried out, or the node is full.
use Rattle.std.proofs.Common.{◌≡◌, ℕ, ◌<◌, List, Some, None, Result, Ok, Err, refl, ap, sym, subst, ◌∙◌, arith}
use Rattle.std.proofs.lemmas.Bool.{lt-leb, le-leb}
use Rattle.pv_outside.specs.declared.failed.Failed.{Failed}
use Rattle.pv_memory.specs.Medium.{Medium}
use Rattle.pv_memory.specs.contracts.disk.MemDiskReports.TheImpl as memory
use Rattle.pv_node.specs.Asking.{CarriesOut, records_with}
use Rattle.pv_node.specs.Parts.{Parts}
use Rattle.pv_node.specs.Standing.{StandsFor}
use Rattle.pv_node.specs.declared.decision.Decision.{Decision}
use Rattle.pv_node.specs.declared.decision.Decision.TheVariants.{Answer, Store}
use Rattle.pv_node.specs.declared.decision.Told.{Told}
use Rattle.pv_node.specs.declared.fault.AskFault.{AskFault}
use Rattle.pv_node.specs.declared.fault.AskFault.TheVariants.{Full}
use Rattle.pv_node.specs.declared.rules.Rules as rules
use Rattle.pv_nodes.specs.Nodes.{told_of, stored_of, state_with}

module _ {S State Request Rec Reply : Type 0} (r : rules.Ghosts S State Request Rec Reply) where
  -- what is answered, and what the node is then
  pub record Done (limit count : ℕ) (d : Decision Rec Reply) (old new : Parts Medium State Rec) (result : Result (Told Reply) ℕ) : Type 0 where
    pub told : result ≡ told_of limit count d
    pub state : new.state ≡ state_with r old.state (stored_of limit count d)
    pub stands : (records : List Rec) → StandsFor r memory.ghosts old records
        → StandsFor r memory.ghosts new (records_with records (stored_of limit count d))
    pub hand : new.hand ≡ None

  -- the reply is in the answer, or is this one
  abbrev reply_or : Told Reply → Result (Told Reply) (AskFault Medium Failed) → Told Reply
  reply_or other (Ok told) = told
  reply_or other (Err fault) = other

  -- a reply is no fault
  abbrev IsReply : Result (Told Reply) (AskFault Medium Failed) → Type 0
  IsReply (Ok told) = Unit {0}
  IsReply (Err fault) = ⊥

  module _ (old new : Parts Medium State Rec) (none : old.hand ≡ None) (counted : old.journal.count ≡ r.count_of old.state) where
    -- nothing has changed
    stays : (d : Decision Rec Reply) (limit count : ℕ) (told : Result (Told Reply) ℕ) → new ≡ old → stored_of limit count d ≡ None
        → told ≡ told_of limit count d → Done limit count d old new told
    stays d limit count told same nothing is = rw same (record {
      told = is;
      state = rw nothing refl;
      stands = λ records stood. rw nothing stood;
      hand = none;
    })

    -- a reply
    pub done_ok : (d : Decision Rec Reply) (told : Told Reply)
        → CarriesOut r memory.ghosts {F = Failed} d old new (Ok told)
        → Done (r.limits_of old.state).records (r.count_of old.state) d old new (Ok told)
    done_ok (Answer reply) told is = stays (Answer reply) _ _ _ is.1 refl (ap Ok (ap (reply_or told) is.0))
    done_ok (Store rec reply) told is =
        let has_room : r.count_of old.state < (r.limits_of old.state).records = subst (λ n. n < (r.limits_of old.state).records) counted is.1.room in
        let not_full = lt-leb (r.limits_of old.state).records (r.count_of old.state) has_room in
        record {
          told = rw not_full (ap Ok (is.0 ∙ ap (λ n. record { reply = reply; number = Some n }) counted));
          state = rw not_full (is.1.state ∙ ap (λ n. r.after old.state rec n) counted);
          stands = rw not_full is.1.records;
          hand = is.1.hand;
        }

    -- a full node
    pub done_full : (d : Decision Rec Reply) (count : ℕ)
        → CarriesOut r memory.ghosts {F = Failed} d old new (Err (Full count))
        → Done (r.limits_of old.state).records (r.count_of old.state) d old new (Err count)
    done_full (Answer reply) count is = absurd (subst IsReply (sym is.0) tt)
    done_full (Store rec reply) count is =
        let at_count : count ≡ r.count_of old.state = sym is.counted ∙ counted in
        let full = le-leb (r.limits_of old.state).records (r.count_of old.state) (omega (arith, at_count, is.limit)) in
        stays (Store rec reply) _ _ _ is.same (rw full refl) (rw full (ap Err at_count))
