-- What takes in one record more: a state that runs ahead of the disk, and a batch.
use Rattle.std.proofs.Common.{◌≡◌, ℕ, ◌+◌, ◌<◌, List, [], ◌∷◌, ◌++◌, length, All, refl, ap, sym, ◌∙◌, subst, arith, append_assoc, length-append, None}
use Rattle.std.proofs.lemmas.List.{append-nil}
use Rattle.std.proofs.lemmas.List.Elements.{All-push}
use Rattle.pv_outside.specs.declared.limits.Limits.{Limits}
use Rattle.pv_outside.specs.declared.reports.Reports as reports
use Rattle.pv_journal.specs.Log.{Log}
use Rattle.pv_journal.specs.Journal.{Holds}
use Rattle.pv_journal.specs.Batch.{Pack, HasPacked}
use Rattle.pv_node.specs.declared.rules.Rules as rules
use Rattle.pv_node.specs.declared.decision.Decision.TheVariants.{Store}
use Rattle.pv_node.specs.Parts.{Parts}
use Rattle.pv_node.specs.Standing.{Meets, MeetsBoth, StandsFor}
use Rattle.pv_node.proofs.Rooms.{meets_more}
use Rattle.pv_live.specs.declared.entry.Entry.{Entry}
use Rattle.pv_live.specs.Entries.{with_opening}
use Rattle.pv_live.specs.Run.{IsMade}
use Rattle.pv_live.proofs.Lists.{with_more, with_count, last_count}
use Rattle.pv_live.proofs.States.{run_more, made_fits, next_state}
use Rattle.pv_group.specs.Desk.{bodies_of, IsAhead, IsStaged}
use Rattle.pv_group.specs.Vault.{all_bodies}
use Rattle.pv_group.proofs.Shelves.{all_count}

module _ {S State Request Rec Reply : Type 0} (r : rules.Ghosts S State Request Rec Reply) where
  -- the bodies of one entry more
  pub bodies_more : (group : List (Entry Rec)) (entry : Entry Rec)
      → bodies_of r (group ++ entry ∷ []) ≡ bodies_of r group ++ r.spelling entry.rec ∷ []
  bodies_more [] entry = refl
  bodies_more (x ∷ group) entry = ap (λ (l : List (List ℕ)). r.spelling x.rec ∷ l) (bodies_more group entry)

  -- a batch to which the body of a further entry was added
  pub staged_more : (log : List (Entry Rec)) (taken : ℕ) (staged more : Pack) (entry : Entry Rec) → IsStaged r log taken staged
      → ((bodies : List (List ℕ)) → HasPacked staged bodies → HasPacked more (bodies ++ r.spelling entry.rec ∷ []))
      → IsStaged r (log ++ entry ∷ []) taken more
  staged_more log taken staged more entry is packs = record {
    before = is.before;
    group = is.group ++ entry ∷ [];
    log_is = ap (λ (l : List (Entry Rec)). l ++ entry ∷ []) is.log_is ∙ append_assoc is.before is.group (entry ∷ []);
    taken_is = is.taken_is;
    packed = subst (HasPacked more) (sym (bodies_more is.group entry)) (packs (bodies_of r is.group) is.packed);
  }

  module _ (limits : Limits) (opening : List Rec)
      (stored : (state : State) (request : Request) (rec : Rec) (reply : Reply) → r.is_request request
      → r.judgement state request ≡ Store rec reply → r.is_record rec × r.fits state rec)
      (same_room : (one other : State) (records : List Rec) (rec : Rec) → r.stands one records → r.stands other records
      → r.limits_of one ≡ r.limits_of other → r.fits one rec → r.fits other rec)
      (grows : (state : State) (records : List Rec) (rec : Rec) → r.stands state records → r.is_record rec → r.fits state rec
      → length records < (r.limits_of state).records → r.stands (r.after state rec (length records)) (records ++ rec ∷ []))
      (limits_stay : (state : State) (rec : Rec) (place : ℕ) → r.limits_of (r.after state rec place) ≡ r.limits_of state) where
    -- a state that took in the next record of the run, which a pass has counted
    pub ahead_more : (state : State) (log : List (Entry Rec)) (entry : Entry Rec) (told failed : ℕ)
        → IsAhead r limits opening state log told failed → IsMade r limits (with_opening opening log) entry.rec
        → IsAhead r limits opening (r.after state entry.rec (length (with_opening opening log))) (log ++ entry ∷ []) (told + 1) failed
    ahead_more state log entry told failed ahead made =
        let records = with_opening opening log in
        let more = sym (with_more opening log entry) in
        let count = last_count log (log ++ entry ∷ []) entry refl in
        let fits = made_fits r limits opening stored same_room state records entry.rec ahead.state_of made in record {
          state_of = next_state r limits opening stored same_room grows limits_stay state log entry ahead.state_of made;
          run = run_more r limits opening log entry ahead.run made;
          each = subst (All r.is_record) more (All-push r.is_record records entry.rec ahead.each fits.0);
          meets = subst (Meets r limits) more
              (meets_more r same_room limits state records entry.rec ahead.meets ahead.state_of.stands ahead.state_of.limited fits.1
              made.within);
          reported = omega (arith, count, ahead.reported);
          accounted = omega (arith, count, ahead.accounted);
        }

  module _ (limits : Limits) (opening : List Rec) where
    -- a node over a journal that holds all that was decided
    pub ahead_stands : {D : Type 0} (d : reports.Ghosts D) (state : State) (log : List (Entry Rec)) (told failed : ℕ) (journal : Log D)
        → IsAhead r limits opening state log told failed → Holds d journal (all_bodies r opening log)
        → StandsFor r d (record { journal = journal; state = state; hand = None }) (with_opening opening log)
    ahead_stands d state log told failed journal ahead holds = record {
      state = ahead.state_of.stands;
      count = holds.counted.count ∙ all_count r opening log ∙ sym (with_count opening log);
      each = ahead.each;
      meets = subst (λ (l : Limits). Meets r l (with_opening opening log)) (sym ahead.state_of.limited) ahead.meets;
      journal = holds;
      images = λ some image left. record { text = holds.images some image left; each = ahead.each };
    }

    -- a node that was opened runs ahead by nothing
    pub ahead_opening : {D : Type 0} (d : reports.Ghosts D) (node : Parts D State Rec) → StandsFor r d node opening → node.hand ≡ None
        → r.limits_of node.state ≡ limits → IsAhead r limits opening node.state [] 0 0
    ahead_opening d node stands none limited =
        let all : opening ≡ with_opening opening [] = sym (append-nil opening) in record {
          state_of = record { stands = subst (r.stands node.state) all stands.state; limited = limited };
          run = λ before after entry is. absurd (omega (arith, ap length is, length-append before (entry ∷ after)));
          each = subst (All r.is_record) all stands.each;
          meets = subst (Meets r limits) all
              (subst (λ (l : Limits). Meets r l opening) limited
              (subst (MeetsBoth r (r.limits_of node.state) opening) none stands.meets));
          reported = omega arith;
          accounted = omega arith;
        }
