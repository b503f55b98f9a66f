-- States that take in the next record of a run.
use Rattle.std.proofs.Common.{◌≡◌, ℕ, ◌<◌, List, [], ◌∷◌, ◌++◌, length, ap, sym, ◌∙◌, subst, inl, inr, ◌+◌}
use mathlib.Core.List.{IsPrefix}
use Rattle.pv_outside.specs.declared.limits.Limits.{Limits}
use Rattle.pv_node.specs.declared.rules.Rules as rules
use Rattle.pv_node.specs.declared.decision.Decision.TheVariants.{Store}
use Rattle.pv_live.specs.declared.entry.Entry.{Entry}
use Rattle.pv_live.specs.Entries.{with_opening}
use Rattle.pv_live.specs.Run.{IsStateOf, IsMade, IsRun, EndsWith}
use Rattle.pv_live.proofs.Lists.{with_more, prefix_before, split_last}

module _ {S State Request Rec Reply : Type 0} (r : rules.Ghosts S State Request Rec Reply) (limits : Limits) (opening : List Rec) where
  -- a run goes on with what some request stores after it
  pub run_more : (log : List (Entry Rec)) (entry : Entry Rec) → IsRun r limits opening log
      → IsMade r limits (with_opening opening log) entry.rec → IsRun r limits opening (log ++ entry ∷ [])
  run_more log entry run next before after x is = elim (split_last log before after entry x is) [
    | inl here ↦
        subst (λ (b : List (Entry Rec)). IsMade r limits (with_opening opening b) x.rec) here.0
        (subst (λ (e : Entry Rec). IsMade r limits (with_opening opening log) e.rec) here.1 next)
    | inr there ↦ run before there.0 x there.1
  ]

  -- a change that knows one record more than these, and knows these, is the next one after them
  pub next_change : (log known : List (Entry Rec)) (entry : Entry Rec) → EndsWith r limits opening known entry → IsPrefix log known
      → length known ≡ length log + 1 → (known ≡ log ++ entry ∷ []) × IsMade r limits (with_opening opening log) entry.rec
  next_change log known entry ends prefix more =
      let here : log ≡ ends.before = prefix_before log known ends.before entry prefix ends.is more in (
        ends.is ∙ ap (λ (l : List (Entry Rec)). l ++ entry ∷ []) (sym here),
        subst (λ (l : List (Entry Rec)). IsMade r limits (with_opening opening l) entry.rec) (sym here) ends.made,
      )

  module _ (stored : (state : State) (request : Request) (rec : Rec) (reply : Reply) → r.is_request request
      → r.judgement state request ≡ Store rec reply → r.is_record rec × r.fits state rec)
      (same_room : (one other : State) (records : List Rec) (rec : Rec) → r.stands one records → r.stands other records
      → r.limits_of one ≡ r.limits_of other → r.fits one rec → r.fits other rec) where
    -- it has a spelling, and has room in each state of the records before it
    pub made_fits : (state : State) (records : List Rec) (rec : Rec) → IsStateOf r limits state records → IsMade r limits records rec
        → r.is_record rec × r.fits state rec
    made_fits state records rec is made =
        let judged = made.judged in
        let has = stored judged.0 made.request rec made.reply made.valid judged.2 in (
          has.0,
          same_room judged.0 state records rec judged.1.stands is.stands (judged.1.limited ∙ sym is.limited) has.1,
        )

    module _ (grows : (state : State) (records : List Rec) (rec : Rec) → r.stands state records → r.is_record rec → r.fits state rec
        → length records < (r.limits_of state).records → r.stands (r.after state rec (length records)) (records ++ rec ∷ []))
        (limits_stay : (state : State) (rec : Rec) (place : ℕ) → r.limits_of (r.after state rec place) ≡ r.limits_of state) where
      -- with it, the state is one of one record more
      pub next_state : (state : State) (log : List (Entry Rec)) (entry : Entry Rec) → IsStateOf r limits state (with_opening opening log)
          → IsMade r limits (with_opening opening log) entry.rec
          → IsStateOf r limits (r.after state entry.rec (length (with_opening opening log))) (with_opening opening (log ++ entry ∷ []))
      next_state state log entry is made =
          let records = with_opening opening log in
          let fits = made_fits state records entry.rec is made in
          let within : length records < (r.limits_of state).records =
          subst (λ (l : Limits). length records < l.records) (sym is.limited) made.within in record {
            stands = subst (λ (l : List Rec). r.stands (r.after state entry.rec (length records)) l) (sym (with_more opening log entry))
                (grows state records entry.rec is.stands fits.0 fits.1 within);
            limited = limits_stay state entry.rec (length records) ∙ is.limited;
          }
