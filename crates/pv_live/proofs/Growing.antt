-- How the history grows, over the steps of an ask.
use Rattle.std.proofs.Common.{◌≡◌, ◌⊎◌, ℕ, List, [], ◌∷◌, ◌++◌, Option, Some, None, true, IfSome, inl, inr, refl, sym, ◌∙◌, ap, subst, append_assoc}
use Rattle.std.specs.Prelude.{is_some, option_to_list}
use Rattle.std.proofs.lemmas.List.{append-nil}
use Rattle.std.proofs.lemmas.Option.{none-some, IfSome_then}
use Rattle.pv_outside.specs.declared.limits.Limits.{Limits}
use Rattle.pv_node.specs.declared.rules.Rules as rules
use Rattle.pv_node.specs.declared.decision.Decision.TheVariants.{Store}
use Rattle.pv_live.specs.declared.entry.Entry.{Entry}
use Rattle.pv_live.specs.Entries.{with_opening}
use Rattle.pv_live.specs.Run.{Judges}
use Rattle.pv_live.specs.Board.{Board}
use Rattle.pv_live.specs.Asking.{IsOfHand, IsHandKept, Settles, HasTaken, Grows}

-- a board that differs by what is published alone
abbrev IsPublished : {D State Rec : Type 0} → Board D State Rec → Board D State Rec → Type 0
IsPublished old new = new ≡ record old { published = new.published; waiting = new.waiting }

module _ {D State Rec : Type 0} where
  -- nothing was settled
  pub settles_none : (old new : Board D State Rec) → new.log ≡ old.log
      → (new.node.hand ≡ None) ⊎ ((new.node.hand ≡ old.node.hand) × (new.maker ≡ old.maker)) → Settles old new
  settles_none old new log hand = record {
    settled = None;
    log = log ∙ sym (append-nil old.log);
    maker = tt;
    hand = elim hand [ inl none ↦ inl none | inr same ↦ inr (record { hand = same.0; maker = same.1; log = log }) ];
  }

  -- the record in hand is stored
  pub settles_one : (old new : Board D State Rec) (entry : Entry Rec) → new.log ≡ old.log ++ entry ∷ [] → IsOfHand old entry
      → new.node.hand ≡ None → Settles old new
  settles_one old new entry log is none = record { settled = Some entry; log = log; maker = is; hand = inl none }

  -- publishing changes neither the history nor what is in hand
  kept_published : (old new : Board D State Rec) → IsPublished old new → IsHandKept old new
  kept_published old new same = record {
    hand = ap (λ b. b.node.hand) same;
    maker = ap (λ b. b.maker) same;
    log = ap (λ b. b.log) same;
  }

  -- what is kept over three steps
  kept_thrice : (first one settled last : Board D State Rec) → IsHandKept first one → IsHandKept one settled → IsHandKept settled last
      → IsHandKept first last
  kept_thrice first one settled last a b c = record {
    hand = c.hand ∙ b.hand ∙ a.hand;
    maker = c.maker ∙ b.maker ∙ a.maker;
    log = c.log ∙ b.log ∙ a.log;
  }

  -- an entry of the record in hand is one of it as it was before a publishing
  of_hand_before : (old new : Board D State Rec) → IsHandKept old new → (entry : Entry Rec) → IsOfHand new entry → IsOfHand old entry
  of_hand_before old new kept entry is = (sym kept.hand ∙ is.0, is.1 ∙ kept.maker)

module _ {S State Request Rec Reply D : Type 0} (r : rules.Ghosts S State Request Rec Reply) (limits : Limits) (opening : List Rec)
    (request : Request) (number : ℕ) where
  -- nothing was added
  pub grows_none : (old new : Board D State Rec) → new.log ≡ old.log
      → (new.node.hand ≡ None) ⊎ (IsHandKept old new ⊎ HasTaken r limits opening request number new)
      → Grows r limits opening request number None old new
  grows_none old new log hand = record {
    settled = None;
    stored = None;
    log = log ∙ sym (append-nil old.log);
    maker = tt;
    own = tt;
    told = refl;
    hand = hand;
  }

  -- a record was stored for the pass
  pub grows_stored : (old new : Board D State Rec) (entry : Entry Rec) (place : ℕ) → new.log ≡ old.log ++ entry ∷ []
      → entry.pass ≡ number → new.node.hand ≡ None → Grows r limits opening request number (Some place) old new
  grows_stored old new entry place log own none = record {
    settled = None;
    stored = Some entry;
    log = log;
    maker = tt;
    own = own;
    told = refl;
    hand = inl none;
  }

  -- publishing adds nothing
  pub grows_published : (old new : Board D State Rec) → IsPublished old new → Grows r limits opening request number None old new
  grows_published old new same =
      let kept = kept_published old new same in grows_none old new kept.log (inr (inl kept))

  -- what was taken in hand is so after a publishing
  taken_published : (old new : Board D State Rec) → IsHandKept old new → HasTaken r limits opening request number old
      → HasTaken r limits opening request number new
  taken_published old new kept taken = record {
    rec = taken.rec;
    reply = taken.reply;
    hand = kept.hand ∙ taken.hand;
    maker = kept.maker ∙ taken.maker;
    judged = subst (λ (log : List (Entry Rec)). Judges r limits (with_opening opening log) request (Store taken.rec taken.reply))
        (sym kept.log) taken.judged;
  }

  -- a settling, with a publishing before it and after it
  pub grows_settled : (first one settled last : Board D State Rec) → IsPublished first one → Settles one settled
      → IsPublished settled last → Grows r limits opening request number None first last
  grows_settled first one settled last same a again =
      let before = kept_published first one same in
      let after = kept_published settled last again in record {
        settled = a.settled;
        stored = None;
        log = after.log ∙ (a.log ∙ (ap (λ (l : List (Entry Rec)). l ++ option_to_list a.settled) before.log
            ∙ ap (λ (l : List (Entry Rec)). first.log ++ l) (sym (append-nil (option_to_list a.settled)))));
        maker = IfSome_then a.settled a.maker (of_hand_before first one before);
        own = tt;
        told = refl;
        hand = elim a.hand [
          | inl none ↦ inl (after.hand ∙ none)
          | inr kept ↦ inr (inl (kept_thrice first one settled last before kept after))
        ];
      }

  -- a settling and a decision at what it left, with a publishing before and after each
  pub grows_asked : (place : Option ℕ) (first one settled two decided last : Board D State Rec) (by : ℕ) → IsPublished first one
      → Settles one settled → settled.node.hand ≡ None → IsPublished settled two
      → Grows r limits opening request by place two decided → by ≡ number → IsPublished decided last
      → Grows r limits opening request number place first last
  grows_asked place first one settled two decided last by same a none again decides is_by published =
      go (subst (λ (n : ℕ). Grows r limits opening request n place two decided) is_by decides)
    where
      before : IsHandKept first one
      before = kept_published first one same

      between : IsHandKept settled two
      between = kept_published settled two again

      after : IsHandKept decided last
      after = kept_published decided last published

      go : Grows r limits opening request number place two decided → Grows r limits opening request number place first last
      go b = record {
        settled = a.settled;
        stored = b.stored;
        log = after.log ∙ (grown b.settled b.maker b.log
            ∙ (ap (λ (l : List (Entry Rec)). l ++ option_to_list b.stored)
            (between.log ∙ (a.log ∙ ap (λ (l : List (Entry Rec)). l ++ option_to_list a.settled) before.log))
            ∙ append_assoc first.log (option_to_list a.settled) (option_to_list b.stored)));
        maker = IfSome_then a.settled a.maker (of_hand_before first one before);
        own = b.own;
        told = b.told;
        hand = elim b.hand [
          | inl empty ↦ inl (after.hand ∙ empty)
          | inr rest ↦ elim rest [
            | inl kept ↦ inl (after.hand ∙ kept.hand ∙ between.hand ∙ none)
            | inr taken ↦ inr (inr (taken_published decided last after taken))
          ]
        ];
      }
        where
          -- nothing was in hand, so nothing was settled again
          grown : (entry : Option (Entry Rec)) → IfSome entry (IsOfHand two)
              → decided.log ≡ two.log ++ (option_to_list entry ++ option_to_list b.stored)
              → decided.log ≡ two.log ++ option_to_list b.stored
          grown None is log = log
          grown (Some entry) is log = absurd (none-some entry.rec (sym (between.hand ∙ none) ∙ is.0))
