-- What a vault holds once a group is stored, or is not.
use Rattle.std.proofs.Common.{◌≡◌, inl, inr, ℕ, ◌+◌, ◌<◌, ◌≤◌, List, [], ◌∷◌, ◌++◌, length, refl, ap, sym, ◌∙◌, subst, arith, length-append}
use Rattle.std.proofs.lemmas.List.{append-nil}
use mathlib.Core.List.{IsPrefix}
use Rattle.pv_outside.specs.declared.limits.Limits.{Limits}
use Rattle.pv_outside.specs.declared.reports.Reports as reports
use Rattle.pv_journal.specs.Log.{Log, IsAtRest, IsNoneInHand}
use Rattle.pv_journal.specs.Batch.{Pack, HasPacked}
use Rattle.pv_journal.specs.Journal.{Holds, HoldsInHand}
use Rattle.pv_node.specs.declared.rules.Rules as rules
use Rattle.pv_history.proofs.CallerLemmas.{prefix_shorter, prefix_whole}
use Rattle.pv_live.specs.declared.entry.Entry.{Entry}
use Rattle.pv_live.specs.Entries.{with_opening}
use Rattle.pv_live.proofs.Lists.{with_count}
use Rattle.pv_group.specs.Desk.{bodies_of, IsStaged}
use Rattle.pv_group.specs.Vault.{Shelf, all_bodies, HoldsStored, IsShelf}

-- what follows a list in two ways is one list
pub same_rest : {A : Type 0} (xs ys zs : List A) → xs ++ ys ≡ xs ++ zs → ys ≡ zs
same_rest [] ys zs is = is
same_rest (x ∷ xs) ys zs is = same_rest xs ys zs (cc is)

-- a list that adds nothing is empty
pub none_more : {A : Type 0} (xs ys : List A) → xs ≡ xs ++ ys → ys ≡ []
none_more xs ys is = same_rest xs ys [] (sym is ∙ sym (append-nil xs))

module _ {S State Request Rec Reply : Type 0} (r : rules.Ghosts S State Request Rec Reply) where
  -- the bodies of some entries and of a group after them
  pub bodies_with : (opening : List Rec) (stored group : List (Entry Rec))
      → all_bodies r opening (stored ++ group) ≡ all_bodies r opening stored ++ bodies_of r group
  bodies_with [] [] group = refl
  bodies_with [] (x ∷ stored) group = ap (λ (l : List (List ℕ)). r.spelling x.rec ∷ l) (bodies_with [] stored group)
  bodies_with (rec ∷ opening) stored group = ap (λ (l : List (List ℕ)). r.spelling rec ∷ l) (bodies_with opening stored group)

  -- a group has as many bodies as entries
  pub bodies_count : (group : List (Entry Rec)) → length (bodies_of r group) ≡ length group
  bodies_count [] = refl
  bodies_count (x ∷ group) = omega (arith, bodies_count group)

  -- a group that has any has a first body
  pub first_body : (group : List (Entry Rec)) → 0 < length group
      → (first : List ℕ) × (others : List (List ℕ)) × (bodies_of r group ≡ first ∷ others)
  first_body [] some = absurd (omega (arith, some))
  first_body (x ∷ group) some = (r.spelling x.rec, bodies_of r group, refl)

  -- and all have as many as there are records
  pub all_count : (opening : List Rec) (stored : List (Entry Rec)) → length (all_bodies r opening stored) ≡ length opening + length stored
  all_count [] [] = refl
  all_count [] (x ∷ stored) = omega (arith, all_count [] stored)
  all_count (rec ∷ opening) stored = omega (arith, all_count opening stored)

  module _ {D : Type 0} (d : reports.Ghosts D) (opening : List Rec) where
    -- a journal at rest holds what is stored
    pub at_rest_holds : (journal : Log D) (stored group : List (Entry Rec)) → HoldsStored r d opening journal stored group → IsAtRest journal
        → Holds d journal (all_bodies r opening stored)
    at_rest_holds journal stored group (inl holds) rest = holds
    at_rest_holds journal stored group (inr hand) rest = absurd (cc (sym hand.1.phase ∙ rest))

    -- at rest no body is in hand
    none_at_rest : (journal : Log D) → IsAtRest journal → IsNoneInHand journal
    none_at_rest journal rest = rw rest tt

    -- a journal that is not at rest has the group in hand
    pub group_in_hand : (journal : Log D) (stored group : List (Entry Rec)) → HoldsStored r d opening journal stored group
        → (IsNoneInHand journal → ⊥) → (0 < length group) × HoldsInHand d journal (all_bodies r opening stored) (bodies_of r group)
    group_in_hand journal stored group (inl holds) hand = absurd (hand (none_at_rest journal holds.phase))
    group_in_hand journal stored group (inr has) hand = has

    module _ (limits : Limits) (shelf : Shelf D Rec) (is : IsShelf r d opening limits shelf) where
      -- all that was taken is stored
      pub shelf_stored : (journal : Log D) (batch : Pack) → journal.limit ≡ shelf.journal.limit → HasPacked batch []
          → Holds d journal (all_bodies r opening shelf.stored ++ bodies_of r is.group)
          → IsShelf r d opening limits (record { journal = journal; batch = batch; stored = shelf.taken; taken = shelf.taken })
      shelf_stored journal batch limit packed holds = record {
        group = [];
        taken_is = sym (append-nil shelf.taken);
        packed = packed;
        limit = limit ∙ is.limit;
        within = is.within;
        kept = inl (subst (Holds d journal)
            (sym (bodies_with opening shelf.stored is.group) ∙ ap (all_bodies r opening) (sym is.taken_is)) holds);
      }

      -- the group is not stored yet
      pub shelf_kept : (journal : Log D) → journal.limit ≡ shelf.journal.limit → HoldsStored r d opening journal shelf.stored is.group
          → IsShelf r d opening limits (record shelf { journal = journal })
      shelf_kept journal limit kept = record {
        group = is.group;
        taken_is = is.taken_is;
        packed = is.packed;
        limit = limit ∙ is.limit;
        within = is.within;
        kept = kept;
      }

      -- what is said of the bodies that are stored and of those in hand is said of what is stored and of the group
      pub of_hand : (P : List (List ℕ) → List (List ℕ) → Type 0)
          → ((bodies hand : List (List ℕ)) → HoldsInHand d shelf.journal bodies hand → P bodies hand)
          → (IsNoneInHand shelf.journal → ⊥) → P (all_bodies r opening shelf.stored) (bodies_of r is.group)
      of_hand P holds hand =
          holds (all_bodies r opening shelf.stored) (bodies_of r is.group)
          (group_in_hand shelf.journal shelf.stored is.group is.kept hand).1

      -- a group in hand that turns out to be stored
      pub group_stored : (new : Log D)
          → ((bodies : List (List ℕ)) (first : List ℕ) (others : List (List ℕ)) → HoldsInHand d shelf.journal bodies (first ∷ others)
          → Holds d new (bodies ++ first ∷ others))
          → (IsNoneInHand shelf.journal → ⊥) → Holds d new (all_bodies r opening shelf.stored ++ bodies_of r is.group)
      group_stored new stores hand =
          let bodies = all_bodies r opening shelf.stored in
          let has = group_in_hand shelf.journal shelf.stored is.group is.kept hand in
          let one = first_body is.group has.0 in
          subst (λ (l : List (List ℕ)). Holds d new (bodies ++ l)) (sym one.2)
          (stores bodies one.0 one.1 (subst (HoldsInHand d shelf.journal bodies) one.2 has.1))

      -- or not to be
      pub group_dropped : (new : Log D)
          → ((bodies : List (List ℕ)) (first : List ℕ) (others : List (List ℕ)) → HoldsInHand d shelf.journal bodies (first ∷ others)
          → Holds d new bodies)
          → (IsNoneInHand shelf.journal → ⊥) → Holds d new (all_bodies r opening shelf.stored)
      group_dropped new drops hand =
          let bodies = all_bodies r opening shelf.stored in
          let has = group_in_hand shelf.journal shelf.stored is.group is.kept hand in
          let one = first_body is.group has.0 in
          drops bodies one.0 one.1 (subst (HoldsInHand d shelf.journal bodies) one.2 has.1)

      -- a batch that has bodies has those of the group
      module _ (some : 0 < shelf.batch.count) where
        pub some_entries : 0 < length is.group
        some_entries = omega (arith, some, is.packed.count, bodies_count is.group)

        pub first_packed : (first : List ℕ) × (others : List (List ℕ)) × (bodies_of r is.group ≡ first ∷ others)
            × HasPacked shelf.batch (first ∷ others)
        first_packed =
            let one = first_body is.group some_entries in (one.0, one.1, one.2, subst (HasPacked shelf.batch) one.2 is.packed)

        -- what is said of the bodies that are stored and of those in a batch is said of what is stored and of the group
        pub of_batch : (P : List (List ℕ) → List (List ℕ) → Type 0)
            → ((bodies : List (List ℕ)) (first : List ℕ) (others : List (List ℕ)) → HasPacked shelf.batch (first ∷ others)
            → Holds d shelf.journal bodies → P bodies (first ∷ others))
            → IsAtRest shelf.journal → P (all_bodies r opening shelf.stored) (bodies_of r is.group)
        of_batch P holds rest =
            let bodies = all_bodies r opening shelf.stored in
            let one = first_packed in
            subst (P bodies) (sym one.2) (holds bodies one.0 one.1 one.3 (at_rest_holds shelf.journal shelf.stored is.group is.kept rest))

      -- there is room for all that was taken
      pub never_full : IsAtRest shelf.journal → shelf.journal.count + length is.group ≤ shelf.journal.limit
      never_full rest =
          let holds = at_rest_holds shelf.journal shelf.stored is.group is.kept rest in
          omega (
            arith,
            holds.counted.count,
            all_count opening shelf.stored,
            is.limit,
            is.within,
            ap length is.taken_is,
            length-append shelf.stored is.group,
          )

      -- if the group is stored, none is left
      none_left : shelf.taken ≡ shelf.stored → is.group ≡ []
      none_left stored = none_more shelf.stored is.group (sym stored ∙ is.taken_is)

      -- then the batch is empty
      pub batch_empty : shelf.taken ≡ shelf.stored → HasPacked shelf.batch []
      batch_empty stored = subst (λ (l : List (Entry Rec)). HasPacked shelf.batch (bodies_of r l)) (none_left stored) is.packed

      -- and all that waits at the desk may be taken
      pub shelf_taken : (log : List (Entry Rec)) (taken : ℕ) (staged : Pack) → IsStaged r log taken staged → taken ≡ length shelf.taken
          → IsPrefix shelf.taken log → shelf.taken ≡ shelf.stored → length (with_opening opening log) ≤ limits.records
          → IsShelf r d opening limits (record { journal = shelf.journal; batch = staged; stored = shelf.stored; taken = log })
      shelf_taken log taken staged desk count prefix stored within =
          let before : IsPrefix desk.before log = (desk.group, sym desk.log_is) in
          let here : shelf.taken ≡ desk.before = prefix_whole shelf.taken desk.before
          (prefix_shorter shelf.taken desk.before log prefix before (omega (arith, count, desk.taken_is)))
          (omega (arith, count, desk.taken_is)) in record {
            group = desk.group;
            taken_is = desk.log_is ∙ ap (λ (l : List (Entry Rec)). l ++ desk.group) (sym here ∙ stored);
            packed = desk.packed;
            limit = is.limit;
            within = omega (arith, within, with_count opening log);
            kept = inl (at_rest (subst (HoldsStored r d opening shelf.journal shelf.stored) (none_left stored) is.kept));
          }
        where
          at_rest : HoldsStored r d opening shelf.journal shelf.stored [] → Holds d shelf.journal (all_bodies r opening shelf.stored)
          at_rest (inl holds) = holds
          at_rest (inr hand) = absurd (omega (arith, hand.0))

-- once all is taken from the desk, none is staged
pub staged_none : {S State Request Rec Reply : Type 0} (r : rules.Ghosts S State Request Rec Reply) (log : List (Entry Rec)) (taken : ℕ)
    (staged : Pack) → taken ≡ length log → HasPacked staged [] → IsStaged r log taken staged
staged_none r log taken staged is packed =
    record { before = log; group = []; log_is = sym (append-nil log); taken_is = is; packed = packed }
