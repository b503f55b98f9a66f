-- What a crash at a moment of some calls of a vault leaves of its groups.
use Rattle.std.proofs.Common.{◌≡◌, ◌⊎◌, inl, inr, ℕ, ◌≤◌, List, ◌++◌, sym, subst}
use Rattle.pv_outside.specs.declared.failed.TheConstants.{COUNT_END}
use Rattle.pv_outside.specs.declared.limits.Limits.{Limits}
use Rattle.pv_outside.specs.declared.reports.Reports as reports
use Rattle.pv_journal.specs.Journal.{EachImage, LeavesOnly}
use Rattle.pv_journal.specs.Text.{Spells, SpellsEither}
use Rattle.pv_journal.specs.Log.{Log}
use Rattle.pv_journal.proofs.Moments.{only_none, only_weaker, only_then}
use Rattle.pv_node.specs.declared.rules.Rules as rules
use Rattle.pv_live.specs.declared.entry.Entry.{Entry}
use Rattle.pv_group.specs.Desk.{bodies_of}
use Rattle.pv_group.specs.Vault.{Shelf, all_bodies, SpellsLog, LeavesGroups, HoldsStored, IsShelf}
use Rattle.pv_group.proofs.Shelves.{bodies_with}

module _ {S State Request Rec Reply D : Type 0} (r : rules.Ghosts S State Request Rec Reply) (d : reports.Ghosts D) (opening : List Rec) where
  -- the image has what is stored, or that with what was taken
  either : (stored group : List (Entry Rec)) (image : List ℕ)
      → SpellsEither (all_bodies r opening stored) (bodies_of r group) image
      → SpellsLog r opening stored image ⊎ SpellsLog r opening (stored ++ group) image
  either stored group image (inl one) = inl one
  either stored group image (inr both) = inr (subst (Spells image) (sym (bodies_with r opening stored group)) both)

  -- so has each image of a journal
  pub images : (journal : Log D) (stored group : List (Entry Rec)) → HoldsStored r d opening journal stored group
      → EachImage d journal.disk (λ image. SpellsLog r opening stored image ⊎ SpellsLog r opening (stored ++ group) image)
  images journal stored group (inl holds) some image left = inl (holds.images some image left)
  images journal stored group (inr hand) some image left = either stored group image (hand.1.images some image left)

  -- so has each image of a vault that has taken them, and may take more
  more : (limits : Limits) (shelf : Shelf D Rec) (is : IsShelf r d opening limits shelf) (last : List (Entry Rec)) (image : List ℕ)
      → SpellsLog r opening shelf.stored image ⊎ SpellsLog r opening (shelf.stored ++ is.group) image
      → SpellsLog r opening shelf.stored image ⊎ (SpellsLog r opening shelf.taken image ⊎ SpellsLog r opening last image)
  more limits shelf is last image (inl one) = inl one
  more limits shelf is last image (inr both) = inr (inl (subst (λ (l : List (Entry Rec)). SpellsLog r opening l image) (sym is.taken_is) both))

  -- calls that leave the bodies that are stored, or those with the ones of the group
  pub leaves : (limits : Limits) (shelf : Shelf D Rec) (is : IsShelf r d opening limits shelf) (disk : D) (last : List (Entry Rec))
      → LeavesOnly d shelf.journal.disk disk (SpellsEither (all_bodies r opening shelf.stored) (bodies_of r is.group))
      → LeavesOnly d shelf.journal.disk disk
      (λ image. SpellsLog r opening shelf.stored image ⊎ (SpellsLog r opening shelf.taken image ⊎ SpellsLog r opening last image))
  leaves limits shelf is disk last only =
      only_weaker d (λ some image spells. more limits shelf is last image (either shelf.stored is.group image spells)) only

  -- no calls leave what there is
  pub leaves_none : ((d' : D) (image : List ℕ) → d.left_since d' (d.clock d') image → d.may_leave d' image ⊎ d.has_forgotten d' (d.clock d'))
      → ((d' : D) → d.has_forgotten d' (d.clock d') → COUNT_END ≤ d.clock d')
      → (limits : Limits) (shelf : Shelf D Rec) → IsShelf r d opening limits shelf → LeavesGroups r d opening shelf shelf
  leaves_none only_now known limits shelf is =
      only_none d only_now known shelf.journal.disk _
      (λ some image left. more limits shelf is shelf.taken image (images shelf.journal shelf.stored is.group is.kept some image left))

  -- Two stretches of calls leave what both do. In the first nothing further is taken, and between them what is taken may grow.
  pub leaves_then : (old mid taken new : Shelf D Rec) → LeavesGroups r d opening old mid → LeavesGroups r d opening taken new
      → mid.taken ≡ old.taken → taken.journal.disk ≡ mid.journal.disk → (taken.stored ≡ old.stored) ⊎ (taken.stored ≡ old.taken)
      → (taken.taken ≡ new.taken) → LeavesGroups r d opening old new
  leaves_then old mid taken new a b same disk stored last =
      let later = only_weaker d {Q = P} (λ some image spells. second image spells) b in
      let from : LeavesOnly d mid.journal.disk new.journal.disk P =
      subst (λ (x : D). LeavesOnly d x new.journal.disk P) disk later in
      only_then d (only_weaker d {Q = P} (λ some image spells. first image spells) a) from.time from.now
    where
      P : List ℕ → Type 0
      P image = SpellsLog r opening old.stored image ⊎ (SpellsLog r opening old.taken image ⊎ SpellsLog r opening new.taken image)

      first : (image : List ℕ) → SpellsLog r opening old.stored image ⊎ (SpellsLog r opening old.taken image ⊎ SpellsLog r opening mid.taken image)
          → P image
      first image (inl one) = inl one
      first image (inr (inl group)) = inr (inl group)
      first image (inr (inr last)) = inr (inl (subst (λ (l : List (Entry Rec)). SpellsLog r opening l image) same last))

      of_stored : (image : List ℕ) → (taken.stored ≡ old.stored) ⊎ (taken.stored ≡ old.taken) → SpellsLog r opening taken.stored image → P image
      of_stored image (inl is) one = inl (subst (λ (l : List (Entry Rec)). SpellsLog r opening l image) is one)
      of_stored image (inr is) one = inr (inl (subst (λ (l : List (Entry Rec)). SpellsLog r opening l image) is one))

      second : (image : List ℕ)
          → SpellsLog r opening taken.stored image ⊎ (SpellsLog r opening taken.taken image ⊎ SpellsLog r opening new.taken image) → P image
      second image (inl one) = of_stored image stored one
      second image (inr (inl group)) = inr (inr (subst (λ (l : List (Entry Rec)). SpellsLog r opening l image) last group))
      second image (inr (inr group)) = inr (inr group)
