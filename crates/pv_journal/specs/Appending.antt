-- What an append returns, and what a journal holds then.
use Rattle.std.specs.Prelude.{◌≡◌, ℕ, ◌+◌, ◌<◌, ◌≤◌, List, [], ◌∷◌, ◌++◌, length}
use Rattle.std.specs.List.{flat_map}
use Rattle.std.specs.Option.{option_map}
use Rattle.pv_outside.specs.Disk.{text_after_write}
use Rattle.pv_outside.specs.declared.reports.Reports as reports
use Rattle.pv_journal.specs.Text.{block, text_of}
use Rattle.pv_journal.specs.Log.{Log, IsAtRest, HasInHand}
use Rattle.pv_journal.specs.Journal.{Holds, HoldsInHand}
use Rattle.pv_journal.specs.Faults.{IsFull}
use Rattle.pv_journal.specs.declared.fault.AppendFault.{AppendFault}
use Rattle.pv_journal.specs.declared.fault.AppendFault.TheVariants.{Disk, Full}

module _ {D : Type 0} (g : reports.Ghosts D) where
  -- The body was appended at this place, and the journal holds it.
  pub record IsAppended (old new : Log D) (body : List ℕ) (place : ℕ) : Type 0 where
    pub at_end : place ≡ old.count
    pub room : old.count < old.limit
    pub one_more : new.count ≡ old.count + 1
    pub at_rest : IsAtRest new
    pub stored : (bodies : List (List ℕ)) → Holds g old bodies → Holds g new (bodies ++ body ∷ [])
    -- its block and a closed gate were written over the gate that was closed, and no other byte
    pub written : (bodies : List (List ℕ)) → Holds g old bodies
        → g.reads new.disk ≡ option_map (text_after_write (length (text_of bodies)) (block body ++ 0 ∷ [])) (g.reads old.disk)

  -- A call of the disk failed: the body is in hand.
  pub record IsTakenInHand (old new : Log D) (body : List ℕ) : Type 0 where
    pub room : old.count < old.limit
    pub same_count : new.count ≡ old.count
    pub hand : HasInHand new (body ∷ [])
    pub holds : (bodies : List (List ℕ)) → Holds g old bodies → HoldsInHand g new bodies (body ∷ [])

  -- why the body was not appended
  abbrev pub IsNotAppended : {F : Type 0} → Log D → Log D → List ℕ → AppendFault D F → Type 0
  IsNotAppended old new body (Disk failure) = IsTakenInHand old new body
  IsNotAppended old new body (Full count) = IsFull old new count

  -- These bodies were appended, the first one at this place, and the journal holds them.
  pub record AreAppended (old new : Log D) (hand : List (List ℕ)) (place : ℕ) : Type 0 where
    pub at_end : place ≡ old.count
    pub room : old.count + length hand ≤ old.limit
    pub more : new.count ≡ old.count + length hand
    pub at_rest : IsAtRest new
    pub stored : (bodies : List (List ℕ)) → Holds g old bodies → Holds g new (bodies ++ hand)
    -- their blocks and a closed gate were written over the gate that was closed, and no other byte
    pub written : (bodies : List (List ℕ)) → Holds g old bodies
        → g.reads new.disk ≡ option_map (text_after_write (length (text_of bodies)) (flat_map block hand ++ 0 ∷ [])) (g.reads old.disk)

  -- A call of the disk failed: these bodies are in hand.
  pub record AreTakenInHand (old new : Log D) (hand : List (List ℕ)) : Type 0 where
    pub room : old.count + length hand ≤ old.limit
    pub same_count : new.count ≡ old.count
    pub in_hand : HasInHand new hand
    pub holds : (bodies : List (List ℕ)) → Holds g old bodies → HoldsInHand g new bodies hand

  -- There is no room for all of these bodies, and the journal is as it was.
  pub record HasNoRoom (old new : Log D) (hand : List (List ℕ)) (count : ℕ) : Type 0 where
    pub shown : count ≡ old.count
    pub full : old.limit < old.count + length hand
    pub same : new ≡ old

  -- why these bodies were not appended
  abbrev pub AreNotAppended : {F : Type 0} → Log D → Log D → List (List ℕ) → AppendFault D F → Type 0
  AreNotAppended old new hand (Disk failure) = AreTakenInHand old new hand
  AreNotAppended old new hand (Full count) = HasNoRoom old new hand count
