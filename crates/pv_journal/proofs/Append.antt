-- What each image of a disk spells, over each call of the disk that an append makes, and what both writes make of its text.
use Rattle.std.proofs.Common.{◌≡◌, ℕ, ◌+◌, ◌<◌, List, [], ◌∷◌, ◌++◌, length, Option, Some, None, IfSome, refl, sym, subst, ap, append_assoc, All, rules}
use Rattle.std.proofs.lemmas.List.{length-take-le, take-append-le, take-take, drop_at}
use Rattle.std.specs.Option.{option_map}
use Rattle.pv_outside.specs.Disk.{text_after_write}
use Rattle.pv_outside.specs.declared.reports.Reports as reports
use Rattle.pv_journal.specs.Text.{IsBody, HasClosedGate, text_of, Spells, bytes_behind}
use Rattle.pv_journal.specs.Journal.{EachImage}
use Rattle.pv_journal.proofs.Crash.{staged, stored, IsStaged}
use Rattle.pv_journal.proofs.Images.{if_map, text_of_each}

module _ {D : Type 0} (g : reports.Ghosts D) (left : (d : D) → IfSome (g.reads d) (g.may_leave d)) (bodies : List (List ℕ)) (first : List ℕ)
    (others : List (List ℕ)) (gate : ℕ) (is : gate ≡ length (text_of bodies)) (old new : D) where
  -- once the write after the gate has succeeded, the disk reads as these bodies with the further ones whole after the closed gate
  pub behind_text : (bytes : List ℕ) → bytes ≡ bytes_behind (first ∷ others)
      → g.reads new ≡ option_map (text_after_write (gate + 1) bytes) (g.reads old)
      → EachImage g old (λ image. Spells image bodies) → IfSome (g.reads new) (IsStaged bodies (first ∷ others))
  behind_text bytes same written each =
      if_map (text_after_write (gate + 1) bytes) (λ image. Spells image bodies) (IsStaged bodies (first ∷ others))
      (g.reads old) (g.reads new) (λ text spells.
      subst (λ (b : List ℕ). IsStaged bodies (first ∷ others) (text_after_write (gate + 1) b text)) (sym same)
      (staged bodies (gate + 1) (first ∷ others) text (ap (λ (n : ℕ). n + 1) is) spells))
      written (text_of_each g old (λ image. Spells image bodies) (left old) each)

  module _ (sized : All IsBody (first ∷ others)) where
    -- once the write at the gate has succeeded, the disk reads as the longer list
    pub gate_text : g.reads new ≡ option_map (text_after_write gate (1 ∷ [])) (g.reads old)
        → EachImage g old (IsStaged bodies (first ∷ others))
        → IfSome (g.reads new) (λ text. Spells text (bodies ++ first ∷ others))
    gate_text written each = search (rules, if_map, staged, stored, text_of_each)

-- both writes of an append put the blocks of the bodies and a closed gate over the gate that was closed, and no other byte
both_writes : (gate : ℕ) (bytes text : List ℕ) → gate < length text
    → text_after_write gate (1 ∷ []) (text_after_write (gate + 1) bytes text) ≡ text_after_write gate (1 ∷ bytes) text
both_writes gate bytes text within = search (rules, length-take-le, append_assoc, take-append-le, take-take, drop_at)

-- so do they to a disk, if it reports its bytes
pub both_written : (old : Option (List ℕ)) (gate : ℕ) (bytes : List ℕ) → IfSome old (HasClosedGate gate)
    → option_map (text_after_write gate (1 ∷ [])) (option_map (text_after_write (gate + 1) bytes) old)
    ≡ option_map (text_after_write gate (1 ∷ bytes)) old
both_written None gate bytes closed = refl
both_written (Some text) gate bytes closed = ap Some (both_writes gate bytes text closed.0)
