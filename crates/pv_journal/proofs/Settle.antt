-- What a sync and a look at the gate report of the bodies in hand.
use Rattle.std.proofs.Common.{◌≡◌, ◌≢◌, ℕ, ◌+◌, List, ◌∷◌, ◌++◌, length, get_or, IfSome, sym, ◌∙◌, ap, rules}
use Rattle.std.specs.List.{slice_range}
use Rattle.std.proofs.lemmas.List.{get_or-take, get_or-drop}
use Rattle.pv_outside.specs.Disk.{NoMore}
use Rattle.pv_outside.specs.declared.reports.Reports as reports
use Rattle.pv_journal.specs.Text.{text_of, Spells, SpellsEither}
use Rattle.pv_journal.specs.Journal.{EachImage, IsDurable}
use Rattle.pv_journal.proofs.Counted.{is_stored, is_dropped}
use Rattle.pv_journal.proofs.Images.{if_both, text_of_each, each_kept, each_synced}

-- a read of one byte gives the byte at that place
byte_read : (text into : List ℕ) (at : ℕ) → into ≡ slice_range text at (at + 1) → get_or into 0 0 ≡ get_or text at 0
byte_read text into at read = search (rules, get_or-take, get_or-drop)

module _ {D : Type 0} (g : reports.Ghosts D) (left : (d : D) → IfSome (g.reads d) (g.may_leave d)) (old synced now : D) (gate : ℕ)
    (into : List ℕ) (bodies : List (List ℕ)) (first : List ℕ) (others : List (List ℕ)) (is : gate ≡ length (text_of bodies))
    (each : EachImage g old (SpellsEither bodies (first ∷ others))) (same : g.reads synced ≡ g.reads old)
    (no_more : NoMore (g.may_leave old) (g.may_leave synced)) (durable : IsDurable g synced)
    (read : IfSome (g.reads synced) (λ text. into ≡ slice_range text gate (gate + 1))) (same_now : g.reads now ≡ g.reads synced)
    (no_more_now : NoMore (g.may_leave synced) (g.may_leave now)) where
  -- after the sync the disk reads as the list without the bodies in hand or with them
  either : IfSome (g.reads synced) (SpellsEither bodies (first ∷ others))
  either = search (rules, text_of_each, each_kept)

  -- the byte that was read is the one at the gate
  byte : (text : List ℕ) → into ≡ slice_range text gate (gate + 1) → get_or text (length (text_of bodies)) 0 ≡ get_or into 0 0
  byte text here = sym (byte_read text into gate here ∙ ap (λ (n : ℕ). get_or text n 0) is)

  -- if the gate that was read is open, each image of the disk spells the list with the bodies in hand
  pub found_stored : get_or into 0 0 ≡ 1 → EachImage g now (λ image. Spells image (bodies ++ first ∷ others))
  found_stored is_open = search (rules, each_kept, each_synced, if_both, is_stored, byte, either)

  -- if it is not, each image spells the list without them
  pub found_dropped : get_or into 0 0 ≢ 1 → EachImage g now (λ image. Spells image bodies)
  found_dropped shut = search (rules, each_kept, each_synced, if_both, is_dropped, byte, either)
