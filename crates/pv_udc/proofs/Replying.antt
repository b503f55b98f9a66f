-- The first place, from one on, of a record that passes a test is found by a search, one place after the other.
use Rattle.std.proofs.Common.{◌≡◌, ℕ, ◌+◌, ◌<◌, Bool, true, false, List, length, get_or, Some, refl, ◌∙◌}
use Rattle.std.specs.List.{position_from}
use Rattle.std.proofs.lemmas.List.{at_drop_more}
use Rattle.pv_edits.specs.declared.record.Record.{Record}
use Rattle.pv_udc.specs.Replies.{place_from}

module _ (test : Record → Bool) (records : List Record) (i : ℕ) (d : Record) (within : i < length records) where
  -- the record at the place is one
  pub place_from-found : test (get_or records i d) ≡ true → place_from test records i ≡ Some i
  place_from-found is = at_drop_more (position_from test i) records i d within ∙ rw is refl

  -- it is none
  pub place_from-passed : test (get_or records i d) ≡ false → place_from test records i ≡ place_from test records (i + 1)
  place_from-passed not = at_drop_more (position_from test i) records i d within ∙ rw not refl
