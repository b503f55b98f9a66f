-- There is room for the box of an account, and he whose home is the centre is one.
use Rattle.std.proofs.Common.{◌≡◌, ◌⊎◌, inl, inr, IsTrue, ℕ, ◌<◌, Bool, true, false, eqb, ◌||◌, List, [], ◌∷◌, length, Option, Some, None, true≢false, refl, ap, ◌∙◌, arith}
use Rattle.std.specs.Prelude.{is_some}
use Rattle.std.specs.List.{AllByRecursion, list_any}
use Rattle.std.proofs.lemmas.Bool.{eqb-true}
use Rattle.std.proofs.lemmas.Map.Keys.{IsDistinct-cons}
use Rattle.pv_fields.specs.Reading.{◌>>=◌}
use Rattle.pv_post.specs.Boxes.{Boxes, has_box}
use Rattle.pv_account.specs.Profile.{Profile}
use Rattle.pv_edits.specs.Edits.{account_at}
use Rattle.pv_edits.specs.Sight.{if_at_home}
use Rattle.pv_edits.specs.Letters.{is_home}
use Rattle.pv_edits.specs.Room.{has_editor}
use Rattle.pv_edits.specs.declared.record.Record.{Record}
use Rattle.pv_edits.proofs.CallerLemmas.{accounts_few}
use Rattle.pv_irc.specs.Room.{HaveRoom}

-- ---- the room

-- who is not in a list differs from each who is
all_differ : (owner : ℕ) (owners : List ℕ) → list_any (eqb owner) owners ≡ false → AllByRecursion (λ other. eqb owner other ≡ false) owners
all_differ owner [] none = tt
all_differ owner (other ∷ owners) none = by (eqb owner other) refl none (all_differ owner owners)
  where
    by : (same : Bool) → eqb owner other ≡ same → (same || list_any (eqb owner) owners) ≡ false
        → (list_any (eqb owner) owners ≡ false → AllByRecursion (λ another. eqb owner another ≡ false) owners)
        → AllByRecursion (λ another. eqb owner another ≡ false) (other ∷ owners)
    by true is none rest = absurd (true≢false none)
    by false is none rest = (is, rest none)

module _ (mail : Boxes) (records : List Record) (is : HaveRoom mail records) (to : ℕ) (account : has_editor records to ≡ true) where
  -- he who is an account is an owner, or one of those that may be
  pub room-for_account : IsTrue (has_box mail to) ⊎ (length mail.owners < mail.room)
  room-for_account = by (list_any (eqb to) mail.owners) refl
    where
      one_of : (owner : ℕ) (same : Bool) → eqb owner to ≡ same → (same || list_any (eqb owner) mail.owners) ≡ true
          → has_editor records owner ≡ true
      one_of owner true same has = ap (has_editor records) (eqb-true owner to same) ∙ account
      one_of owner false same has = is.owners owner has

      by : (has : Bool) → list_any (eqb to) mail.owners ≡ has → IsTrue (list_any (eqb to) mail.owners) ⊎ (length mail.owners < mail.room)
      by true has = inl has
      by false none =
          let distinct = IsDistinct-cons eqb to mail.owners (all_differ to mail.owners none) is.distinct in
          let few = accounts_few records (to ∷ mail.owners) distinct (λ owner has. one_of owner (eqb owner to) refl has) in
          inr (omega (arith, few, is.accounts, is.room))

-- ---- at home

-- he whose home is the centre is an account
pub home_is_account : (records : List Record) (centre account : ℕ) → is_home records centre account ≡ true
    → has_editor records account ≡ true
home_is_account records centre account home = by (account_at records account) home
  where
    by : (found : Option Profile) → is_some (found >>= if_at_home centre) ≡ true → is_some found ≡ true
    by None home = home
    by (Some profile) home = refl
