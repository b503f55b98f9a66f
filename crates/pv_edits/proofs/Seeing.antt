-- What a caller sees by his account is what he sees by its number.
use Rattle.std.proofs.Common.{◌≡◌, ℕ, Bool, true, false, cond, eqb, List, Option, Some, None, refl, sym, ap, ◌∙◌}
use Rattle.std.specs.Prelude.{slice_get}
use Rattle.std.proofs.lemmas.Bool.{eqb-true}
use Rattle.pv_fields.specs.Reading.{◌>>=◌}
use Rattle.pv_account.specs.Profile.{Profile}
use Rattle.pv_post.specs.Boxes.{WaitingLetter}
use Rattle.pv_edits.specs.declared.record.Record.{Record}
use Rattle.pv_edits.specs.declared.record.Record.TheVariants.{Put, Drop, Account, Lease, Taken}
use Rattle.pv_edits.specs.declared.room.TheConstants.{OPERATOR}
use Rattle.pv_edits.specs.Edits.{makes, last_index, account_in, account_or_first, account_at, operator_profile}
use Rattle.pv_edits.specs.OpenPages.{open_frame_at}
use Rattle.pv_edits.specs.Sight.{View, if_at_home, caller_account, oldest_letter, sight_of}
use Rattle.pv_edits.proofs.LastIndex.{last_passes}

-- the account that a record makes has the number
made-number : (number : ℕ) (edit : Record) (profile : Profile) → makes number edit ≡ true → account_in edit ≡ Some profile
    → profile.number ≡ number
made-number number (Put e q n f) profile makes is = absurd cc
made-number number (Drop e q n) profile makes is = absurd cc
made-number number (Account e q a) profile makes is =
    let same : a ≡ profile = cc in
    sym (eqb-true number a.number makes ∙ ap (λ (p : Profile). p.number) same)
made-number number (Lease e q r a) profile makes is = absurd cc
made-number number (Taken t) profile makes is = absurd cc

-- the account of a number has the number
account_at-number : (records : List Record) (number : ℕ) (profile : Profile) → account_at records number ≡ Some profile
    → profile.number ≡ number
account_at-number records number profile is = by (last_index (makes number) records) refl is
  where
    first : (his : Bool) → eqb number OPERATOR ≡ his → cond his (Some operator_profile) None ≡ Some profile → profile.number ≡ number
    first true his is =
        let same : operator_profile ≡ profile = cc in
        sym (eqb-true number OPERATOR his ∙ ap (λ (p : Profile). p.number) same)
    first false his is = absurd cc

    there : (i : ℕ) (found : Option Record) → last_index (makes number) records ≡ Some i → slice_get records i ≡ found
        → account_or_first number found ≡ Some profile → profile.number ≡ number
    there i None at found is = first (eqb number OPERATOR) refl is
    there i (Some edit) at found is = made-number number edit profile (last_passes (makes number) records i edit at found) is

    by : (found : Option ℕ) → last_index (makes number) records ≡ found
        → account_or_first number (found >>= slice_get records) ≡ Some profile → profile.number ≡ number
    by None at is = first (eqb number OPERATOR) refl is
    by (Some i) at is = there i (slice_get records i) at refl is

module _ (records : List Record) (letters : ℕ → List WaitingLetter) where
  -- what a caller sees: with no account, no page and no letter
  abbrev pub view_by : Option Profile → View
  view_by account = record {
    account = account;
    pages = λ name. account >>= λ profile. open_frame_at records profile.groups name;
    letter = account >>= λ profile. oldest_letter (letters profile.number);
  }

  -- it is what the caller who gave its number sees
  pub view_by-account : (centre : ℕ) (caller : Option ℕ)
      → view_by (caller_account records centre caller) ≡ sight_of records letters centre caller
  view_by-account centre None = refl
  view_by-account centre (Some number) = by (account_at records number) refl
    where
      Sees : Option Profile → Type 0
      Sees found = view_by (found >>= if_at_home centre) ≡ record {
        account = found >>= if_at_home centre;
        pages = λ name. (found >>= if_at_home centre) >>= λ account. found >>= λ profile. open_frame_at records profile.groups name;
        letter = (found >>= if_at_home centre) >>= λ account. oldest_letter (letters number);
      }

      at_home : (profile : Profile) → profile.number ≡ number → (home : Bool) → eqb profile.home centre ≡ home → Sees (Some profile)
      at_home profile his true home = rw home (λ i. record {
        account = Some profile;
        pages = λ name. open_frame_at records profile.groups name;
        letter = oldest_letter (letters (his i));
      })
      at_home profile his false home = rw home refl

      by : (found : Option Profile) → account_at records number ≡ found
          → view_by (caller_account records centre (Some number)) ≡ sight_of records letters centre (Some number)
      by None is = rw is refl
      by (Some profile) is = rw is (at_home profile (account_at-number records number profile is) (eqb profile.home centre) refl)
