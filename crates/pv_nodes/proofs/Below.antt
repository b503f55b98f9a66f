-- Charges and replies change nothing that a centre shows.
use Rattle.std.proofs.Common.{◌≡◌, ◌⊎◌, inl, inr, ℕ, ◌+◌, ◌-◌, Bool, true, false, cond, take, List, [], ◌∷◌, ◌++◌, map, Option, Some, None, refl, ap, sym, subst, ◌∙◌}
use Rattle.std.specs.Prelude.{is_some, slice_get, option_map, if◌then◌else◌}
use Rattle.std.proofs.lemmas.List.{append-nil, append_assoc, map-append, take-map}
use Rattle.std.proofs.lemmas.List.Elements.{filter_map-append}
use Rattle.std.proofs.lemmas.Option.{slice_get-map}
use Rattle.pv_outside.specs.declared.limits.Limits.{Limits}
use Rattle.pv_page.specs.Names.{Name}
use Rattle.pv_post.specs.Boxes.{WaitingLetter}
use Rattle.pv_post.specs.declared.item.Item.{Item}
use Rattle.pv_post.specs.declared.item.Item.TheVariants.{Charge, Reply, Mail}
use Rattle.pv_edits.specs.Edits.{names, makes, leases, last_index, last_record, frame_at, account_at, frame_in, account_or_first}
use Rattle.pv_edits.specs.OpenPages.{open_pages}
use Rattle.pv_edits.specs.Room.{frames_after, accounts_after, leases_after, frame_count, account_count, lease_count, has_room}
use Rattle.pv_edits.specs.Letters.{is_home, mail_of, mail_in, letter_to, letter_brought, letter_at}
use Rattle.pv_edits.specs.Sight.{sight_of, if_at_home, oldest_letter}
use Rattle.pv_edits.specs.Taken.{TakenUp}
use Rattle.pv_edits.specs.declared.record.Record.{Record}
use Rattle.pv_edits.specs.declared.record.Record.TheVariants.{Put, Drop, Account, Lease, Taken}
use Rattle.pv_edits.proofs.CallerLemmas.{frame_count-push, account_count-push, lease_count-push, last_record-push, has_last-push}
use Rattle.pv_fields.specs.Reading.{◌>>=◌}
use Rattle.pv_udc.specs.Replies.{down_of, down_of_item}
use Rattle.pv_irc.specs.History.{whole_in, whole_records, letter_down}
use Rattle.pv_nodes.specs.Below.{records_below}

-- ---- one record more

-- the record is an item that was taken up
abbrev IsItem : Record → Type 0
IsItem edit = (taken : TakenUp) × (edit ≡ Taken taken)

-- it comes down, or it is an item
below_one : (edit : Record) → (records_below (edit ∷ []) ≡ edit ∷ []) ⊎ ((records_below (edit ∷ []) ≡ []) × IsItem edit)
below_one (Put editor q name frame) = inl refl
below_one (Drop editor q name) = inl refl
below_one (Account editor q account) = inl refl
below_one (Lease editor q root account) = inl refl
below_one (Taken taken) = of_item taken.item refl
  where
    of_item : (item : Item) → taken.item ≡ item
        → (records_below (Taken taken ∷ []) ≡ Taken taken ∷ []) ⊎ ((records_below (Taken taken ∷ []) ≡ []) × IsItem (Taken taken))
    of_item (Charge line) is = inr (rw is refl, (taken, refl))
    of_item (Reply reply) is = inr (rw is refl, (taken, refl))
    of_item (Mail mail) is = inl (rw is refl)

-- what comes down of a longer list
below-push : (records : List Record) (edit : Record) → records_below (records ++ edit ∷ []) ≡ records_below records ++ records_below (edit ∷ [])
below-push records edit =
    ap whole_records (map-append down_of records (edit ∷ [])) ∙ filter_map-append whole_in (map down_of records) (map down_of (edit ∷ []))

-- ---- what is found by going over the records

-- Something is found by a step for each record, which passes over items, and which finds the same on what came down.
module _ {X : Type 0} (found : List Record → X) (step : List Record → X → Record → X)
    (pushes : (records : List Record) (edit : Record) → found (records ++ edit ∷ []) ≡ step records (found records) edit)
    (passes : (records : List Record) (x : X) (taken : TakenUp) → step records x (Taken taken) ≡ x)
    (agrees : (records : List Record) (x : X) (edit : Record) → step (records_below records) x edit ≡ step records x edit) where
  -- with one record more
  push : (records : List Record) (edit : Record) → found (records_below records) ≡ found records
      → found (records_below (records ++ edit ∷ [])) ≡ found (records ++ edit ∷ [])
  push records edit is = rw (below-push records edit) (by (below_one edit))
    where
      by : (records_below (edit ∷ []) ≡ edit ∷ []) ⊎ ((records_below (edit ∷ []) ≡ []) × IsItem edit)
          → found (records_below records ++ records_below (edit ∷ [])) ≡ found (records ++ edit ∷ [])
      by (inl comes) = rw comes
          (pushes (records_below records) edit ∙ ap (λ x. step (records_below records) x edit) is ∙ agrees records (found records) edit
          ∙ sym (pushes records edit))
      by (inr stays) = rw (stays.0, append-nil (records_below records))
          (is ∙ sym (passes records (found records) stays.1.0) ∙ ap (step records (found records)) (sym stays.1.1) ∙ sym (pushes records edit))

  -- from any records on
  from : (before later : List Record) → found (records_below before) ≡ found before
      → found (records_below (before ++ later)) ≡ found (before ++ later)
  from before [] is = rw (append-nil before) is
  from before (edit ∷ later) is =
      subst (λ (l : List Record). found (records_below l) ≡ found l) (append_assoc before (edit ∷ []) later)
      (from (before ++ edit ∷ []) later (push before edit is))

  -- over all records it is the same
  same_below : (records : List Record) → found (records_below records) ≡ found records
  same_below records = from [] records refl

-- ---- frames, accounts and leases

-- a test that no item passes finds the same last record
module _ (test : Record → Bool) (no_item : (taken : TakenUp) → test (Taken taken) ≡ false) where
  last_below : (records : List Record) → last_record test (records_below records) ≡ last_record test records
  last_below = same_below (last_record test) (λ records last edit. if test edit then Some edit else last) (last_record-push test)
      (λ records last taken. rw (no_item taken) refl) (λ records last edit. refl)

  has_below : (records : List Record) → is_some (last_index test (records_below records)) ≡ is_some (last_index test records)
  has_below = same_below (λ records. is_some (last_index test records)) (λ records has edit. if test edit then true else has)
      (has_last-push test) (λ records has taken. rw (no_item taken) refl) (λ records has edit. refl)

pub frame_below : (records : List Record) (name : Name) → frame_at (records_below records) name ≡ frame_at records name
frame_below records name = ap (λ last. last >>= frame_in) (last_below (names name) (λ taken. refl) records)

pub account_below : (records : List Record) (number : ℕ) → account_at (records_below records) number ≡ account_at records number
account_below records number = ap (account_or_first number) (last_below (makes number) (λ taken. refl) records)

lease_below : (records : List Record) (root : ℕ) → is_some (last_index (leases root) (records_below records)) ≡ is_some (last_index (leases root) records)
lease_below records root = has_below (leases root) (λ taken. refl) records

-- ---- how many there are

frames_agree : (records : List Record) (count : ℕ) (edit : Record) → frames_after (records_below records) count edit ≡ frames_after records count edit
frames_agree records count (Put editor q name frame) = rw (frame_below records name) refl
frames_agree records count (Drop editor q name) = rw (frame_below records name) refl
frames_agree records count (Account editor q account) = refl
frames_agree records count (Lease editor q root account) = refl
frames_agree records count (Taken taken) = refl

pub frame_count_below : (records : List Record) → frame_count (records_below records) ≡ frame_count records
frame_count_below = same_below frame_count frames_after frame_count-push (λ records count taken. refl) frames_agree

accounts_agree : (records : List Record) (count : ℕ) (edit : Record)
    → accounts_after (records_below records) count edit ≡ accounts_after records count edit
accounts_agree records count (Put editor q name frame) = refl
accounts_agree records count (Drop editor q name) = refl
accounts_agree records count (Account editor q account) = rw (account_below records account.number) refl
accounts_agree records count (Lease editor q root account) = refl
accounts_agree records count (Taken taken) = refl

pub account_count_below : (records : List Record) → account_count (records_below records) ≡ account_count records
account_count_below = same_below account_count accounts_after account_count-push (λ records count taken. refl) accounts_agree

leases_agree : (records : List Record) (count : ℕ) (edit : Record) → leases_after (records_below records) count edit ≡ leases_after records count edit
leases_agree records count (Put editor q name frame) = refl
leases_agree records count (Drop editor q name) = refl
leases_agree records count (Account editor q account) = refl
leases_agree records count (Lease editor q root account) = rw (lease_below records root) refl
leases_agree records count (Taken taken) = refl

pub lease_count_below : (records : List Record) → lease_count (records_below records) ≡ lease_count records
lease_count_below = same_below lease_count leases_after lease_count-push (λ records count taken. refl) leases_agree

-- ---- room, sights and letters

pub room_below : (limits : Limits) (records : List Record) (edit : Record)
    → has_room limits (records_below records) edit ≡ has_room limits records edit
room_below limits records (Put editor q name frame) =
    rw (account_below records editor, frame_below records name, frame_count_below records) refl
room_below limits records (Drop editor q name) = rw (account_below records editor) refl
room_below limits records (Account editor q account) =
    rw (account_below records editor, account_below records account.number, account_count_below records) refl
room_below limits records (Lease editor q root account) =
    rw (account_below records editor, lease_below records root, lease_count_below records) refl
room_below limits records (Taken taken) = refl

-- the pages of an account
pages_below : (records : List Record) (number : ℕ) (name : Name) → open_pages (records_below records) number name ≡ open_pages records number name
pages_below records number name = rw (account_below records number, frame_below records name) refl

pub sight_below : (records : List Record) (letters : ℕ → List WaitingLetter) (centre : ℕ) (caller : Option ℕ)
    → sight_of (records_below records) letters centre caller ≡ sight_of records letters centre caller
sight_below records letters centre None = refl
sight_below records letters centre (Some number) = λ i. record {
  account = account_below records number i >>= if_at_home centre;
  pages = λ name. (account_below records number i >>= if_at_home centre) >>= λ account. pages_below records number name i;
  letter = (account_below records number i >>= if_at_home centre) >>= λ account. oldest_letter (letters number);
}

-- the letter that a record brings, by what comes down of it
module _ (centre account : ℕ) (before : List Record) (place : ℕ) where
  letter-below_one : (edit : Record) → (whole_in (down_of edit) >>= letter_brought centre account (records_below before) place)
      ≡ letter_brought centre account before place edit
  letter-below_one edit = by edit ∙ ap (λ found. cond (is_some (found >>= if_at_home centre)) (mail_in edit >>= letter_to account place) None)
      (account_below before account)
    where
      nothing : Option WaitingLetter
      nothing = None

      none : (home : Bool) → nothing ≡ cond home nothing nothing
      none true = refl
      none false = refl

      of_item : (item : Item) (taken : TakenUp) → taken.item ≡ item
          → (whole_in (down_of_item item taken) >>= letter_brought centre account (records_below before) place)
          ≡ cond (is_home (records_below before) centre account) (mail_of item >>= letter_to account place) None
      of_item (Charge line) taken is = none (is_home (records_below before) centre account)
      of_item (Reply reply) taken is = none (is_home (records_below before) centre account)
      of_item (Mail mail) taken is = rw is refl

      by : (edit : Record) → (whole_in (down_of edit) >>= letter_brought centre account (records_below before) place)
          ≡ letter_brought centre account (records_below before) place edit
      by (Put editor q name frame) = refl
      by (Drop editor q name) = refl
      by (Account editor q profile) = refl
      by (Lease editor q root lessee) = refl
      by (Taken taken) = of_item taken.item taken refl

pub letter_below : (records : List Record) (centre account place : ℕ)
    → letter_down centre account (map down_of records) place ≡ letter_at records centre account place
letter_below records centre account place =
    (λ i. slice_get-map down_of records place i >>= whole_in >>= letter_brought centre account (whole_records (take-map down_of place records i)) place)
    ∙ by (slice_get records place)
  where
    by : (found : Option Record) → (option_map down_of found >>= whole_in >>= letter_brought centre account (records_below (take place records)) place)
        ≡ (found >>= letter_brought centre account (take place records) place)
    by None = refl
    by (Some edit) = letter-below_one centre account (take place records) place edit
