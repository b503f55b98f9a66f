-- No spelling of a record is a prefix of another's, and none of what goes down.
use Rattle.std.proofs.Common.{◌≡◌, ℕ, List, ◌∷◌, ◌++◌, ap, refl, sym, ◌∙◌, append_assoc}
use Rattle.std.specs.Int.{w32, to_be_bytes}
use Rattle.pv_fields.specs.Reading.{Parser, Reads, ReadsBack}
use Rattle.pv_fields.proofs.Readings.{Reads-four, ◌&◌, Reads-back}
use Rattle.pv_page.specs.Names.{Name}
use Rattle.pv_page.specs.Spelling.{account_bytes, name_bytes}
use Rattle.pv_page.proofs.Spellings.{Reads-page, Reads-account, Reads-name}
use Rattle.pv_frame.specs.Spelling.{spelling_of}
use Rattle.pv_frame.proofs.OneSpelling.{ReadsBack-frame}
use Rattle.pv_account.proofs.CallerLemmas.{Reads-profile}
use Rattle.pv_edits.specs.Record.{IsRecord, record_bytes, put_bytes, drop_bytes, account_edit_bytes, lease_bytes}
use Rattle.pv_edits.specs.Down.{IsDown, down_bytes}
use Rattle.pv_edits.specs.declared.record.Record.TheVariants.{Put, Drop, Account, Lease, Taken}
use Rattle.pv_edits.specs.declared.down.DownRecord.TheVariants.{Whole, Blank}
use Rattle.pv_edits.proofs.CallerLemmas.{Reads-taken}

-- of a value that is read and one that is read back
ReadsBack-then : {A B : Type 0} {HasA : A → Type 0} {readA : Parser A} {HasB : B → Type 0} (spellA : A → List ℕ) (spellB : B → List ℕ)
    → Reads HasA spellA readA → ReadsBack HasB spellB → ReadsBack (λ (x : A × B). HasA x.0 × HasB x.1) (λ x. spellA x.0 ++ spellB x.1)
ReadsBack-then spellA spellB first second a b more rest ha hb same =
    let head = Reads-back _ _ _ first a.0 b.0 (spellB a.1 ++ more) (spellB b.1 ++ rest) ha.0 hb.0
    (sym (append_assoc (spellA a.0) (spellB a.1) more) ∙ same ∙ append_assoc (spellA b.0) (spellB b.1) rest) in
    let tail = second a.1 b.1 more rest ha.1 hb.1 head.1 in
    (ap (λ x. (x, a.1)) head.0 ∙ ap (λ x. (b.0, x)) tail.0, tail.1)

-- the bytes after equal first bytes
after : (x y : ℕ) (xs ys : List ℕ) → x ∷ xs ≡ y ∷ ys → xs ≡ ys
after x y xs ys same = cc

-- who edits, his number, and a name
abbrev named_bytes : ℕ × (ℕ × Name) → List ℕ
named_bytes x = account_bytes x.0 ++ (to_be_bytes w32 x.1.0 ++ name_bytes x.1.1)

-- a record
pub ReadsBack-record : ReadsBack IsRecord record_bytes
unfolding record_bytes put_bytes drop_bytes account_edit_bytes lease_bytes
ReadsBack-record (Put e q n f) (Put e' q' n' f') more rest ha hb same =
    let one = ReadsBack-then named_bytes spelling_of (Reads-account & Reads-four & Reads-name) ReadsBack-frame
    ((e, (q, n)), f) ((e', (q', n')), f') more rest
    ((ha.0.account, (ha.0.number, ha.1.0)), ha.1.1) ((hb.0.account, (hb.0.number, hb.1.0)), hb.1.1) (after 1 1 _ _ same) in
    (ap (λ x. Put x.0.0 x.0.1.0 x.0.1.1 x.1) one.0, one.1)
ReadsBack-record (Put e q n f) (Drop e' q' n') more rest ha hb same = absurd cc
ReadsBack-record (Put e q n f) (Account e' q' a') more rest ha hb same = absurd cc
ReadsBack-record (Put e q n f) (Lease e' q' r' a') more rest ha hb same = absurd cc
ReadsBack-record (Put e q n f) (Taken t') more rest ha hb same = absurd cc
ReadsBack-record (Drop e q n) (Put e' q' n' f') more rest ha hb same = absurd cc
ReadsBack-record (Drop e q n) (Drop e' q' n') more rest ha hb same =
    let one = Reads-back _ _ _ (Reads-account & Reads-four & Reads-name) (e, (q, n)) (e', (q', n')) more rest
    (ha.0.account, (ha.0.number, ha.1)) (hb.0.account, (hb.0.number, hb.1)) (after 2 2 _ _ same) in
    (ap (λ x. Drop x.0 x.1.0 x.1.1) one.0, one.1)
ReadsBack-record (Drop e q n) (Account e' q' a') more rest ha hb same = absurd cc
ReadsBack-record (Drop e q n) (Lease e' q' r' a') more rest ha hb same = absurd cc
ReadsBack-record (Drop e q n) (Taken t') more rest ha hb same = absurd cc
ReadsBack-record (Account e q a) (Put e' q' n' f') more rest ha hb same = absurd cc
ReadsBack-record (Account e q a) (Drop e' q' n') more rest ha hb same = absurd cc
ReadsBack-record (Account e q a) (Account e' q' a') more rest ha hb same =
    let one = Reads-back _ _ _ (Reads-account & Reads-four & Reads-profile) (e, (q, a)) (e', (q', a')) more rest
    (ha.0.account, (ha.0.number, ha.1)) (hb.0.account, (hb.0.number, hb.1)) (after 3 3 _ _ same) in
    (ap (λ x. Account x.0 x.1.0 x.1.1) one.0, one.1)
ReadsBack-record (Account e q a) (Lease e' q' r' a') more rest ha hb same = absurd cc
ReadsBack-record (Account e q a) (Taken t') more rest ha hb same = absurd cc
ReadsBack-record (Lease e q r a) (Put e' q' n' f') more rest ha hb same = absurd cc
ReadsBack-record (Lease e q r a) (Drop e' q' n') more rest ha hb same = absurd cc
ReadsBack-record (Lease e q r a) (Account e' q' a') more rest ha hb same = absurd cc
ReadsBack-record (Lease e q r a) (Lease e' q' r' a') more rest ha hb same =
    let one = Reads-back _ _ _ (Reads-account & Reads-four & Reads-page & Reads-account) (e, (q, (r, a))) (e', (q', (r', a'))) more rest
    (ha.0.account, (ha.0.number, ha.1)) (hb.0.account, (hb.0.number, hb.1)) (after 4 4 _ _ same) in
    (ap (λ x. Lease x.0 x.1.0 x.1.1.0 x.1.1.1) one.0, one.1)
ReadsBack-record (Lease e q r a) (Taken t') more rest ha hb same = absurd cc
ReadsBack-record (Taken t) (Put e' q' n' f') more rest ha hb same = absurd cc
ReadsBack-record (Taken t) (Drop e' q' n') more rest ha hb same = absurd cc
ReadsBack-record (Taken t) (Account e' q' a') more rest ha hb same = absurd cc
ReadsBack-record (Taken t) (Lease e' q' r' a') more rest ha hb same = absurd cc
ReadsBack-record (Taken t) (Taken t') more rest ha hb same =
    let one = Reads-back _ _ _ Reads-taken t t' more rest ha hb (after 5 5 _ _ same) in
    (ap Taken one.0, one.1)

-- what goes down is read back
pub ReadsBack-down : ReadsBack IsDown down_bytes
unfolding down_bytes record_bytes
ReadsBack-down (Whole one) (Whole other) more rest is_one is_other same =
    let both = ReadsBack-record one other more rest is_one is_other same in (ap Whole both.0, both.1)
ReadsBack-down Blank Blank more rest is_one is_other same = (refl, cc)
ReadsBack-down (Whole (Put e q n f)) Blank more rest is_one is_other same = absurd cc
ReadsBack-down (Whole (Drop e q n)) Blank more rest is_one is_other same = absurd cc
ReadsBack-down (Whole (Account e q a)) Blank more rest is_one is_other same = absurd cc
ReadsBack-down (Whole (Lease e q r a)) Blank more rest is_one is_other same = absurd cc
ReadsBack-down (Whole (Taken t)) Blank more rest is_one is_other same = absurd cc
ReadsBack-down Blank (Whole (Put e q n f)) more rest is_one is_other same = absurd cc
ReadsBack-down Blank (Whole (Drop e q n)) more rest is_one is_other same = absurd cc
ReadsBack-down Blank (Whole (Account e q a)) more rest is_one is_other same = absurd cc
ReadsBack-down Blank (Whole (Lease e q r a)) more rest is_one is_other same = absurd cc
ReadsBack-down Blank (Whole (Taken t)) more rest is_one is_other same = absurd cc
