-- No spelling of a centre's record is a prefix of another's.
use Rattle.std.proofs.Common.{◌≡◌, ℕ, List, ◌∷◌, ◌++◌, sym, ap, ◌∙◌, append_assoc, refl}
use Rattle.std.specs.Int.{w64, to_be_bytes}
use Rattle.pv_fields.specs.Reading.{ReadsBack}
use Rattle.pv_fields.proofs.Readings.{Reads-eight, Reads-back}
use Rattle.pv_page.specs.Spelling.{account_bytes}
use Rattle.pv_page.proofs.Spellings.{Reads-account}
use Rattle.pv_post.specs.Spelling.{IsItem, item_bytes}
use Rattle.pv_edits.specs.Record.{IsRecord, record_bytes}
use Rattle.pv_edits.specs.Down.{IsDown, down_bytes}
use Rattle.pv_edits.specs.declared.record.Record.TheVariants.{Put, Drop, Account, Lease, Taken}
use Rattle.pv_edits.specs.declared.down.DownRecord.TheVariants.{Whole, Blank}
use Rattle.pv_irc.specs.Record.{IsCentreRecord, applied_bytes, removed_bytes, centre_bytes}
use Rattle.pv_irc.specs.declared.record.CentreRecord.TheVariants.{Applied, LogOn, Kept, Removed}

-- what came down is read back
ReadsBack-down : ReadsBack IsRecord record_bytes → ReadsBack IsDown down_bytes
unfolding down_bytes record_bytes
ReadsBack-down back (Whole one) (Whole other) more rest is_one is_other same =
    let both = back one other more rest is_one is_other same in (ap Whole both.0, both.1)
ReadsBack-down back Blank Blank more rest is_one is_other same = (refl, cc)
ReadsBack-down back (Whole (Put e q n f)) Blank more rest is_one is_other same = absurd cc
ReadsBack-down back (Whole (Drop e q n)) Blank more rest is_one is_other same = absurd cc
ReadsBack-down back (Whole (Account e q a)) Blank more rest is_one is_other same = absurd cc
ReadsBack-down back (Whole (Lease e q r a)) Blank more rest is_one is_other same = absurd cc
ReadsBack-down back (Whole (Taken t)) Blank more rest is_one is_other same = absurd cc
ReadsBack-down back Blank (Whole (Put e q n f)) more rest is_one is_other same = absurd cc
ReadsBack-down back Blank (Whole (Drop e q n)) more rest is_one is_other same = absurd cc
ReadsBack-down back Blank (Whole (Account e q a)) more rest is_one is_other same = absurd cc
ReadsBack-down back Blank (Whole (Lease e q r a)) more rest is_one is_other same = absurd cc
ReadsBack-down back Blank (Whole (Taken t)) more rest is_one is_other same = absurd cc

-- the bytes after equal first bytes
after : (x y : ℕ) (xs ys : List ℕ) → x ∷ xs ≡ y ∷ ys → xs ≡ ys
after x y xs ys same = cc

-- a record
pub ReadsBack-centre : ReadsBack IsRecord record_bytes → ReadsBack IsItem item_bytes → ReadsBack IsCentreRecord centre_bytes
unfolding centre_bytes applied_bytes removed_bytes
ReadsBack-centre record_back item_back (Applied n one) (Applied m other) more rest is_one is_other same =
    let bytes = sym (append_assoc (to_be_bytes w64 n) (down_bytes one) more) ∙ after 1 1 _ _ same
    ∙ append_assoc (to_be_bytes w64 m) (down_bytes other) rest in
    let head = Reads-back _ _ _ Reads-eight n m (down_bytes one ++ more) (down_bytes other ++ rest) is_one.0 is_other.0 bytes in
    let body = ReadsBack-down record_back one other more rest is_one.1 is_other.1 head.1 in
    (λ i. Applied (head.0 i) (body.0 i), body.1)
ReadsBack-centre record_back item_back (LogOn one) (LogOn other) more rest is_one is_other same =
    let both = Reads-back _ _ _ Reads-account one other more rest is_one is_other (after 2 2 _ _ same) in (ap LogOn both.0, both.1)
ReadsBack-centre record_back item_back (Kept one) (Kept other) more rest is_one is_other same =
    let both = item_back one other more rest is_one is_other (after 3 3 _ _ same) in (ap Kept both.0, both.1)
ReadsBack-centre record_back item_back (Removed one n) (Removed other m) more rest is_one is_other same =
    let bytes = sym (append_assoc (account_bytes one) (to_be_bytes w64 n) more) ∙ after 4 4 _ _ same
    ∙ append_assoc (account_bytes other) (to_be_bytes w64 m) rest in
    let head = Reads-back _ _ _ Reads-account one other (to_be_bytes w64 n ++ more) (to_be_bytes w64 m ++ rest) is_one.0 is_other.0 bytes in
    let body = Reads-back _ _ _ Reads-eight n m more rest is_one.1 is_other.1 head.1 in
    (λ i. Removed (head.0 i) (body.0 i), body.1)
ReadsBack-centre record_back item_back one other more rest is_one is_other same = absurd cc
