-- What a proof in a crate above may cite: records are read as they are spelled, how long they are, and what one record more does to a list.
pub use Rattle.pv_edits.proofs.Accounts.{account_stays, accounts-within, accounts_few}
pub use Rattle.pv_edits.proofs.Counting.{frame_count-push, account_count-push, lease_count-push}
pub use Rattle.pv_edits.proofs.Growing.{last_of-push, has_operator}
pub use Rattle.pv_edits.proofs.Lengths.{length-item, length-record, length-down}
pub use Rattle.pv_edits.proofs.LastIndex.{get_before, get_at_end}
pub use Rattle.pv_edits.proofs.LastRecord.{last_record-push, has_last-push}
use Rattle.std.proofs.Common.{◌≡◌, ℕ, zero, suc, List, [], ◌++◌, Some, Result, Ok, Err, refl, ap, lit<, arith}
use Rattle.std.specs.Result.{result_ok}
use Rattle.pv_fields.specs.Reading.{Reads, ReadsLast}
use Rattle.pv_fields.proofs.Readings.{Reads-byte, Reads-four, Reads-eight, Reads-within, ◌&◌, Reads-map, Reads-rest, at_end, Reads-cases, FindsCase, finds_none, finds_case, case_again}
use Rattle.pv_page.proofs.Spellings.{Reads-page, Reads-account, Reads-name}
use Rattle.pv_frame.specs.Spelling.{HasSpelling, spelling_of}
use Rattle.pv_frame.specs.Reading.{decode_of}
use Rattle.pv_frame.proofs.RoundTrip.{decode_of-spelling, is_found}
use Rattle.pv_account.proofs.CallerLemmas.{Reads-profile}
use Rattle.pv_account.specs.declared.account.TheConstants.{LAST_CENTRE}
use Rattle.pv_post.proofs.CallerLemmas.{Reads-item}
use Rattle.pv_edits.specs.Taken.{IsTakenUp, taken_bytes, taken_at}
use Rattle.pv_edits.specs.Record.{IsRecord, record_tag, record_body, record_bytes, record_after, record_at, frame_of_bytes, frame_at_end, put_bytes, put_at, drop_bytes, drop_at, account_edit_bytes, account_edit_at, lease_bytes, lease_at}
use Rattle.pv_edits.specs.declared.record.Record.{Record}
use Rattle.pv_edits.specs.declared.record.Record.TheVariants.{Put, Drop, Account, Lease, Taken}

-- an item that was taken up
pub Reads-taken : Reads IsTakenUp taken_bytes taken_at
unfolding taken_at taken_bytes
Reads-taken =
    Reads-map _ (Reads-within 0 LAST_CENTRE (lit< tt) Reads-byte & Reads-eight & Reads-item)
    (record {
      has = λ x h. record { centre = h.0.1; k = h.1.0; item = h.1.1 };
      spell = λ x. refl;
      part = λ t h. ((t.centre, (t.k, t.item)), ((omega arith, h.centre), (h.k, h.item)), refl);
    })

-- a result that has a value
ok_of : {X E : Type 0} (result : Result X E) (x : X) → result_ok result ≡ Some x → result ≡ Ok x
ok_of (Ok y) x is = cc
ok_of (Err e) x is = absurd cc

-- a frame, at the end
Reads-frame : ReadsLast HasSpelling spelling_of frame_at_end
unfolding frame_of_bytes
Reads-frame =
    Reads-rest HasSpelling spelling_of frame_of_bytes
    (λ bytes frame fits is. is_found bytes frame fits (ok_of (decode_of bytes) frame is))
    (λ frame has. ap result_ok (decode_of-spelling frame has))

-- what is found after each tag
finds : (tag : ℕ) → FindsCase IsRecord record_tag record_body tag (record_after tag)
unfolding put_at drop_at account_edit_at lease_at put_bytes drop_bytes account_edit_bytes lease_bytes
finds zero = finds_none 0
finds (suc zero) =
    finds_case (λ x. Put x.0 x.1.0 x.1.1.0 x.1.1.1) 1 (Reads-account & Reads-four & Reads-name & Reads-frame)
    (λ x h. (((record { account = h.0; number = h.1.0 }, h.1.1), refl), refl))
finds (suc (suc zero)) =
    finds_case (λ x. Drop x.0 x.1.0 x.1.1) 2 (at_end (Reads-account & Reads-four & Reads-name))
    (λ x h. (((record { account = h.0; number = h.1.0 }, h.1.1), refl), refl))
finds (suc (suc (suc zero))) =
    finds_case (λ x. Account x.0 x.1.0 x.1.1) 3 (at_end (Reads-account & Reads-four & Reads-profile))
    (λ x h. (((record { account = h.0; number = h.1.0 }, h.1.1), refl), refl))
finds (suc (suc (suc (suc zero)))) =
    finds_case (λ x. Lease x.0 x.1.0 x.1.1.0 x.1.1.1) 4 (at_end (Reads-account & Reads-four & Reads-page & Reads-account))
    (λ x h. (((record { account = h.0; number = h.1.0 }, h.1.1), refl), refl))
finds (suc (suc (suc (suc (suc zero))))) = finds_case Taken 5 (at_end Reads-taken) (λ taken has. ((has, refl), refl))
finds (suc (suc (suc (suc (suc (suc other)))))) = finds_none (suc (suc (suc (suc (suc (suc other))))))

-- each record is found after its tag
again : (edit : Record) (rest : List ℕ) → rest ≡ [] → IsRecord edit
    → record_after (record_tag edit) (record_body edit ++ rest) ≡ Some (edit, rest)
unfolding put_at drop_at account_edit_at lease_at put_bytes drop_bytes account_edit_bytes lease_bytes
again (Put editor q name frame) rest ends has =
    case_again (λ x. Put x.0 x.1.0 x.1.1.0 x.1.1.1) (Reads-account & Reads-four & Reads-name & Reads-frame)
    (editor, (q, (name, frame))) rest ends (has.0.account, (has.0.number, has.1))
again (Drop editor q name) rest ends has =
    case_again (λ x. Drop x.0 x.1.0 x.1.1) (at_end (Reads-account & Reads-four & Reads-name))
    (editor, (q, name)) rest ends (has.0.account, (has.0.number, has.1))
again (Account editor q account) rest ends has =
    case_again (λ x. Account x.0 x.1.0 x.1.1) (at_end (Reads-account & Reads-four & Reads-profile))
    (editor, (q, account)) rest ends (has.0.account, (has.0.number, has.1))
again (Lease editor q root account) rest ends has =
    case_again (λ x. Lease x.0 x.1.0 x.1.1.0 x.1.1.1) (at_end (Reads-account & Reads-four & Reads-page & Reads-account))
    (editor, (q, (root, account))) rest ends (has.0.account, (has.0.number, has.1))
again (Taken taken) rest ends has = case_again Taken (at_end Reads-taken) taken rest ends has

-- a record, at the end
pub Reads-record : ReadsLast IsRecord record_bytes record_at
unfolding record_at record_bytes
Reads-record = Reads-cases IsRecord record_tag record_body record_after finds again
