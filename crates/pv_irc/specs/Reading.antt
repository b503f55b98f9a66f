-- A centre's record is read as it is spelled. A trait's laws may cite specs alone, so what they rest on stands here.
use Rattle.std.proofs.Common.{◌≡◌, ℕ, zero, suc, Bool, true, false, cond, eqb, List, [], ◌∷◌, ◌++◌, Option, Some, None, refl, ap, sym, subst, ◌∙◌, append-nil}
use Rattle.std.proofs.lemmas.Bool.{eqb-true}
use Rattle.pv_fields.specs.Reading.{IsBytes, ReadsLast, ◌>>=◌, whole, rest_at, map_at}
use Rattle.pv_fields.proofs.Readings.{Reads-eight, ◌&◌, at_end, Reads-cases, FindsCase, finds_none, finds_case, case_again, Reads-whole}
use Rattle.pv_page.proofs.Spellings.{Reads-account}
use Rattle.pv_post.proofs.CallerLemmas.{Reads-item}
use Rattle.pv_edits.specs.Record.{record_tag, record_bytes, record_after, record_at}
use Rattle.pv_edits.specs.Down.{IsDown, down_bytes}
use Rattle.pv_edits.specs.declared.record.Record.{Record}
use Rattle.pv_edits.specs.declared.record.Record.TheVariants.{Put, Drop, Account, Lease, Taken}
use Rattle.pv_edits.specs.declared.down.DownRecord.{DownRecord}
use Rattle.pv_edits.specs.declared.down.DownRecord.TheVariants.{Whole, Blank}
use Rattle.pv_edits.specs.declared.down.TheConstants.{BLANK_TAG}
use Rattle.pv_edits.proofs.CallerLemmas.{Reads-record}
use Rattle.pv_irc.specs.Record.{IsCentreRecord, applied_bytes, centre_tag, centre_body, centre_bytes, down_at, down_at_end, applied_at, removed_bytes, removed_at, centre_after, centre_record_at}
use Rattle.pv_irc.specs.declared.record.CentreRecord.{CentreRecord}
use Rattle.pv_irc.specs.declared.record.CentreRecord.TheVariants.{Applied, LogOn, Kept, Removed}

-- ---- what came down

-- what came down, and bytes
abbrev read : DownRecord → List ℕ → Option (DownRecord × List ℕ)
read down rest = Some (down, rest)

-- a record's first byte is not that of Blank
not_blank : (edit : Record) → eqb (record_tag edit) BLANK_TAG ≡ false
not_blank (Put editor q name frame) = refl
not_blank (Drop editor q name) = refl
not_blank (Account editor q account) = refl
not_blank (Lease editor q root account) = refl
not_blank (Taken taken) = refl

-- what is found is spelled at the beginning
down_found : (bytes : List ℕ) (down : DownRecord) (rest : List ℕ) → IsBytes bytes → down_at bytes ≡ Some (down, rest)
    → IsDown down × (bytes ≡ down_bytes down ++ rest)
unfolding down_bytes record_bytes record_at
down_found [] down rest fits e = absurd cc
down_found (tag ∷ bytes) down rest fits e = by (eqb tag BLANK_TAG) refl e
  where
    Spelled : DownRecord × List ℕ → Type 0
    Spelled x = IsDown x.0 × (tag ∷ bytes ≡ down_bytes x.0 ++ x.1)

    of_record : (found : Option (Record × List ℕ)) → record_after tag bytes ≡ found
        → (found >>= λ x. read (Whole x.0) x.1) ≡ read down rest → Spelled (down, rest)
    of_record None at is = absurd cc
    of_record (Some (edit, after)) at is =
        let f = Reads-record.found (tag ∷ bytes) edit after fits at in
        let one : (Whole edit, after) ≡ (down, rest) = cc in
        subst Spelled one (f.0, f.1)

    by : (blank : Bool) → eqb tag BLANK_TAG ≡ blank → cond blank (read Blank bytes) (map_at Whole (record_after tag) bytes) ≡ read down rest
        → Spelled (down, rest)
    by true is e =
        let one : (Blank, bytes) ≡ (down, rest) = cc in
        subst Spelled one (tt, ap (λ t. t ∷ bytes) (eqb-true tag BLANK_TAG is))
    by false is e = of_record (record_after tag bytes) refl e

-- each is found by its spelling
down_again : (down : DownRecord) (rest : List ℕ) → rest ≡ [] → IsDown down → down_at (down_bytes down ++ rest) ≡ Some (down, rest)
unfolding down_bytes record_bytes record_at
down_again Blank rest ends has = refl
down_again (Whole edit) rest ends has = rw (not_blank edit, Reads-record.again edit rest ends has) refl

Reads-down : ReadsLast IsDown down_bytes down_at
Reads-down = record { found = down_found; again = down_again }

pub Reads-down_end : ReadsLast IsDown down_bytes down_at_end
unfolding down_at_end
Reads-down_end = Reads-whole Reads-down

-- bytes that spell nothing that came down are read as none
pub down_missing : (bytes : List ℕ) → IsBytes bytes → ((down : DownRecord) → IsDown down → bytes ≡ down_bytes down → ⊥)
    → down_at_end bytes ≡ None
unfolding down_at_end
down_missing bytes fits none = by (whole down_at bytes) refl
  where
    by : (found : Option DownRecord) → whole down_at bytes ≡ found → (found >>= λ down. read down []) ≡ None
    by None is = refl
    by (Some down) is =
        let at : rest_at (whole down_at) bytes ≡ read down [] = ap (λ found. found >>= λ d. read d []) is in
        let f = Reads-down_end.found bytes down [] fits at in
        absurd (none down f.0 (f.1 ∙ append-nil (down_bytes down)))

-- bytes that spell it are read as it
pub down_is_read : (bytes : List ℕ) (down : DownRecord) → IsDown down → bytes ≡ down_bytes down → down_at_end bytes ≡ Some (down, [])
down_is_read bytes down has is =
    ap down_at_end (is ∙ sym (append-nil (down_bytes down))) ∙ Reads-down_end.again down [] refl has

-- ---- a centre's record

-- what is found after each tag
finds : (tag : ℕ) → FindsCase IsCentreRecord centre_tag centre_body tag (centre_after tag)
unfolding applied_at applied_bytes removed_at removed_bytes
finds zero = finds_none 0
finds (suc zero) = finds_case (λ x. Applied x.0 x.1) 1 (Reads-eight & Reads-down_end) (λ x h. (((h.0, h.1), refl), refl))
finds (suc (suc zero)) = finds_case LogOn 2 (at_end Reads-account) (λ account has. ((has, refl), refl))
finds (suc (suc (suc zero))) = finds_case Kept 3 (at_end Reads-item) (λ item has. ((has, refl), refl))
finds (suc (suc (suc (suc zero)))) =
    finds_case (λ x. Removed x.0 x.1) 4 (at_end (Reads-account & Reads-eight)) (λ x h. (((h.0, h.1), refl), refl))
finds (suc (suc (suc (suc (suc other))))) = finds_none (suc (suc (suc (suc (suc other)))))

-- each record is found after its tag
again : (rec : CentreRecord) (rest : List ℕ) → rest ≡ [] → IsCentreRecord rec
    → centre_after (centre_tag rec) (centre_body rec ++ rest) ≡ Some (rec, rest)
unfolding applied_at applied_bytes removed_at removed_bytes
again (Applied n rec) rest ends has =
    case_again (λ x. Applied x.0 x.1) (Reads-eight & Reads-down_end) (n, rec) rest ends (has.0, has.1)
again (LogOn account) rest ends has = case_again LogOn (at_end Reads-account) account rest ends has
again (Kept item) rest ends has = case_again Kept (at_end Reads-item) item rest ends has
again (Removed account number) rest ends has =
    case_again (λ x. Removed x.0 x.1) (at_end (Reads-account & Reads-eight)) (account, number) rest ends (has.0, has.1)

-- a record, at the end
pub Reads-centre : ReadsLast IsCentreRecord centre_bytes centre_record_at
unfolding centre_record_at centre_bytes
Reads-centre = Reads-cases IsCentreRecord centre_tag centre_body centre_after finds again
