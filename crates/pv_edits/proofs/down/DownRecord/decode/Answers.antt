use Rattle.std.proofs.Common.{◌≡◌, ℕ, List, [], ◌∷◌, sym, ◌∙◌, refl}
use Rattle.std.proofs.lemmas.Bool.{false≢true}
use Rattle.std.proofs.lemmas.Bool.Decides.{Decides-eqb}
use Rattle.std.proofs.lemmas.Slice.Eq.{slice_eq-Decides}
use Rattle.pv_edits.specs.Record.{IsRecord, record_bytes}
use Rattle.pv_edits.specs.Down.{IsDown, down_bytes}
use Rattle.pv_edits.specs.declared.record.Record.{Record}
use Rattle.pv_edits.specs.declared.down.DownRecord.{DownRecord}
use Rattle.pv_edits.specs.declared.down.DownRecord.TheVariants.{Whole, Blank}
use Rattle.pv_edits.specs.declared.down.TheConstants.{BLANK_TAG}
use Rattle.pv_edits.proofs.down.DownRecord.decode.Goals as goal

-- bytes that spell no record and are not the one byte spell nothing
nothing : (bytes : List ℕ) → ((edit : Record) → IsRecord edit → bytes ≡ record_bytes edit → ⊥) → (bytes ≡ BLANK_TAG ∷ [] → ⊥)
    → (down : DownRecord) → IsDown down → bytes ≡ down_bytes down → ⊥
unfolding down_bytes record_bytes
nothing bytes no_record not_blank (Whole edit) is same = no_record edit is same
nothing bytes no_record not_blank Blank is same = not_blank same

-- the one byte
pub returns-then-eq-clause-found : goal.returns-then-eq-clause-found
unfolding down_bytes
returns-then-eq-clause-found c =
    (tt, (slice_eq-Decides Decides-eqb c.args.bytes.now c.as_slice.result.now c.eq.result c.eq.ensures).0 c.if-eq.true ∙ c.as_slice.ensures)

-- a record
pub returns-in-Some-clause-found : goal.returns-in-Some-clause-found
unfolding down_bytes record_bytes
returns-in-Some-clause-found c = c.in-Some.ensures.found

-- neither
pub returns-in-None-clause-missing : goal.returns-in-None-clause-missing
returns-in-None-clause-missing c none down is same =
    let other : c.args.bytes.now ≡ BLANK_TAG ∷ [] → ⊥ = λ is.
    let yes = (slice_eq-Decides Decides-eqb c.args.bytes.now c.as_slice.result.now c.eq.result c.eq.ensures).1 (is ∙ sym
    c.as_slice.ensures) in
    absurd (false≢true (sym c.if-eq.false ∙ yes)) in
    nothing c.args.bytes.now (c.in-None.ensures.missing refl) other down is same
