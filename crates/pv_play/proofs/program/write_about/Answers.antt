use Rattle.std.proofs.Common.{◌≡◌, ℕ, false, List, take, Option, Result, Ok, Err, sym, subst, ◌∙◌}
use Rattle.std.specs.Prelude.{is_err}
use Rattle.std.specs.Io.KnownBytes.{Appends, Keeps}
use Rattle.pv_outside.specs.Sink.{Writes}
use Rattle.pv_outside.specs.declared.failed.Failed.{Failed}
use Rattle.pv_files.specs.Output.{written_bytes}
use Rattle.pv_play.proofs.Flushing.{whole_is_prefix}
use Rattle.pv_play.proofs.program.write_about.Goals as goal

-- a write that did not fail wrote the whole text, which stays a prefix of what was written
written_is_prefix : {T : Type 0} (answer : Result T Failed) (a b c : Option (List ℕ)) (text : List ℕ) → Writes a b answer text → is_err answer ≡ false → Keeps b c → (count : ℕ) × Appends a c (take count text)
written_is_prefix (Ok done) a b c text written passed kept = whole_is_prefix a b c text written kept
written_is_prefix (Err failed) a b c text written passed kept = absurd cc

-- the text was written, and could not be passed on
pub returns-then-is_err-2-clause-about : goal.returns-then-is_err-2-clause-about
returns-then-is_err-2-clause-about g c =
    let passed : is_err c.write_all.result ≡ false = sym c.is_err.ensures.value ∙ c.if-is_err.false in
    let text = c.as_bytes.ensures.value ∙ c.text.ensures in
    let before = written_bytes g.W.Write.contents c.args.out.now in
    let now = written_bytes g.W.Write.contents c.flush.new.self in
    let prefix = written_is_prefix c.write_all.result before (written_bytes g.W.Write.contents c.write_all.new.self) now c.as_bytes.result.now c.write_all.ensures.written passed c.flush.ensures.kept in
    subst (λ (l : List ℕ). (count : ℕ) × Appends before now (take count l)) text prefix
