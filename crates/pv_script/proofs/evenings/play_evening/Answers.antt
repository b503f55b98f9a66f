use Rattle.std.proofs.Common.{◌≡◌, ℕ, true, false, List, take, sym, subst, ◌∙◌}
use Rattle.std.specs.Prelude.{is_err}
use Rattle.std.specs.Io.KnownBytes.{Appends}
use Rattle.pv_script.proofs.Writing.{whole_written, prefix_written}
use Rattle.pv_script.proofs.Summing.{summed}
use Rattle.pv_script.proofs.evenings.play_evening.Goals as goal

-- the summary was written
pub returns-clause-ok : goal.returns-clause-ok
returns-clause-ok g c =
    let before = g.K.Sink.written c.args.out.now in
    let now = g.K.Sink.written c.write_all.new.self in
    let ran = c.in_ok-network.ensures.ok in
    let sums = summed c.args.number c.requires.some c.requires.within _ _ _ c.in-Ok.summary.items ran c.in-Ok.ensures in
    let passed : is_err c.write_all.result ≡ false = sym c.is_err.ensures.value ∙ c.if-is_err.false in
    let whole = whole_written c.write_all.result before now c.deref.result.now c.write_all.ensures.written passed in
    (sums.0, sums.1, subst (λ (l : List ℕ). Appends before now l) (c.deref.ensures.value ∙ sums.3) whole, sums.2)

-- it could not be written
pub returns-then-is_err-clause-err : goal.returns-then-is_err-clause-err
returns-then-is_err-clause-err g c =
    let before = g.K.Sink.written c.args.out.now in
    let now = g.K.Sink.written c.write_all.new.self in
    let ran = c.in_ok-network.ensures.ok in
    let sums = summed c.args.number c.requires.some c.requires.within _ _ _ c.in-Ok.summary.items ran c.in-Ok.ensures in
    let failed : is_err c.write_all.result ≡ true = sym c.is_err.ensures.value ∙ c.if-is_err.true in
    let prefix = prefix_written c.write_all.result before now c.deref.result.now c.write_all.ensures.written failed in
    (sums.0, sums.1, prefix.0, subst (λ (l : List ℕ). Appends before now (take prefix.0 l)) (c.deref.ensures.value ∙ sums.3) prefix.1)
