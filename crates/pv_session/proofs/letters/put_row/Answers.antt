use Rattle.std.proofs.Common.{◌-◌, ◌++◌, length, replicate, subst, arith}
use Rattle.std.proofs.lemmas.List.{take-replicate}
use Rattle.pv_fields.specs.Out.{Appends}
use Rattle.pv_fields.proofs.CallerLemmas.{appends_then}
use Rattle.pv_session.proofs.letters.put_row.Goals as goal

-- what was keyed and the spaces after it are the row
pub returns : goal.returns
returns c =
    let keyed = c.text-keyed.result.now in
    let spaces = subst (Appends c.put_run.new.self c.put_run-2.new.self) (take-replicate (40 - length keyed) 40 32 (omega arith))
    c.put_run-2.ensures.appends in
    subst (λ text. Appends c.args.out.now c.put_run-2.new.self (text ++ replicate (40 - length text) 32)) c.text-keyed.ensures.same
    (appends_then c.put_run.ensures.appends spaces)
