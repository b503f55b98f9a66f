use Rattle.std.proofs.Common.{◌≡◌, ℕ, List, refl, sym, subst, ◌∙◌}
use Rattle.pv_journal.proofs.Moments.{only_none}
use Rattle.pv_udc.specs.contracts.rules.UdcRulesRules.TheImpl as udc
use Rattle.pv_tape.specs.Running.{IsTextRun}
use Rattle.pv_tape.specs.Tape.{IsTape}
use Rattle.pv_tape.proofs.AfterRun.{stays, ran_whole}
use Rattle.pv_tape.proofs.Settled.{settling_leaves}
use Rattle.pv_tape.proofs.running.run_tape.Goals as goal

-- nothing was asked
pub returns-in-Err-Fault-clause-runs : goal.returns-in-Err-Fault-clause-runs
returns-in-Err-Fault-clause-runs g c =
    let read = rw c.in-Err-Fault.field-0-is at c.in-Err-Fault.ensures.read in (
      read.0,
      read.1,
      (read.2.0, read.2.1, refl),
      λ head edits is.
          settling_leaves udc.ghosts g.D.Reports (λ state records stands. stands) (λ state edit place. refl) head edits c.args.node.now
          c.args.node.now (λ records stands. only_none g.D.Reports g.met.D.Disk.only_now g.met.D.Disk.now_is_known _ _ stands.images),
      λ head edits is.
          stays udc.ghosts g.D.Reports (λ state records stands. stands) head edits c.args.node.now c.args.node.now
          (λ records stands. stands) refl,
    )

pub returns-in-Err-TooLong-clause-runs : goal.returns-in-Err-TooLong-clause-runs
returns-in-Err-TooLong-clause-runs g c =
    let read = rw c.in-Err-TooLong.field-0-is at c.in-Err-TooLong.ensures.read in (
      read.0,
      read.1,
      (read.2, refl),
      λ head edits is.
          settling_leaves udc.ghosts g.D.Reports (λ state records stands. stands) (λ state edit place. refl) head edits c.args.node.now
          c.args.node.now (λ records stands. only_none g.D.Reports g.met.D.Disk.only_now g.met.D.Disk.now_is_known _ _ stands.images),
      λ head edits is.
          stays udc.ghosts g.D.Reports (λ state records stands. stands) head edits c.args.node.now c.args.node.now
          (λ records stands. stands) refl,
    )

-- the text was read whole, and run
pub returns-in-Ok-clause-runs : goal.returns-in-Ok-clause-runs
returns-in-Ok-clause-runs g c =
    let read = c.in-Ok.ensures.read in
    let same : c.deref.result.now ≡ read.0 = c.deref.ensures.value ∙ read.2.0 in (
      read.0,
      read.1,
      ran_whole udc.ghosts g.D.Reports c.args.node.now c.run_text.new.node read.0 _ _ _ _ c.run_text.result read.2.1
          (subst (λ (text : List ℕ). IsTextRun udc.ghosts g.D.Reports c.args.node.now c.run_text.new.node text c.run_text.result) same
          c.run_text.ensures.runs),
      λ head edits is. c.run_text.ensures.moments head edits (subst (λ (text : List ℕ). IsTape text head edits) (sym same) is),
      λ head edits is. c.run_text.ensures.after head edits (subst (λ (text : List ℕ). IsTape text head edits) (sym same) is),
    )
