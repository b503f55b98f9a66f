use Rattle.std.proofs.Common.{◌≡◌, ℕ, Result, Ok, Err, refl, sym, ap, subst}
use Rattle.pv_journal.proofs.Moments.{only_none}
use Rattle.pv_udc.specs.contracts.rules.UdcRulesRules.TheImpl as udc
use Rattle.pv_tape.specs.Running.{StandsAfterRun}
use Rattle.pv_tape.specs.Tape.{IsTape}
use Rattle.pv_tape.specs.declared.head.Head.{Head}
use Rattle.pv_tape.proofs.AfterRun.{stays}
use Rattle.pv_tape.proofs.Settled.{settling_leaves}
use Rattle.pv_tape.proofs.running.run_text.Goals as goal

-- nothing was asked
pub returns-then-not-is_known-clause-moments : goal.returns-then-not-is_known-clause-moments
returns-then-not-is_known-clause-moments g c = λ head edits is.
    settling_leaves udc.ghosts g.D.Reports (λ state records stands. stands) (λ state edit place. refl) head edits c.args.node.now
    c.args.node.now (λ records stands. only_none g.D.Reports g.met.D.Disk.only_now g.met.D.Disk.now_is_known _ _ stands.images)

pub returns-then-not-is_known-clause-after : goal.returns-then-not-is_known-clause-after
returns-then-not-is_known-clause-after g c = λ head edits is.
    stays udc.ghosts g.D.Reports (λ state records stands. stands) head edits c.args.node.now c.args.node.now
    (λ records stands. stands) refl

-- the head that was found, or this one
abbrev head_or : Head → Result Head ℕ → Head
head_or other (Ok head) = head
head_or other (Err line) = other

-- a tape has one head
pub returns-clause-after : goal.returns-clause-after
returns-clause-after g c = λ head edits is.
    let same : c.in-Ok.head ≡ head = ap (head_or head) (c.in-Ok.ensures.only head edits is) in
    subst (λ (h : Head). StandsAfterRun udc.ghosts g.D.Reports c.args.node.now c.run_edits.new.node h edits) same
    (c.run_edits.ensures.after edits (subst (λ (h : Head). IsTape c.args.text.now h edits) (sym same) is))
