use Rattle.std.proofs.Common.{◌≡◌, ℕ, List, Option, subst, lit<, codes}
use Rattle.pv_outside.specs.declared.status.Status.{Status}
use Rattle.pv_outside.specs.declared.status.Status.TheVariants.{Usage}
use Rattle.pv_gen.specs.declared.writing.TheConstants.{LAST_NUMBER}
use Rattle.pv_account.specs.declared.account.TheConstants.{MAX_CENTRES}
use Rattle.pv_files.specs.declared.standard.StandardOutput.{StandardOutput}
use Rattle.pv_play.specs.Program.{WritesText}
use Rattle.pv_play.proofs.Words.{about_is_no_task}
use Rattle.pv_play.proofs.program.run_program.Goals as goal

-- help and the version never end with the words at fault
never_usage : {W : Type 0} (contents : W → Option (List ℕ)) (text : List ℕ) (status : Status) (before now : StandardOutput W) → WritesText contents text before now status → status ≡ Usage → ⊥
never_usage contents text status before now written is = subst (λ (s : Status). WritesText contents text before now s) is written

-- the words ask for help or the version, and so for no task
pub returns-in-Some-clause-generates : goal.returns-in-Some-clause-generates
returns-in-Some-clause-generates g c = λ number asks.
    absurd (about_is_no_task (codes "gen") LAST_NUMBER number (lit< tt) _ c.in-Some.about ((c.asked.ensures c.in-Some.about).0 c.in-Some.is) asks)

pub returns-in-Some-clause-sums_up : goal.returns-in-Some-clause-sums_up
returns-in-Some-clause-sums_up g c = λ number asks.
    absurd (about_is_no_task (codes "evening") LAST_NUMBER number (lit< tt) _ c.in-Some.about ((c.asked.ensures c.in-Some.about).0 c.in-Some.is) asks)

pub returns-in-Some-clause-runs : goal.returns-in-Some-clause-runs
returns-in-Some-clause-runs g c = λ centres asks.
    absurd (about_is_no_task (codes "play") MAX_CENTRES centres (lit< tt) _ c.in-Some.about ((c.asked.ensures c.in-Some.about).0 c.in-Some.is) asks)

pub returns-in-Some-clause-usage : goal.returns-in-Some-clause-usage
returns-in-Some-clause-usage g c = (
  (λ is. absurd (never_usage g.W.Write.contents _ c.write_about.result c.args.out.now c.write_about.new.out c.write_about.ensures.about is)),
  (λ others. absurd (others.3 c.in-Some.about ((c.asked.ensures c.in-Some.about).0 c.in-Some.is))),
)

pub returns-in-Usage-evening_out-clause-runs : goal.returns-in-Usage-evening_out-clause-runs
returns-in-Usage-evening_out-clause-runs g c =
    let summed = c.evening_out.ensures.unwritten c.in-Usage-evening_out.is in
    rw (summed, c.generate_out.ensures.unwritten c.in-Usage.is) at c.play_out.ensures.runs
