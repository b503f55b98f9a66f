use Rattle.pv_gen.specs.Script.{script_of}
use Rattle.pv_play.proofs.Flushing.{whole_is_prefix}
use Rattle.pv_play.proofs.program.generate_out.Goals as goal

-- the script was written, and could not be passed on
pub returns-in-Err-clause-generates : goal.returns-in-Err-clause-generates
returns-in-Err-clause-generates g c = λ number asks.
    let written = rw c.in-Done.is at c.generate.ensures.generates number asks in
    whole_is_prefix _ _ _ (script_of number) written c.flush.ensures.kept
