use Rattle.std.proofs.{Common.subst, lemmas.List.take-replicate}
use Rattle.pv_fields.specs.Out.{Appends}
use Rattle.pv_screen.proofs.composing.put_spaces.Goals as goal

pub returns : goal.returns
returns c = subst (Appends c.args.out.now c.put_run.new.self) (take-replicate c.args.count 40 32 c.requires.few) c.put_run.ensures.appends
