use Rattle.std.proofs.Common.{refl, inl, inr}
use Rattle.pv_live.proofs.Growing.{grows_none}
use Rattle.pv_live.proofs.desk.Desk+R+D+N+H+Published+R+N+Change+R+N.decide.Goals as goal

-- nothing is stored
pub returns-in-Answer-clause-told : goal.returns-in-Answer-clause-told
returns-in-Answer-clause-told g c = record { told = refl; judged = rw c.in-Answer.is at c.decision.ensures.judged }

pub returns-in-Answer-clause-grows : goal.returns-in-Answer-clause-grows
returns-in-Answer-clause-grows g c =
    grows_none g.R.Rules g.N.Run.limits g.N.Run.opening c.args.request.now c.args.pass.now.number
    c.args.self.now c.args.self.now refl (inr (inl (record { hand = refl; maker = refl; log = refl })))
