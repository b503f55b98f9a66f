use Rattle.pv_edits.proofs.records.Records.within.Goals as goal

pub returns : goal.returns
returns c = rw (← c.self.view_is) c.self.invariant.pages
