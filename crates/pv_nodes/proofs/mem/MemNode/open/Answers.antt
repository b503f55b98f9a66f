use Rattle.std.proofs.Common.{[], IsOk, refl, sym, subst, arith}
use Rattle.pv_outside.specs.Disk.{HasCalls, IsEndless}
use Rattle.pv_journal.specs.Log.{longest}
use Rattle.pv_memory.specs.Medium.{Medium, budget_of}
use Rattle.pv_nodes.proofs.Opened.{of_ok, if_ok, none_stand, none_meet}
use Rattle.pv_nodes.proofs.mem.MemNode.open.Goals as goal

-- the disk was formatted, so that it stands for no records
pub on_disk-requires : goal.on_disk-requires
on_disk-requires g c =
    let formatted : IsOk c.format.result = c.format.ensures.passes
    (subst (λ (disk : Medium). HasCalls 3 9 (budget_of disk)) (sym c.in_ok-disk.ensures) (omega (arith, c.longest.ensures), tt)) in
    let endless = subst (λ (disk : Medium). IsEndless (longest c.args.limits.records) (budget_of disk)) (sym c.in_ok-disk.ensures)
    (omega (arith, c.longest.ensures), refl) in
    record {
      records = [];
      stands = none_stand g.R.Rules c.format.new.disk (of_ok c.format.result formatted c.format.ensures.empty);
      meets = none_meet g.R.Rules c.args.limits;
      endless = c.format.ensures.spends.endless _ endless;
    }

pub returns-clause-nothing : goal.returns-clause-nothing
returns-clause-nothing g c =
    let formatted : IsOk c.format.result = c.format.ensures.passes
    (subst (λ (disk : Medium). HasCalls 3 9 (budget_of disk)) (sym c.in_ok-disk.ensures) (omega (arith, c.longest.ensures), tt)) in
    if_ok c.on_disk.result (λ node stands. stands [] (none_stand g.R.Rules c.format.new.disk (of_ok c.format.result formatted c.format.ensures.empty)))
    c.on_disk.ensures.stands
