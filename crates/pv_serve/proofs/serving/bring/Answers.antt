use Rattle.std.proofs.Common.{◌≡◌, ℕ, Option, None, sym, ap, subst, ◌∙◌}
use Rattle.pv_outside.specs.declared.limits.TheConstants.{MAX_RECORDS}
use Rattle.pv_centres.specs.Rest.{first_full}
use Rattle.pv_serve.specs.Ended.{AreHandedBack, counts_of}
use Rattle.pv_serve.specs.Serving.{HasNoDiskFault, EndsBy, HasServedAll, SaysFull, WasBegun, end_by_work}
use Rattle.pv_serve.specs.declared.status.ServeStatus.{ServeStatus}
use Rattle.pv_serve.proofs.Ended.{would_be_brought}
use Rattle.pv_serve.proofs.Ending.{begun_by_work, door_by_work, ends_by_work, full_by_work, held_by_work, quiet_by_work}
use Rattle.pv_serve.proofs.serving.bring.Goals as goal

-- a door is blamed only if one failed
pub returns-in-Ok-clause-door : goal.returns-in-Ok-clause-door
returns-in-Ok-clause-door g c = λ is. sym c.bring_rest.ensures.door ∙ door_by_work _ _ _ _ _ (sym c.status_of.ensures ∙ is)

-- all were served only if nothing was met
pub returns-in-Ok-clause-quiet : goal.returns-in-Ok-clause-quiet
returns-in-Ok-clause-quiet g c = λ all.
    let quiet = quiet_by_work _ _ _ _ _ (subst HasServedAll c.status_of.ensures all) in (
      sym c.bring_rest.ensures.memory ∙ quiet.0,
      sym c.bring_rest.ensures.door ∙ quiet.1,
      c.bring_rest.ensures.disk quiet.2,
    )

pub returns-in-Ok-clause-begun : goal.returns-in-Ok-clause-begun
returns-in-Ok-clause-begun g c = subst WasBegun (sym c.status_of.ensures) (begun_by_work _ _ _ _ _)

-- the nodes were brought what they lacked, and hold the disks that are handed back
pub returns-in-Ok-clause-back : goal.returns-in-Ok-clause-back
returns-in-Ok-clause-back g c =
    let bring = c.bring_rest.ensures in
    let ended = c.bring_rest.new.nodes in
    let ends = c.bring_rest.new.ends in
    let noted = ends.no_room in
    let full : c.full-full.result ≡ first_full MAX_RECORDS 0 (counts_of ended) =
    c.full-full.ensures ∙ ap (λ (n : ℕ). first_full n 0 (counts_of ended)) c.from.ensures in
    let none : HasNoDiskFault (end_by_work {D = g.row.D.Denot} ends.memory ends.door ends.disk c.full-full.result) → ends.disk
    ≡ None = λ held. held_by_work _ _ _ _ _ held in
    let back : AreHandedBack g.D.Reports (end_by_work ends.memory ends.door ends.disk c.full-full.result) c.args.nodes
    c.args.disks.items
    c.give_back.new.disks.items = record {
      ended = ended;
      update = bring.update;
      update_rests = λ held. (bring.rests (none held)).0;
      update_runs = λ held. (bring.runs (none held)).0;
      first = would_be_brought g.D.Reports _ noted 0 c.args.nodes.update ended.update _ _ bring.first
          (λ held. bring.first_carried (none held)) (λ held. (bring.rests (none held)).1)
          (λ held. (bring.runs (none held)).1);
      second = would_be_brought g.D.Reports _ noted 1 c.args.nodes.update ended.update _ _ bring.second
          (λ held. bring.second_carried (none held)) (λ held. (bring.rests (none held)).2)
          (λ held. (bring.runs (none held)).2);
      third = would_be_brought g.D.Reports _ noted 2 c.args.nodes.update ended.update _ _ bring.third
          (λ held. bring.third_carried (none held)) (λ held. (bring.rests (none held)).3)
          (λ held. (bring.runs (none held)).3);
      fourth = would_be_brought g.D.Reports _ noted 3 c.args.nodes.update ended.update _ _ bring.fourth
          (λ held. bring.fourth_carried (none held)) (λ held. (bring.rests (none held)).4)
          (λ held. (bring.runs (none held)).4);
      disks = c.in-Ok.ensures;
      full = subst
          (λ (f : Option ℕ). SaysFull f (end_by_work {D = g.row.D.Denot} ends.memory ends.door ends.disk c.full-full.result)) full
          (full_by_work _ _ _ _ _);
    } in
    subst (λ (s : ServeStatus g.row.D.Denot g.row.D-Failure.Denot). EndsBy ⊥
    (AreHandedBack g.D.Reports s c.args.nodes c.args.disks.items c.give_back.new.disks.items) ⊥ s) (sym c.status_of.ensures)
    (ends_by_work _ _ _ _ _ _ back)
