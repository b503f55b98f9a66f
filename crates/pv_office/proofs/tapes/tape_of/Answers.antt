use Rattle.std.proofs.Common.{inl, inr, refl, List, ℕ, sym, subst}
use Rattle.pv_udc.specs.contracts.rules.UdcRulesRules.TheImpl as udc
use Rattle.pv_office.specs.Tapes.{HasStoredAll, LeavesTape, KeepsTape}
use Rattle.pv_office.proofs.Loads.{opened_leaves, opened_keeps}
use Rattle.pv_office.proofs.tapes.tape_of.Goals as goal

-- the disk was opened, and its node ran the tape
pub returns-in-Ok-clause-ends : goal.returns-in-Ok-clause-ends
returns-in-Ok-clause-ends g c = λ folder ask.
    let e = c.in-Ok.ensures in
    let ran = c.load_tape-status.ensures.loads.1 in
    let text = c.load_tape-status.ensures.loads.0 in
    let back = sym c.into_disk.ensures.disk in
    let leaves : LeavesTape udc.ghosts g.D.Reports c.args.disk c.load_tape-status.new.node.journal.disk text = λ head edits others is each.
    opened_leaves udc.ghosts g.D.Reports (λ state records stands. stands) g.met.D.Disk.reads_is_left c.args.disk c.in-Ok.node
    c.load_tape-status.new.node e.found e.none_in_hand head edits e.opened.0 e.opened.1 e.moments (ran.leaves head edits is) others each in
    let keeps : HasStoredAll ran.end → KeepsTape udc.ghosts g.D.Reports c.args.disk c.load_tape-status.new.node.journal.disk text =
    opened_keeps udc.ghosts g.D.Reports (λ state records stands. stands) g.met.D.Disk.reads_is_left c.args.disk c.in-Ok.node
    c.load_tape-status.new.node e.found e.none_in_hand e.opened.0 e.opened.1 e.moments text ran.leaves _ _ _ _ ran.end ran.runs in
    inr (
      text,
      record {
        opened = c.in-Ok.node;
        loaded = c.load_tape-status.new.node;
        found = e.found;
        free = e.none_in_hand;
        loads = ran;
        disk_is = c.into_disk.ensures.disk;
        leaves = subst (λ (d : g.row.D.Denot). LeavesTape udc.ghosts g.D.Reports c.args.disk d text) back leaves;
        keeps = λ done. subst (λ (d : g.row.D.Denot). KeepsTape udc.ghosts g.D.Reports c.args.disk d text) back (keeps done);
      },
    )

-- it could not be opened
pub returns-in-Err-clause-ends : goal.returns-in-Err-clause-ends
returns-in-Err-clause-ends g c = λ folder ask. inl (
  record {
    limits = record { frames = 20000; records = 50000; frames_in_range = c.open-arg-1.given.0; records_in_range = c.open-arg-1.given.1.0 };
    frames = refl;
    records = refl;
    fault = c.in-Err.fault;
    status_is = c.of_open.ensures;
    cause = c.in-Err.ensures.refused;
    shown = c.in-Err.ensures.shown;
    reads_only = c.in-Err.ensures.handed_back;
    leaves = c.in-Err.ensures.moments_refused;
  },
  (refl, refl),
)
