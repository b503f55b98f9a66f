use Rattle.std.proofs.Common.{refl, ap, ◌∙◌}
use Rattle.std.specs.Prelude.{Ok, Err, unwrap_or}
use Rattle.pv_editor.specs.Replies.{reply_of}
use Rattle.pv_udc.specs.contracts.rules.UdcRulesRules.TheImpl as udc
use Rattle.pv_udc.specs.declared.request.UdcRequest.TheVariants.{Edit}
use Rattle.pv_live.specs.declared.fault.LiveFault.TheVariants as faults
use Rattle.pv_ports.proofs.Sessions.{failed_as}
use Rattle.pv_ports.proofs.verdict.ask.Goals as goal

pub returns-in-Ok : goal.returns-in-Ok
returns-in-Ok g c = record {
  verdict = Ok c.in-Ok.told;
  judged = record {
    asks = record { prefix = c.ask.ensures.seen; same = c.ask.ensures.same };
    comes = (c.in-Ok.ensures.told, c.in-Ok.ensures.not_failed);
  };
  text = c.reply_text.ensures ∙ ap reply_of c.view_of.ensures;
  mark = c.unwrap_or.ensures ∙ ap (unwrap_or c.in-Ok.told.number) c.length.ensures;
  end = refl;
}

pub returns-in-Err-Full : goal.returns-in-Err-Full
returns-in-Err-Full g c = record {
  verdict = Err (faults.Full c.in-Err-Full.count);
  judged = record {
    asks = record { prefix = c.ask.ensures.seen; same = c.ask.ensures.same };
    comes = rw c.in-Err-Full.field-0-is at c.in-Err-Full.ensures.failed;
  };
  text = c.reply_text-in-Err-Full.ensures ∙ ap reply_of c.full.ensures;
  mark = c.length-in-Err-Full.ensures;
  end = refl;
}

pub returns-in-Err-Disk : goal.returns-in-Err-Disk
returns-in-Err-Disk g c = record {
  verdict = Err (faults.Disk tt);
  judged = record {
    asks = record { prefix = c.ask.ensures.seen; same = c.ask.ensures.same };
    comes = rw c.in-Err-Disk.field-0-is at c.in-Err-Disk.ensures.failed;
  };
  text = c.reply_text-in-Err-Disk.ensures ∙ ap reply_of c.disk_failed.ensures;
  mark = c.length-in-Err-Disk.ensures;
  end = refl;
}

pub returns-in-Err-Memory : goal.returns-in-Err-Memory
returns-in-Err-Memory g c = record {
  verdict = Err (faults.Memory c.in-Err-Memory.stored);
  judged = record {
    asks = record { prefix = c.ask.ensures.seen; same = c.ask.ensures.same };
    comes = rw c.in-Err-Memory.field-0-is at (failed_as udc.ghosts g.N.Run.limits g.N.Run.opening
        (Edit c.args.editor c.args.q c.args.wish) c.args.pass.now c.ask.new.pass c.in-Err-Memory.field-0 c.in-Err-Memory.ensures.failed);
  };
  text = c.reply_text-in-Err-Memory.ensures ∙ ap reply_of c.out_of_memory.ensures;
  mark = c.length-in-Err-Memory.ensures;
  end = refl;
}
