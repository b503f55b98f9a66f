use Rattle.std.proofs.Common.{◌++◌, length, ap, sym, subst, ◌∙◌, All, append_assoc}
use Rattle.pv_live.specs.Entries.{with_opening}
use Rattle.pv_group.proofs.Leaving.{images_stand, seen_counted}
use Rattle.pv_group.proofs.vault.Vault.leave.Goals as goal

-- what was taken is the first part of all that was decided
pub returns : goal.returns
returns g c =
    let s = c.self.invariant.0 in
    let a = c.count_up.ensures.ahead in
    let stored = c.self.inside.stored in
    let taken = rw c.catch_up.ensures.value at c.catch_up.ensures.prefix in
    let log_is = sym taken.1 ∙ ap (λ l. l ++ taken.0) s.taken_is in
    rw c.into_disk.ensures (record {
      log = c.desk.inside.known;
      stored = stored;
      group = s.group;
      waiting = taken.0;
      log_is = log_is;
      run = a.run;
      images = images_stand g.R.Rules g.D.Reports g.N.Run.opening c.self.inside.journal stored s.group taken.0 s.kept
          (subst (λ l. All g.R.Rules.is_record (with_opening g.N.Run.opening l)) log_is a.each);
      seen = c.count_up.ensures.seen;
      seen_stored = λ few. seen_counted (length g.N.Run.opening) stored c.desk.inside.known c.args.passes.items c.deref.result.now _ _
          c.deref.ensures.value c.length.ensures (s.group ++ taken.0, sym (append_assoc stored s.group taken.0) ∙ sym log_is)
          c.count_up.ensures.seen c.have_seen_at_most-seen_is_stored.ensures few;
      least = a.reported;
      most = a.accounted;
      failed = rw (← c.self.view_is) at c.requires.failed;
    })
