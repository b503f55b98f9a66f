use Rattle.std.proofs.Common.{rules, ◌≡◌, Some, None, refl, ◌∙◌}
use Rattle.std.specs.Prelude.{slice_get}
use denote.Param.{number}
use Rattle.pv_irc.specs.contracts.rules.IrcRulesRules.TheImpl as irc
use Rattle.pv_closing.specs.Lacking.{lacked_records}
use Rattle.pv_closing.proofs.Applying.{edit_leaves, edit_applied, edit_fewer, edit_stopped, edits_brought, edits_all}
use Rattle.pv_closing.proofs.Bringing.{going_first}
use Rattle.pv_closing.proofs.Lacking.{place_read}
use Rattle.pv_closing.proofs.Lists.{found_at}
use Rattle.pv_closing.proofs.records.apply_rest.Goals as goal

-- nothing was applied yet
pub loop-edit-init : goal.loop-edit-init
loop-edit-init g c = record {
  going = going_first (irc.ghosts (number g.row.C)) g.D.Reports c.args.centre.now
      (lacked_records c.args.list.now.records c.args.centre.now.state)
      g.met.D.Disk.only_now g.met.D.Disk.now_is_known c.requires.hand;
  limits = refl;
}

-- a record was applied
pub loop-edit-preserved : goal.loop-edit-preserved
loop-edit-preserved g c =
    let there = found_at c.args.list.now.records c.applied.result c.loop-edit.centre.state.applied (Some c.in-Some.edit.now)
    (place_read c.applied.result c.loop-edit.centre.state c.state.result.now c.state.ensures c.applied.ensures) c.in-Some.ensures in
    record {
      going = edit_applied (irc.ghosts (number g.row.C)) g.D.Reports (λ state rec place. refl) c.args.list.now.records c.args.centre.now
          c.loop-edit.centre c.loop-edit.invariant.going c.in-Some.edit.now there c.apply_record.new.centre c.in-Ok.ensures.stored
          c.apply_record.ensures.moments c.apply_record.ensures.counted;
      limits = c.apply_record.ensures.limits ∙ c.loop-edit.invariant.limits;
    }

pub loop-edit-smaller : goal.loop-edit-smaller
loop-edit-smaller g c =
    let there = found_at c.args.list.now.records c.applied.result c.loop-edit.centre.state.applied (Some c.in-Some.edit.now)
    (place_read c.applied.result c.loop-edit.centre.state c.state.result.now c.state.ensures c.applied.ensures) c.in-Some.ensures in
    edit_fewer (irc.ghosts (number g.row.C)) g.D.Reports (λ state rec place. refl) c.args.list.now.records c.args.centre.now
    c.loop-edit.centre c.loop-edit.invariant.going c.in-Some.edit.now there c.apply_record.new.centre c.in-Ok.ensures.stored

-- one was not
pub returns-in-Err-clause-ends : goal.returns-in-Err-clause-ends
returns-in-Err-clause-ends g c =
    let there = found_at c.args.list.now.records c.applied.result c.loop-edit.centre.state.applied (Some c.in-Some.edit.now)
    (place_read c.applied.result c.loop-edit.centre.state c.state.result.now c.state.ensures c.applied.ensures) c.in-Some.ensures in
    edit_stopped (irc.ghosts (number g.row.C)) g.D.Reports (λ state rec place. refl) c.args.list.now.records c.args.centre.now
    c.loop-edit.centre c.loop-edit.invariant.going c.in-Some.edit.now there c.apply_record.new.centre c.in-Err.end c.in-Err.ensures.stopped

pub returns-in-Err-clause-moments : goal.returns-in-Err-clause-moments
returns-in-Err-clause-moments g c =
    let there = found_at c.args.list.now.records c.applied.result c.loop-edit.centre.state.applied (Some c.in-Some.edit.now)
    (place_read c.applied.result c.loop-edit.centre.state c.state.result.now c.state.ensures c.applied.ensures) c.in-Some.ensures in
    edit_leaves (irc.ghosts (number g.row.C)) g.D.Reports (λ state rec place. refl) c.args.list.now.records c.args.centre.now
    c.loop-edit.centre c.loop-edit.invariant.going c.in-Some.edit.now there c.apply_record.new.centre c.apply_record.ensures.moments

-- all were applied
pub returns-clause-ends : goal.returns-clause-ends
returns-clause-ends g c =
    let past : None ≡ slice_get c.args.list.now.records c.applied.result = search rules in
    let none = found_at c.args.list.now.records c.applied.result c.loop-edit.centre.state.applied None
    (place_read c.applied.result c.loop-edit.centre.state c.state.result.now c.state.ensures c.applied.ensures) past in
    edits_brought (irc.ghosts (number g.row.C)) g.D.Reports (λ state rec place. refl) c.args.list.now.records c.args.centre.now
    c.loop-edit.centre c.loop-edit.invariant.going none

pub returns-clause-all : goal.returns-clause-all
returns-clause-all g c = λ is.
    let past : None ≡ slice_get c.args.list.now.records c.applied.result = search rules in
    let none = found_at c.args.list.now.records c.applied.result c.loop-edit.centre.state.applied None
    (place_read c.applied.result c.loop-edit.centre.state c.state.result.now c.state.ensures c.applied.ensures) past in
    edits_all (irc.ghosts (number g.row.C)) g.D.Reports (λ state rec place. refl) c.args.list.now.records c.args.centre.now
    c.loop-edit.centre none
