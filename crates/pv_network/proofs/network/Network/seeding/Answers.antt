use Rattle.std.proofs.Common.{rules, ◌≡◌, ◌+◌, refl, arith}
use Rattle.std.specs.List.{count_by}
use Rattle.std.proofs.lemmas.List.Sums.{count_by-le-length}
use Rattle.pv_edits.specs.declared.room.TheConstants.{OPERATOR}
use Rattle.pv_edits.specs.Edits.{is_edit_of}
use Rattle.pv_udc.specs.Judgement.{next_number}
use Rattle.pv_network.specs.Editing.{seeded_frame}
use Rattle.pv_network.proofs.network.Network.seeding.Goals as goal

-- the operator has no more edits than there are records
pub overflow_cast-q : goal.overflow_cast-q
overflow_cast-q c =
    let w = c.self.invariant.1.0 in
    let stands = c.self.invariant.1.1 in
    let editor = c.unwrap-editor.result in
    let few = count_by-le-length (is_edit_of editor) w.update.records in
    let next : next_number c.state.result.now.records editor ≡ count_by (is_edit_of editor) w.update.records + 1 =
    rw (c.state.ensures, stands.update) (stands.sound.next editor) in
    omega (arith, c.next_number-q.ensures, next, few, stands.sound.records, w.update.limits.records_in_range.1)

pub returns : goal.returns
returns c = λ w stands.
    let here = rw (← c.self.view_is) at stands.update in
    let his : c.unwrap-editor.result ≡ OPERATOR = search rules in
    let frame : c.set_row.new.self ≡ seeded_frame c.args.row.now = rw c.blank-frame.ensures.blank at c.set_row.ensures.written in
    let q = rw (c.state.ensures, here, his) at c.next_number-q.ensures in
    rw (his, q, frame) refl
