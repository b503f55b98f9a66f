use Rattle.std.proofs.Common.{◌≡◌, ℕ, ◌+◌, ◌-◌, ◌≤◌, List, ◌++◌, length, ap, refl, ◌∙◌, arith}
use Rattle.pv_editor.specs.declared.text.TheConstants.{ROOM}
use Rattle.pv_editor.proofs.Pushes.{shown_more, zeroed_more, still_fits}
use Rattle.pv_editor.proofs.text.Text.push.Goals as goal

pub invariant_of-self : goal.invariant_of-self
invariant_of-self c =
    let len = c.self.inside.length in
    let more = c.args.more.now in
    let fits : len + length more ≤ ROOM =
    still_fits len (length more) c.self.inside.bytes c.args.self.now c.self.invariant c.self.view_is c.requires in
    let k : len + length more - len ≡ length more = omega arith in
    rw (k, c.copy_from_slice.ensures.after) (zeroed_more len (length more) c.self.inside.bytes more c.self.invariant refl fits)

pub returns : goal.returns
returns c =
    let len = c.self.inside.length in
    let more = c.args.more.now in
    let fits : len + length more ≤ ROOM =
    still_fits len (length more) c.self.inside.bytes c.args.self.now c.self.invariant c.self.view_is c.requires in
    let k : len + length more - len ≡ length more = omega arith in
    rw (k, c.copy_from_slice.ensures.after)
    (shown_more len (length more) c.self.inside.bytes more c.self.invariant refl fits ∙ ap (λ (t : List ℕ). t ++ more) c.self.view_is)
