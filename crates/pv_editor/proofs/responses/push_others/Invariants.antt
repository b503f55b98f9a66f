use Rattle.std.proofs.Common.{◌≡◌, ◌≤◌, ◌+◌, ◌*◌, ◌++◌, length, take}
use Rattle.pv_post.specs.declared.filled.TheConstants.{FILLED_BYTES}
use Rattle.pv_editor.specs.Replies.{barred_fields}
use Rattle.pv_editor.proofs.responses.push_others.Given as goal

-- the fields so far are appended, and took no more than their room
abbrev pub invariant-loop-field : goal.invariant-loop-field
invariant-loop-field l = record {
  pushed : l.text ≡ l.initial.text ++ barred_fields (take l.field-index l.others);
  short : length l.text ≤ length l.initial.text + (FILLED_BYTES + 1) * l.field-index;
}
