use Rattle.std.proofs.Common.{◌+◌, ◌≤◌, length, arith, refl, length-drop}
use Rattle.std.proofs.Math.Nat.{add-sub_cancel_left}
use Rattle.pv_fields.proofs.Appending.{written, rest, room}
use Rattle.pv_fields.proofs.writing.Out.put_run.Goals as goal

pub returns : goal.returns
returns c =
    let s = c.args.self.now.into.now in
    let k = c.args.self.now.count in
    let bytes = c.args.bytes.now in
    let copied = c.copy_from_slice.ensures.after in
    let is_length = add-sub_cancel_left k (length bytes) in
    let fits : k + length bytes ≤ length s = omega (arith, length-drop k s, c.args.self.now.within, c.requires) in
    record {
      appends = record {
        written = written s bytes _ k _ copied is_length fits;
        rest = rest s bytes _ k _ copied is_length fits;
        room = room s bytes _ k _ copied is_length fits;
        slice = refl;
      };
    }
