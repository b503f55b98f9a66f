use Rattle.std.proofs.Common.{List, [], ◌∷◌, ◌++◌, ap, ◌∙◌, arith}
use Rattle.std.specs.Option.{option_map}
use Rattle.pv_service.proofs.editor_stand.serve_next.Goals as goal

-- the connection that came in was served and given back
pub returns-clause-served : goal.returns-clause-served
returns-clause-served g c =
    let line = c.serve_editor-end.new.line.line in
    let order = g.met.O.Door.order c.args.door.now in
    record {
      line = line;
      serves = record {
        accepted = c.in_ok-accepted.accepted;
        unused = c.in_ok-accepted.ensures.unused;
        marks = c.serve_editor-end.new.self.marks;
        session = c.serve_editor-end.ensures;
      };
      door = record {
        back = c.finish.ensures.lines ∙ ap (option_map (λ (b : List _). b ++ line ∷ [])) c.in_ok-accepted.ensures.lines;
        accepted = omega (arith, c.finish.ensures.accepted, c.in_ok-accepted.ensures.accepted, c.requires.room);
        finished = omega (arith, c.finish.ensures.finished, c.in_ok-accepted.ensures.finished, order, c.requires.room);
        faults = omega (arith, c.finish.ensures.faults, c.in_ok-accepted.ensures.account.counted);
      };
    }
