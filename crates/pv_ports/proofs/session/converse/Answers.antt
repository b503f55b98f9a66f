use Rattle.std.proofs.Common.{refl, sym, [], ◌∷◌, ◌∙◌}
use Rattle.pv_ports.specs.Ends.{line_of}
use Rattle.pv_ports.proofs.Sessions.{reads_more, ends_with}
use Rattle.pv_ports.proofs.Talking.{rose_since}
use Rattle.pv_ports.proofs.session.converse.Goals as goal

pub returns-then-is_over : goal.returns-then-is_over
returns-then-is_over g c = λ start first here.
    let before = c.loop.invariant.3 start first here in
    ends_with _ _ _ start first c.loop.pass _ _ _ _ _ (line_of g.L.Source g.L.Sink c.loop.line) _ before
    (λ same. (before.goes_on, sym same ∙ sym c.is_over.ensures ∙ c.if-is_over.true)) (λ all. all)

pub returns-in-Ok-None : goal.returns-in-Ok-None
returns-in-Ok-None g c = λ start first here.
    let before = c.loop.invariant.3 start first here in
    let next = rw c.in-Ok-None.field-0-is at c.in-Ok-None.ensures in
    let after = reads_more _ _ _ start first c.loop.pass _ _ _ _ _ [] c.next-in-loop.new.self (line_of g.L.Source g.L.Sink c.loop.line)
    (line_of g.L.Source g.L.Sink c.next-in-loop.new.line) before next.keyed c.next-in-loop.ensures.written
    c.next-in-loop.ensures.counted c.next-in-loop.ensures.write_faults in
    ends_with _ _ _ start first c.loop.pass _ _ _ _ _ (line_of g.L.Source g.L.Sink c.next-in-loop.new.line) _ after
    (λ same. (after.goes_on, sym same ∙ sym c.is_over.ensures ∙ c.if-is_over.false, next.drained refl, next.ended)) (λ all. all)

pub returns-in-Err : goal.returns-in-Err
returns-in-Err g c = λ start first here.
    let before = c.loop.invariant.3 start first here in
    let after = reads_more _ _ _ start first c.loop.pass _ _ _ _ _ [] c.next-in-loop.new.self (line_of g.L.Source g.L.Sink c.loop.line)
    (line_of g.L.Source g.L.Sink c.next-in-loop.new.line) before c.in-Err.ensures.keyed c.next-in-loop.ensures.written
    c.next-in-loop.ensures.counted c.next-in-loop.ensures.write_faults in
    ends_with _ _ _ start first c.loop.pass _ _ _ _ _ (line_of g.L.Source g.L.Sink c.next-in-loop.new.line) _ after
    (λ same. (
      after.goes_on,
      sym same ∙ sym c.is_over.ensures ∙ c.if-is_over.false,
      c.in-Err.ensures.drained refl,
      rose_since first.read_faults (line_of g.L.Source g.L.Sink c.loop.line).read_faults _ before.reads (c.in-Err.ensures.failed refl),
    ))
    (λ all. all)

pub returns-in-Some-take : goal.returns-in-Some-take
returns-in-Some-take g c = λ start first here.
    let before = c.loop.invariant.3 start first here in
    let byte = rw c.in-Ok-Some.field-0-is at c.in-Ok-Some.ensures in
    let next = reads_more _ _ _ start first c.loop.pass _ _ _ _ _ (c.in-Ok-Some.byte ∷ []) c.next-in-loop.new.self
    (line_of g.L.Source g.L.Sink c.loop.line) (line_of g.L.Source g.L.Sink c.next-in-loop.new.line) before byte.keyed
    c.next-in-loop.ensures.written c.next-in-loop.ensures.counted c.next-in-loop.ensures.write_faults in
    c.in-Some-take.ensures.goes start first c.next-in-loop.new.self next

pub loop-preserved : goal.loop-preserved
loop-preserved g c =
    let byte = rw c.in-Ok-Some.field-0-is at c.in-Ok-Some.ensures in (
      tt,
      tt,
      c.in_default.ensures.ended ∙ byte.ended,
      λ start first here.
          let before = c.loop.invariant.3 start first here in
          let next = reads_more _ _ _ start first c.loop.pass _ _ _ _ _ (c.in-Ok-Some.byte ∷ []) c.next-in-loop.new.self
          (line_of g.L.Source g.L.Sink c.loop.line) (line_of g.L.Source g.L.Sink c.next-in-loop.new.line) before byte.keyed
          c.next-in-loop.ensures.written c.next-in-loop.ensures.counted c.next-in-loop.ensures.write_faults in
          rw c.in_default.ensures.ahead (c.in_default.ensures.goes start first c.next-in-loop.new.self next),
    )
