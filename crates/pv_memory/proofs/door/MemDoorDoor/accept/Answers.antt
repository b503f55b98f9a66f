use Rattle.std.proofs.Common.{rules, ◌≡◌, ◌∷◌, suc, List, length, ap, subst, arith}
use Rattle.std.specs.Prelude.{All}
use Rattle.std.specs.Vec.Iter.{into_iter_items}
use Rattle.pv_memory.specs.Doors.{IsNewLine}
use Rattle.pv_memory.specs.declared.line.MemLine.{MemLine}
use Rattle.pv_memory.proofs.door.MemDoorDoor.accept.Goals as goal

-- the lines that still wait are new, and there is room for all
pub invariant_of-self-in-Some : goal.invariant_of-self-in-Some
invariant_of-self-in-Some c =
    let items : into_iter_items c.self.inside.waiting ≡ c.in-Some.line ∷ into_iter_items c.next.new.self = search rules in
    let all = subst (λ (l : List MemLine). All IsNewLine l) items c.self.invariant.0 in
    let count = ap length items in
    ((λ k d h. all (suc k) d (omega (arith, h))), omega (arith, c.self.invariant.1), omega (arith, count, c.self.invariant.2))
