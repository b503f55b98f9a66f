use Rattle.std.proofs.Common.{rules, sym, ◌≡◌, eqb, [], get_or}
use Rattle.std.specs.List.{position_or_len}
use Rattle.pv_post.specs.Boxes.{without_letter}
use Rattle.pv_post.proofs.Boxes.{box-changed}
use Rattle.pv_post.proofs.mailboxes.Mailboxes.remove.Goals as goal

-- an owner's box loses the letter, and the others stay
pub returns-clause-letters : goal.returns-clause-letters
returns-clause-letters c = λ other.
    let at : c.in-Some.index ≡ position_or_len (eqb c.args.account) c.self.inside.owners.keys = search rules in
    let was : c.index_mut.result.now ≡ get_or c.self.inside.boxes.items c.in-Some.index c.index_mut.result.now = search rules in
    rw (sym c.self.view_is)
    (box-changed [] c.self.inside.owners.keys _ c.self.invariant.each _ _ c.args.account other (λ letters. without_letter letters c.args.number)
    c.in-Some.index _ _ at c.in-Some.ensures.within was c.remove.ensures.rest)
