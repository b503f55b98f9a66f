use Rattle.std.proofs.Common.{rules, IsTrue, ℕ, ◌≡◌, ◌⊎◌, ◌<◌, ◌++◌, ◌∷◌, eqb, false, length, [], get_or, subst, refl, sym, ap, ◌∙◌, arith}
use Rattle.std.specs.List.{list_any, position_or_len}
use Rattle.std.proofs.lemmas.List.{length_push}
use Rattle.pv_post.specs.Boxes.{Boxes, has_box, with_letter}
use Rattle.pv_post.proofs.Boxes.{fewer_than_room, box-changed, box-added}
use Rattle.pv_post.proofs.mailboxes.Mailboxes.arrive.Goals.{After-unwrap}
use Rattle.pv_post.proofs.mailboxes.Mailboxes.arrive.Goals as goal

-- there is room for him, as an owner or as one more
abbrev IsRoom : Boxes → ℕ → Type 0
IsRoom mail to = IsTrue (has_box mail to) ⊎ (length mail.owners < mail.room)

-- he has no box, so there is room for one
fewer : (c : After-unwrap) → length c.self.inside.owners.keys < c.self.inside.room
fewer c =
    let none : list_any (eqb c.args.to) c.self.inside.owners.keys ≡ false = search rules in
    let room = subst (λ (mail : Boxes). IsRoom mail c.args.to) (sym c.self.view_is) c.requires.room in
    fewer_than_room c.args.to c.self.inside.owners.keys _ none room

pub push_box-requires : goal.push_box-requires
push_box-requires c = omega (arith, fewer (goal.at.push_box-requires c).After-unwrap, c.self.invariant.each, c.self.invariant.boxes_room)

-- he is an owner more, with a box more
pub invariant_of-self-in-None : goal.invariant_of-self-in-None
invariant_of-self-in-None c =
    let keys : c.insert_full.new.self.keys ≡ c.self.inside.owners.keys ++ c.args.to ∷ [] = search rules in
    let owners = ap length keys ∙ length_push c.self.inside.owners.keys c.args.to in
    let boxes = ap length c.push_box.ensures.items ∙ length_push c.self.inside.boxes.items (c.args.letter.now ∷ []) in
    record {
      each = omega (arith, owners, boxes, c.self.invariant.each);
      within = omega (arith, owners, fewer (goal.at.invariant_of-self-in-None c).After-unwrap);
      distinct = search rules;
      owners_room = search rules;
      boxes_room = omega (arith, c.push_box.ensures.capacity, c.self.invariant.boxes_room);
    }

-- his box has the letter, and the others stay
pub returns-in-Some-clause-letters : goal.returns-in-Some-clause-letters
returns-in-Some-clause-letters c = λ account.
    let at : c.in-Some.index ≡ position_or_len (eqb c.args.to) c.self.inside.owners.keys = search rules in
    let was : c.index_mut.result.now ≡ get_or c.self.inside.boxes.items c.in-Some.index c.index_mut.result.now = search rules in
    rw (sym c.self.view_is)
    (box-changed [] c.self.inside.owners.keys _ c.self.invariant.each _ _ c.args.to account (λ letters. with_letter letters c.args.letter.now)
    c.in-Some.index _ _ at c.in-Some.ensures.within was c.arrive.ensures)

-- his box has the letter alone, and the others stay
pub returns-in-None-clause-letters : goal.returns-in-None-clause-letters
returns-in-None-clause-letters c = λ account.
    let none : list_any (eqb c.args.to) c.self.inside.owners.keys ≡ false = search rules in
    let keys : c.insert_full.new.self.keys ≡ c.self.inside.owners.keys ++ c.args.to ∷ [] = search rules in
    rw (sym c.self.view_is, keys, c.push_box.ensures.items)
    (box-added [] c.self.inside.owners.keys _ c.self.invariant.each _ _ c.args.to account (λ letters. with_letter letters c.args.letter.now) _
    none refl)
