-- What a journal has counted, and the byte at its gate.
use Rattle.std.proofs.Common.{◌≡◌, ◌≢◌, inl, inr, ℕ, ◌+◌, List, [], ◌∷◌, ◌++◌, length, get_or, drop, refl, sym, ◌∙◌, ap, arith, All, append_assoc, length-append, rules}
use Rattle.std.proofs.lemmas.List.{get_or_at, drop_at, flat_map_more, length_push, append-nil}
use Rattle.std.proofs.lemmas.List.Elements.{All-nil, All-push, All-append}
use Rattle.std.proofs.lemmas.Grind.{flat_map-append}
use Rattle.std.specs.List.{flat_map}
use Rattle.std.specs.Int.{w16, to_be_bytes}
use Rattle.pv_outside.specs.declared.reports.Reports as reports
use Rattle.pv_journal.specs.declared.block.TheConstants.{MARK}
use Rattle.pv_journal.specs.Text.{IsBody, block, text_of, Spells, SpellsEither, HasBlock}
use Rattle.pv_journal.specs.Log.{Log, hand_size}
use Rattle.pv_journal.specs.Journal.{HasCounted}

-- a block has three bytes more than its body
length-block : (body : List ℕ) → length (block body) ≡ length body + 3
length-block body = omega (arith, length-append (to_be_bytes w16 (length body)) body)

-- the text before the gate grows by the block of each body that is added
text_of-push : (bodies : List (List ℕ)) (body : List ℕ) → text_of (bodies ++ body ∷ []) ≡ text_of bodies ++ block body
text_of-push bodies body = sym (flat_map_more block MARK bodies body)

-- the gate moves by the size of the body and three
length-text_of-push : (bodies : List (List ℕ)) (body : List ℕ)
    → length (text_of (bodies ++ body ∷ [])) ≡ length (text_of bodies) + length body + 3
length-text_of-push bodies body =
    ap length (text_of-push bodies body) ∙ length-append (text_of bodies) (block body) ∙ omega (arith, length-block body)

-- at the place after the blocks of the bodies that a text spells stands its closed gate
pub gate_byte : (bodies : List (List ℕ)) (text : List ℕ) (spells : Spells text bodies)
    → get_or text (length (text_of bodies)) 0 ≡ spells.gate
gate_byte bodies text spells = search (rules, get_or_at)

-- one body in hand has the size of a body
pub one_sized : (body : List ℕ) → IsBody body → All IsBody (body ∷ [])
one_sized body sized = All-push IsBody [] body (All-nil IsBody) sized

-- the text before the gate grows by the blocks of the bodies that are added
text_of-append : (bodies hand : List (List ℕ)) → text_of (bodies ++ hand) ≡ text_of bodies ++ flat_map block hand
text_of-append bodies hand =
    ap (λ (l : List ℕ). MARK ++ l) (flat_map-append block bodies hand)
    ∙ sym (append_assoc MARK (flat_map block bodies) (flat_map block hand))

-- the blocks of bodies in hand have three bytes more than these from the first one on
pub length-hand : (first : List ℕ) (others : List (List ℕ)) → length (flat_map block (first ∷ others)) ≡ hand_size (first ∷ others) + 3
length-hand first [] = ap length (append-nil (block first)) ∙ length-block first
length-hand first (next ∷ others) =
    length-append (block first) (flat_map block (next ∷ others))
    ∙ (let e : length (block first) + length (flat_map block (next ∷ others)) ≡ length first + 3 + hand_size (next ∷ others) + 3 = omega (
      arith,
      length-block first,
      length-hand next others,
    ) in e)

-- if a text spells further bodies, the gate before them is open
pub open_byte : (bodies : List (List ℕ)) (first : List ℕ) (others : List (List ℕ)) (text : List ℕ)
    → Spells text (bodies ++ first ∷ others) → get_or text (length (text_of bodies)) 0 ≡ 1
open_byte bodies first others text spells =
    let behind = to_be_bytes w16 (length first) ++ first in
    let whole : text ≡ text_of bodies ++ (1 ∷ ((behind ++ flat_map block others) ++ spells.gate ∷ spells.rest)) =
    spells.text
    ∙ ap (λ (l : List ℕ). l ++ spells.gate ∷ spells.rest) (text_of-append bodies (first ∷ others))
    ∙ append_assoc (text_of bodies) (flat_map block (first ∷ others)) (spells.gate ∷ spells.rest) in
    ap (λ (l : List ℕ). get_or l (length (text_of bodies)) 0) whole
    ∙ get_or_at (text_of bodies) 1 ((behind ++ flat_map block others) ++ spells.gate ∷ spells.rest) 0 (length (text_of bodies)) refl

-- of the list without the bodies in hand and the one with them, a text whose gate is open spells the one with them
pub is_stored : (bodies : List (List ℕ)) (first : List ℕ) (others : List (List ℕ)) (text : List ℕ)
    → get_or text (length (text_of bodies)) 0 ≡ 1 → SpellsEither bodies (first ∷ others) text → Spells text (bodies ++ first ∷ others)
is_stored bodies first others text is_open (inl without) = absurd (without.closed (sym (gate_byte bodies text without) ∙ is_open))
is_stored bodies first others text is_open (inr with_hand) = with_hand

-- a text whose gate is not open spells the list without them
pub is_dropped : (bodies : List (List ℕ)) (first : List ℕ) (others : List (List ℕ)) (text : List ℕ)
    → get_or text (length (text_of bodies)) 0 ≢ 1 → SpellsEither bodies (first ∷ others) text → Spells text bodies
is_dropped bodies first others text shut (inl without) = without
is_dropped bodies first others text shut (inr with_hand) = absurd (shut (open_byte bodies first others text with_hand))

-- a journal whose count rose by the bodies in hand, and whose gate moved after their blocks, has counted them too
pub counted_all : {D : Type 0} (g : reports.Ghosts D) (old new : Log D) (bodies : List (List ℕ)) (first : List ℕ) (others : List (List ℕ))
    → HasCounted g old bodies → All IsBody (first ∷ others)
    → new.count ≡ old.count + length (first ∷ others) → new.gate ≡ old.gate + hand_size (first ∷ others) + 3
    → HasCounted g new (bodies ++ first ∷ others)
counted_all g old new bodies first others counted sized count gate = record {
  count = omega (arith, count, counted.count, length-append bodies (first ∷ others));
  gate =
      gate ∙ (let e : old.gate + hand_size (first ∷ others) + 3 ≡ length (text_of bodies) + length (flat_map block (first ∷ others)) = omega (
        arith,
        counted.gate,
        length-hand first others,
      ) in e)
      ∙ sym (ap length (text_of-append bodies (first ∷ others)) ∙ length-append (text_of bodies) (flat_map block (first ∷ others)));
  sizes = All-append IsBody bodies (first ∷ others) counted.sizes sized;
}

-- a journal whose count rose by one, and whose gate moved after the block of a body, has counted that body too
pub counted_more : {D : Type 0} (g : reports.Ghosts D) (old new : Log D) (bodies : List (List ℕ)) (body : List ℕ)
    → HasCounted g old bodies → IsBody body
    → new.count ≡ old.count + 1 → new.gate ≡ old.gate + length body + 3 → HasCounted g new (bodies ++ body ∷ [])
counted_more g old new bodies body counted sized count gate = record {
  count = omega (arith, count, counted.count, length_push bodies body);
  gate =
      gate ∙ (let e : old.gate + length body + 3 ≡ length (text_of (bodies ++ body ∷ [])) = omega (
        arith,
        counted.gate,
        length-text_of-push bodies body,
      ) in e);
  sizes = All-push IsBody bodies body counted.sizes sized;
}

-- a text that begins with the bodies, and has the block of one more after them, begins with the longer list
pub next_front : (bodies : List (List ℕ)) (body text : List ℕ) (gate n : ℕ) → gate ≡ length (text_of bodies) → n ≡ gate + length body + 3
    → text ≡ text_of bodies ++ drop gate text → HasBlock (drop gate text) body → text ≡ text_of (bodies ++ body ∷ []) ++ drop n text
next_front bodies body text gate n is next begins has =
    let split : text ≡ text_of (bodies ++ body ∷ []) ++ has.rest =
    begins
    ∙ ap (λ (l : List ℕ). text_of bodies ++ l) has.text
    ∙ sym (append_assoc (text_of bodies) (block body) has.rest)
    ∙ ap (λ (l : List ℕ). l ++ has.rest) (sym (text_of-push bodies body)) in
    let rest : drop n text ≡ has.rest =
    ap (λ (l : List ℕ). drop n l) split
    ∙ drop_at (text_of (bodies ++ body ∷ [])) has.rest n
    (length-text_of-push bodies body ∙ (let e : length (text_of bodies) + length body + 3 ≡ n = omega (arith, is, next) in e)) in
    split ∙ ap (λ (l : List ℕ). text_of (bodies ++ body ∷ []) ++ l) (sym rest)
