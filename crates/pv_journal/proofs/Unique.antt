-- A text spells at most one list of bodies.
use Rattle.std.proofs.Common.{◌≡◌, ◌≢◌, ℕ, suc, ◌+◌, List, [], ◌∷◌, ◌++◌, length, take, drop, refl, sym, ◌∙◌, ap, subst, ⊎_elim, arith, All, append_assoc, length-append, Option, Some, IfSome}
use Rattle.std.proofs.lemmas.Option.{MatchOption-at_some}
use Rattle.std.proofs.lemmas.List.{take_at, append_cancel_left, get_or-append-add}
use Rattle.std.proofs.lemmas.List.Elements.{All-head}
use Rattle.std.proofs.lemmas.Grind.{flat_map-append}
use Rattle.std.proofs.lemmas.Nat.{from_be_bytes-to_be_bytes_2}
use Rattle.std.specs.List.{flat_map}
use Rattle.std.specs.Int.{w16, to_be_bytes, from_be_bytes}
use Rattle.pv_journal.specs.declared.block.TheConstants.{MARK}
use Rattle.pv_journal.specs.Text.{IsBody, block, text_of, Spells, HasNoOpenGate, HasBlock, HasBrokenBlock}

-- after the mark, or after some of the bodies, stand the blocks of these and a closed gate
pub record Follows (rest : List ℕ) (bodies : List (List ℕ)) : Type 0 where
  pub gate : ℕ
  pub behind : List ℕ
  pub text : rest ≡ flat_map block bodies ++ gate ∷ behind
  pub closed : gate ≢ 1
  pub sizes : All IsBody bodies

-- two blocks at the beginning of the same bytes are of one body
same_block : (a b x y : List ℕ) → IsBody a → IsBody b → block a ++ x ≡ block b ++ y → (a ≡ b) × (x ≡ y)
same_block a b x y sized_a sized_b same =
    let digits : to_be_bytes w16 (length a) ≡ to_be_bytes w16 (length b) = cc in
    let size : length a ≡ length b =
    sym (from_be_bytes-to_be_bytes_2 (length a) (omega (arith, sized_a)))
    ∙ ap (λ (l : List ℕ). from_be_bytes w16 l) digits
    ∙ from_be_bytes-to_be_bytes_2 (length b) (omega (arith, sized_b)) in
    let rest : a ++ x ≡ b ++ y = cc in
    let body : a ≡ b =
    sym (take_at a x (length a) refl) ∙ ap (λ (l : List ℕ). take (length a) l) rest ∙ take_at b y (length a) (sym size) in
    (body, append_cancel_left b x y (ap (λ (l : List ℕ). l ++ x) (sym body) ∙ rest))

-- after a closed gate there is no further body
pub closed_none : (rest : List ℕ) (more : List (List ℕ)) → Follows rest more → HasNoOpenGate rest → more ≡ []
closed_none rest [] follows closed = refl
closed_none [] (body ∷ more) follows closed = absurd closed
closed_none (g ∷ rest) (body ∷ more) follows closed =
    let is_open : g ≡ 1 = cc (follows.text) in
    absurd (closed is_open)

-- if the block of a body stands, that body is the first of those that follow
pub first_is : (rest body : List ℕ) (more : List (List ℕ)) → Follows rest more → HasBlock rest body
    → (others : List (List ℕ)) × (more ≡ body ∷ others)
first_is rest body [] follows has =
    let same : follows.gate ∷ follows.behind ≡ block body ++ has.rest = sym follows.text ∙ has.text in
    let is_open : follows.gate ≡ 1 = cc in
    absurd (follows.closed is_open)
first_is rest body (first ∷ more) follows has =
    let same : block first ++ (flat_map block more ++ follows.gate ∷ follows.behind) ≡ block body ++ has.rest =
    sym (append_assoc (block first) (flat_map block more) (follows.gate ∷ follows.behind)) ∙ sym follows.text ∙ has.text in
    let one = same_block first body _ _ (All-head IsBody first more follows.sizes) has.size same in
    (more, ap (λ (b : List ℕ). b ∷ more) one.0)

-- a gate that is broken and there is open
open_if_broken : (gate : ℕ) (rest : List ℕ) → HasBrokenBlock (gate ∷ rest) → gate ≡ 1
open_if_broken gate [] broken = broken
open_if_broken gate (high ∷ []) broken = broken
open_if_broken gate (high ∷ low ∷ rest) broken = broken.0

-- if bodies follow, or a closed gate, the bytes are not broken
pub never_broken : (rest : List ℕ) (more : List (List ℕ)) → Follows rest more → HasBrokenBlock rest → ⊥
never_broken rest [] follows broken = follows.closed (open_if_broken follows.gate follows.behind (subst HasBrokenBlock follows.text broken))
never_broken rest (body ∷ more) follows broken =
    let sized = All-head IsBody body more follows.sizes in
    let behind = flat_map block more ++ follows.gate ∷ follows.behind in
    let there : HasBrokenBlock (block body ++ behind) =
    subst HasBrokenBlock (follows.text ∙ append_assoc (block body) (flat_map block more) (follows.gate ∷ follows.behind)) broken in
    let size : from_be_bytes w16 (to_be_bytes w16 (length body)) ≡ length body =
    from_be_bytes-to_be_bytes_2 (length body) (omega (arith, sized)) in
    ⊎_elim (λ none. omega (arith, none, size, sized))
    (⊎_elim (λ long. omega (arith, long, size, sized)) (λ short. omega (arith, short, size, length-append body behind))) there.1

-- of a text that spells some bodies and more, what stands after the first ones are the others
pub follows_front : (bodies more : List (List ℕ)) (text rest : List ℕ) → text ≡ text_of bodies ++ rest → Spells text (bodies ++ more)
    → Follows rest more
follows_front bodies more text rest begins spells =
    let whole : text_of bodies ++ rest ≡ text_of bodies ++ (flat_map block more ++ spells.gate ∷ spells.rest) =
    sym begins ∙ spells.text
    ∙ ap (λ (l : List ℕ). MARK ++ l ++ spells.gate ∷ spells.rest) (flat_map-append block bodies more)
    ∙ ap (λ (l : List ℕ). l ++ spells.gate ∷ spells.rest) (sym (append_assoc MARK (flat_map block bodies) (flat_map block more)))
    ∙ append_assoc (text_of bodies) (flat_map block more) (spells.gate ∷ spells.rest) in
    record {
      gate = spells.gate;
      behind = spells.rest;
      text = append_cancel_left (text_of bodies) rest (flat_map block more ++ spells.gate ∷ spells.rest) whole;
      closed = spells.closed;
      sizes =
          λ k d h. subst IsBody (get_or-append-add bodies more k d)
          (spells.sizes (length bodies + k) d (omega (arith, length-append bodies more)));
    }

-- a text that begins with some bodies, with a closed gate after them, spells these
pub spells_front : (bodies : List (List ℕ)) (text rest : List ℕ) → text ≡ text_of bodies ++ rest → HasNoOpenGate rest → All IsBody bodies
    → Spells text bodies
spells_front bodies text [] begins closed sizes = absurd closed
spells_front bodies text (gate ∷ rest) begins closed sizes =
    record { gate = gate; rest = rest; text = begins; closed = closed; sizes = sizes }

-- what stands after some bodies is the text of at most one list of further ones
same_following : (rest : List ℕ) (one other : List (List ℕ)) → Follows rest one → Follows rest other → one ≡ other
same_following rest [] other a b = sym (closed_none rest other b (subst HasNoOpenGate (sym a.text) a.closed))
same_following rest (body ∷ one) [] a b = closed_none rest (body ∷ one) a (subst HasNoOpenGate (sym b.text) b.closed)
same_following rest (body ∷ one) (first ∷ other) a b =
    let behind_a = flat_map block one ++ a.gate ∷ a.behind in
    let behind_b = flat_map block other ++ b.gate ∷ b.behind in
    let same : block body ++ behind_a ≡ block first ++ behind_b =
    sym (a.text ∙ append_assoc (block body) (flat_map block one) (a.gate ∷ a.behind))
    ∙ b.text
    ∙ append_assoc (block first) (flat_map block other) (b.gate ∷ b.behind) in
    let parts = same_block body first behind_a behind_b (All-head IsBody body one a.sizes) (All-head IsBody first other b.sizes) same in
    let others = same_following behind_a one other
    (record { gate = a.gate; behind = a.behind; text = refl; closed = a.closed; sizes = λ k d h. a.sizes (suc k) d (omega arith) })
    (record { gate = b.gate; behind = b.behind; text = parts.1; closed = b.closed; sizes = λ k d h. b.sizes (suc k) d (omega arith) }) in
    (λ i. parts.0 i ∷ others i)

-- a text spells at most one list of bodies
pub same_spelled : (text : List ℕ) (one other : List (List ℕ)) → Spells text one → Spells text other → one ≡ other
same_spelled text one other a b =
    let rest = flat_map block one ++ a.gate ∷ a.rest in
    same_following rest one other (follows_front [] one text rest (a.text ∙ append_assoc MARK (flat_map block one) (a.gate ∷ a.rest)) a)
    (follows_front [] other text rest (a.text ∙ append_assoc MARK (flat_map block one) (a.gate ∷ a.rest)) b)

-- on a disk that spells the bodies that were read and more, these others are at the gate
pub follows_on_disk : (o : Option (List ℕ)) (gate : ℕ) (bodies more : List (List ℕ)) (text : List ℕ)
    → IfSome o (λ text. text ≡ text_of bodies ++ drop gate text) → o ≡ Some text → Spells text (bodies ++ more)
    → Follows (drop gate text) more
follows_on_disk o gate bodies more text begins is spells =
    follows_front bodies more text (drop gate text)
    (MatchOption-at_some _ (λ (t : List ℕ). t ≡ text_of bodies ++ drop gate t) text is begins) spells
