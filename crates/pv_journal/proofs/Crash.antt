-- What a crash may leave in each of the two writes of an append.
use Rattle.std.proofs.Common.{◌≡◌, ◌≢◌, inl, inr, ℕ, suc, ◌+◌, ◌<◌, ◌≤◌, List, [], ◌∷◌, ◌++◌, length, get_or, take, drop, refl, sym, ◌∙◌, ap, subst, arith, All, append_assoc, length-append, rules}
use Rattle.std.proofs.lemmas.List.{take_at, drop_at, drop_more, append-nil, get_or_append_left, get_or-append-add, length-drop, get_or-drop}
use Rattle.std.proofs.lemmas.List.Elements.{All-append}
use Rattle.std.proofs.lemmas.Bool.{cases_eq}
use Rattle.std.proofs.lemmas.Grind.{flat_map-append}
use Rattle.std.specs.List.{flat_map}
use Rattle.std.specs.Int.{w16, to_be_bytes}
use Rattle.pv_outside.specs.Disk.{Torn, text_after_write}
use Rattle.pv_journal.specs.declared.block.TheConstants.{MARK}
use Rattle.pv_journal.specs.Text.{IsBody, block, text_of, Spells, SpellsEither, bytes_after_gate, bytes_behind}

-- a list that has the elements of a shorter one at its places begins with that one
begins_with : (xs ys : List ℕ) → length xs ≤ length ys → ((i : ℕ) → i < length xs → get_or ys i 0 ≡ get_or xs i 0)
    → ys ≡ xs ++ drop (length xs) ys
begins_with [] ys le same = refl
begins_with (x ∷ xs) [] le same = absurd (omega arith)
begins_with (x ∷ xs) (y ∷ ys) le same =
    let head : y ≡ x = same 0 (omega arith) in
    let tail : ys ≡ xs ++ drop (length xs) ys = begins_with xs ys (omega arith) (λ i h. same (suc i) (omega arith)) in
    cc

-- what lies before the range of a torn write stands
keeps_front : (xs ys c : List ℕ) (at n : ℕ) → length xs ≤ at → Torn at n (xs ++ ys) c → c ≡ xs ++ drop (length xs) c
keeps_front xs ys c at n before torn = search (rules, begins_with, length-append, get_or_append_left)

-- a torn write of one byte leaves all other bytes up to the old end, whatever is at that place and past the end
keeps_back : (xs ys c : List ℕ) (g : ℕ) → Torn (length xs) 1 (xs ++ g ∷ ys) c
    → c ≡ xs ++ get_or c (length xs) 0 ∷ (ys ++ drop (length ys) (drop (length xs + 1) c))
keeps_back xs ys c g torn =
    let whole : length (xs ++ g ∷ ys) ≡ length xs + (length ys + 1) = omega (arith, length-append xs (g ∷ ys)) in
    let in_front = keeps_front xs (g ∷ ys) c (length xs) 1 (omega arith) torn in
    let behind : drop (length xs + 1) c ≡ ys ++ drop (length ys) (drop (length xs + 1) c) =
    begins_with ys (drop (length xs + 1) c) (omega (arith, torn.no_shorter, whole, length-drop (length xs + 1) c)) (λ i h.
    get_or-drop (length xs + 1) c i 0
    ∙ torn.outside (length xs + 1 + i) (omega (arith, whole)) (inr (omega arith))
    ∙ ap (λ (k : ℕ). get_or (xs ++ g ∷ ys) k 0) (let k : length xs + 1 + i ≡ length xs + suc i = omega arith in k)
    ∙ get_or-append-add xs (g ∷ ys) (suc i) 0) in
    in_front
    ∙ ap (λ (l : List ℕ). xs ++ l)
    (drop_more c (length xs) 0 (omega (arith, torn.no_shorter, whole)) ∙ ap (λ (l : List ℕ). get_or c (length xs) 0 ∷ l) behind)

-- The bytes spell these bodies but for the gate after them, which may be anything, and after it stand further bodies whole and a closed gate.
pub record IsStaged (bodies hand : List (List ℕ)) (bytes : List ℕ) : Type 0 where
  pub gate : ℕ
  pub rest : List ℕ
  pub text : bytes ≡ text_of bodies ++ gate ∷ (bytes_behind hand ++ rest)
  pub sizes : All IsBody bodies

-- to append a body, three bytes more than it has are written after the gate
pub length-bytes_after_gate : (body : List ℕ) → length (bytes_after_gate body) ≡ length body + 3
length-bytes_after_gate body =
    omega (arith, length-append (to_be_bytes w16 (length body) ++ body) (0 ∷ []), length-append (to_be_bytes w16 (length body)) body)

-- what is written after a gate to append one body
pub one_behind : (body : List ℕ) → bytes_behind (body ∷ []) ≡ bytes_after_gate body
one_behind body =
    ap (λ (l : List ℕ). l ++ 0 ∷ []) (append-nil (to_be_bytes w16 (length body) ++ body))
    ∙ append_assoc (to_be_bytes w16 (length body)) body (0 ∷ [])

-- with the gate before them open, the bodies that were written are the last that the bytes spell
opened : (bodies : List (List ℕ)) (first : List ℕ) (others : List (List ℕ)) (rest : List ℕ)
    → text_of bodies ++ 1 ∷ (bytes_behind (first ∷ others) ++ rest) ≡ text_of (bodies ++ first ∷ others) ++ 0 ∷ rest
opened bodies first others rest =
    ap (λ (l : List ℕ). text_of bodies ++ l) (append_assoc (flat_map block (first ∷ others)) (0 ∷ []) rest)
    ∙ sym (append_assoc (text_of bodies) (flat_map block (first ∷ others)) (0 ∷ rest))
    ∙ ap (λ (l : List ℕ). l ++ 0 ∷ rest) (append_assoc MARK (flat_map block bodies) (flat_map block (first ∷ others)))
    ∙ ap (λ (l : List ℕ). (MARK ++ l) ++ 0 ∷ rest) (sym (flat_map-append block bodies (first ∷ others)))

-- a gate of 0 is closed
zero_is_closed : ◌≢◌ {A = ℕ} 0 1
zero_is_closed e = omega arith

module _ (bodies : List (List ℕ)) where
  -- whatever a crash makes of a write after the closed gate, the bytes spell the bodies that they spelled
  pub torn_behind : (at n : ℕ) (d c : List ℕ) → at ≡ length (text_of bodies) + 1 → Spells d bodies → Torn at n d c → Spells c bodies
  torn_behind at n d c is spells torn =
      let closed_front = text_of bodies ++ spells.gate ∷ [] in
      let split : d ≡ closed_front ++ spells.rest = spells.text ∙ sym (append_assoc (text_of bodies) (spells.gate ∷ []) spells.rest) in
      let stands = keeps_front closed_front spells.rest c at n
      (omega (arith, length-append (text_of bodies) (spells.gate ∷ []))) (subst (λ (l : List ℕ). Torn at n l c) split torn) in
      record {
        gate = spells.gate;
        rest = drop (length closed_front) c;
        text = stands ∙ append_assoc (text_of bodies) (spells.gate ∷ []) (drop (length closed_front) c);
        closed = spells.closed;
        sizes = spells.sizes;
      }

  -- the first write of an append, if it succeeds, leaves the bodies whole after the gate
  pub staged : (at : ℕ) (hand : List (List ℕ)) (text : List ℕ) → at ≡ length (text_of bodies) + 1 → Spells text bodies
      → IsStaged bodies hand (text_after_write at (bytes_behind hand) text)
  staged at hand text is spells =
      let closed_front = text_of bodies ++ spells.gate ∷ [] in
      let split : text ≡ closed_front ++ spells.rest = spells.text ∙ sym (append_assoc (text_of bodies) (spells.gate ∷ []) spells.rest) in
      let before : take at text ≡ closed_front =
      ap (λ (l : List ℕ). take at l) split
      ∙ take_at closed_front spells.rest at (omega (arith, length-append (text_of bodies) (spells.gate ∷ []))) in
      let rest = drop (at + length (bytes_behind hand)) text in
      record {
        gate = spells.gate;
        rest = rest;
        text = ap (λ (l : List ℕ). l ++ bytes_behind hand ++ rest) before
            ∙ append_assoc closed_front (bytes_behind hand) rest
            ∙ append_assoc (text_of bodies) (spells.gate ∷ []) (bytes_behind hand ++ rest);
        sizes = spells.sizes;
      }

  -- whatever a crash makes of the write of the gate, the bytes spell the list without the bodies after it or with all of them
  pub torn_gate : (at : ℕ) (first : List ℕ) (others : List (List ℕ)) (text c : List ℕ) → at ≡ length (text_of bodies)
      → All IsBody (first ∷ others) → IsStaged bodies (first ∷ others) text
      → Torn at 1 text c → SpellsEither bodies (first ∷ others) c
  torn_gate at first others text c is sized staged torn =
      let behind = bytes_behind (first ∷ others) ++ staged.rest in
      let torn_here : Torn (length (text_of bodies)) 1 (text_of bodies ++ staged.gate ∷ behind) c =
      subst (λ (l : List ℕ). Torn (length (text_of bodies)) 1 l c) staged.text
      (subst (λ (k : ℕ). Torn k 1 text c) is torn) in
      let gate = get_or c (length (text_of bodies)) 0 in
      let past = drop (length behind) (drop (length (text_of bodies) + 1) c) in
      let stands : c ≡ text_of bodies ++ gate ∷ (behind ++ past) = keeps_back (text_of bodies) behind c staged.gate torn_here in
      elim (cases_eq gate 1) [
        | inl is_open ↦ inr (record {
          gate = 0;
          rest = staged.rest ++ past;
          text = stands
              ∙ ap (λ (l : List ℕ). text_of bodies ++ gate ∷ l) (append_assoc (bytes_behind (first ∷ others)) staged.rest past)
              ∙ ap (λ (k : ℕ). text_of bodies ++ k ∷ (bytes_behind (first ∷ others) ++ (staged.rest ++ past))) is_open
              ∙ opened bodies first others (staged.rest ++ past);
          closed = zero_is_closed;
          sizes = All-append IsBody bodies (first ∷ others) staged.sizes sized;
        })
        | inr is_closed ↦ inl (record { gate = gate; rest = behind ++ past; text = stands; closed = is_closed; sizes = staged.sizes })
      ]

  -- the write of the open gate, if it succeeds, makes the bodies the last of the list
  pub stored : (at : ℕ) (first : List ℕ) (others : List (List ℕ)) (text : List ℕ) → at ≡ length (text_of bodies)
      → All IsBody (first ∷ others) → IsStaged bodies (first ∷ others) text
      → Spells (text_after_write at (1 ∷ []) text) (bodies ++ first ∷ others)
  stored at first others text is sized staged =
      let behind = bytes_behind (first ∷ others) ++ staged.rest in
      let before : take at text ≡ text_of bodies =
      ap (λ (l : List ℕ). take at l) staged.text ∙ take_at (text_of bodies) (staged.gate ∷ behind) at (sym is) in
      let after : drop (at + 1) text ≡ behind =
      ap (λ (l : List ℕ). drop (at + 1) l) (staged.text ∙ sym (append_assoc (text_of bodies) (staged.gate ∷ []) behind))
      ∙ drop_at (text_of bodies ++ staged.gate ∷ []) behind (at + 1) (omega (arith, length-append (text_of bodies) (staged.gate ∷ []))) in
      record {
        gate = 0;
        rest = staged.rest;
        text = ap (λ (l : List ℕ). l ++ (1 ∷ []) ++ drop (at + 1) text) before
            ∙ ap (λ (l : List ℕ). text_of bodies ++ (1 ∷ []) ++ l) after
            ∙ append_assoc (text_of bodies) (1 ∷ []) behind
            ∙ opened bodies first others staged.rest;
        closed = zero_is_closed;
        sizes = All-append IsBody bodies (first ∷ others) staged.sizes sized;
      }
