-- Spaces at the end of a row, and cells that are their own bytes.
use Rattle.std.proofs.lemmas.{Grind.common_steps, Bool.{eq-eqb, leb-true, le-ltb}}
use Rattle.std.proofs.lemmas.List.{get_or-take, get_or-drop, length-take, length-drop, take-append-drop}
use Rattle.std.proofs.lemmas.List.{Concat.{flat_map-cons, flat_map-append}, Elements.{All-head, All-tail}}
use Rattle.std.proofs.lemmas.List.Sums.{suffix_len-take_yes, AllPass-from_list_all}
use Rattle.std.proofs.Common.{◌≡◌, ℕ, zero, suc, ◌+◌, ◌-◌, ◌<◌, ◌≤◌, cond, Bool, true, List, [], ◌∷◌, ◌++◌, length, get_or, take, drop, All, refl, sym, ap, ◌∙◌, arith}
use Rattle.std.{proofs.Math.Seq.take-append-add, specs.List.{suffix_len, list_all}}
use Rattle.pv_screen.specs.Painting.{is_ordinary, is_space, cell_bytes, cells_bytes}

-- spaces before an end count towards those at the end
pub skip : (row : List ℕ) (n count : ℕ) → n ≤ count → count ≤ length row → ((k : ℕ) → count ≤ k + n → k < count → get_or row k 0 ≡ 32)
    → suffix_len is_space (take count row) ≡ n + suffix_len is_space (take (count - n) row)
skip row zero count few within each = grind (arith, common_steps)
skip row (suc n) count few within each =
    let last = suffix_len-take_yes is_space row count 0 (omega arith) within
    (eq-eqb (get_or row (count - 1) 0) 32 (each (count - 1) (omega arith) (omega arith))) in
    let more = skip row n (count - 1) (omega arith) (omega arith) (λ k from to. each k (omega arith) (omega arith)) in
    let same : count - 1 - n ≡ count - suc n = omega arith in
    omega (arith, last, more, ap (λ k. suffix_len is_space (take k row)) same)

-- cells without an attribute are their own bytes
pub plain_bytes : (cells : List ℕ) → All (λ cell. is_ordinary cell ≡ true) cells → cells_bytes cells ≡ cells
plain_bytes [] plain = refl
plain_bytes (cell ∷ cells) plain =
    let first = leb-true 32 cell (All-head (λ cell. is_ordinary cell ≡ true) cell cells plain) in
    let one : cell_bytes cell ≡ cell ∷ [] = ap (λ b. cond b (27 ∷ (cell + 64) ∷ []) (cell ∷ [])) (le-ltb cell 32 first) in
    flat_map-cons cell_bytes cell cells
    ∙ ap (λ bytes. bytes ++ cells_bytes cells) one
    ∙ ap (λ bytes. cell ∷ bytes) (plain_bytes cells (All-tail (λ cell. is_ordinary cell ≡ true) cell cells plain))

-- each cell of a part that passes a test passes it
pub part_passes : (test : ℕ → Bool) (cells : List ℕ) (at n k : ℕ) → list_all test (take n (drop at cells)) ≡ true → at ≤ k
    → k < at + n → k < length cells → test (get_or cells k 0) ≡ true
part_passes test cells at n k pass from to within =
    let part = take n (drop at cells) in
    let j = k - at in
    let place : at + j ≡ k = omega arith in
    let inside : j < length part = omega (arith, length-take n (drop at cells), length-drop at cells) in
    let same : get_or part j 0 ≡ get_or cells k 0 = get_or-take n (drop at cells) j 0 (omega arith) ∙ get_or-drop at cells j 0
    ∙ ap (λ k. get_or cells k 0) place in
    ap test (sym same) ∙ AllPass-from_list_all test part pass j 0 inside

-- the cells from an index up to an end, after those before it
pub cells_bytes_more : (cells : List ℕ) (at end : ℕ) → at ≤ end → end ≤ length cells
    → cells_bytes (take at cells) ++ cells_bytes (take (end - at) (drop at cells)) ≡ cells_bytes (take end cells)
cells_bytes_more cells at end from to =
    let sum : length (take at cells) + (end - at) ≡ end = omega (arith, length-take at cells) in
    sym (flat_map-append cell_bytes (take at cells) (take (end - at) (drop at cells)))
    ∙ ap cells_bytes (sym (take-append-add (take at cells) (drop at cells) (end - at))
    ∙ ap (take (length (take at cells) + (end - at))) (take-append-drop at cells)
    ∙ ap (λ n. take n cells) sum)
