-- What a batch has written, and what an append writes of it.
use Rattle.std.proofs.Common.{◌≡◌, ℕ, ◌+◌, ◌-◌, ◌<◌, ◌≤◌, List, [], ◌∷◌, ◌++◌, length, take, drop, set, refl, sym, ◌∙◌, ap, arith, append_assoc, length-append}
use Rattle.std.proofs.lemmas.List.{drop-take, take-take, take_at, take-append-le}
use Rattle.std.proofs.lemmas.Grind.{flat_map-append, take-set_at}
use Rattle.std.proofs.Math.Seq.{take-append-add}
use borrow.Rule.Slice.PartMut.{put_mid, post_of}
use Rattle.std.specs.List.{flat_map, slice_range}
use Rattle.pv_journal.specs.Batch.{Pack, HasPacked}
use Rattle.pv_journal.specs.Text.{block, bytes_behind, bytes_after_gate}
use Rattle.pv_journal.specs.Log.{hand_size}
use Rattle.pv_journal.proofs.Counted.{length-hand}
use Rattle.pv_journal.proofs.Crash.{one_behind}

module _ (b : Pack) (first : List ℕ) (others : List (List ℕ)) (packed : HasPacked b (first ∷ others)) where
  -- after the first gate of a batch is what an append of its bodies writes
  pub behind_first : slice_range b.bytes 1 (b.size + 1) ≡ bytes_behind (first ∷ others)
  behind_first =
      ap (λ (n : ℕ). take n (drop 1 b.bytes)) (let e : b.size + 1 - 1 ≡ b.size = omega arith in e)
      ∙ sym (drop-take 1 b.size b.bytes)
      ∙ ap (λ (n : ℕ). drop 1 (take n b.bytes)) (let e : 1 + b.size ≡ b.size + 1 = omega arith in e)
      ∙ ap (λ (l : List ℕ). drop 1 l) packed.text

  -- its blocks have three bytes more than the bodies in hand
  pub packed_size : b.size ≡ hand_size (first ∷ others) + 3
  packed_size = packed.size ∙ length-hand first others

-- an open gate after the blocks of some bodies, and what is written for a further body, are the blocks with its block
more_text : (bodies : List (List ℕ)) (body : List ℕ)
    → (flat_map block bodies ++ 1 ∷ []) ++ bytes_after_gate body ≡ flat_map block (bodies ++ body ∷ []) ++ 0 ∷ []
more_text bodies body =
    append_assoc (flat_map block bodies) (1 ∷ []) (bytes_after_gate body)
    ∙ ap (λ (l : List ℕ). flat_map block bodies ++ 1 ∷ l) (sym (one_behind body))
    ∙ sym (append_assoc (flat_map block bodies) (flat_map block (body ∷ [])) (0 ∷ []))
    ∙ ap (λ (l : List ℕ). l ++ 0 ∷ []) (sym (flat_map-append block bodies (body ∷ [])))

-- with a further body the blocks have three bytes more than it has
pub length_more : (bodies : List (List ℕ)) (body : List ℕ)
    → length (flat_map block (bodies ++ body ∷ [])) ≡ length (flat_map block bodies) + (length body + 3)
length_more bodies body =
    ap length (flat_map-append block bodies (body ∷ []))
    ∙ length-append (flat_map block bodies) (flat_map block (body ∷ []))
    ∙ ap (λ (n : ℕ). length (flat_map block bodies) + n) (length-hand body [])

-- A gate was opened after the blocks of some bodies, and what is written for a further body was put after it.
pub packed_more : (bytes into : List ℕ) (size k : ℕ) (bodies : List (List ℕ)) (body : List ℕ) → size < length bytes
    → size ≡ length (flat_map block bodies) → take (size + 1) bytes ≡ flat_map block bodies ++ 0 ∷ []
    → length body + 3 ≤ length into → take (length body + 3) into ≡ bytes_after_gate body
    → take (size + (length body + 3) + 1) (put_mid (size + 1) k (set bytes size 1) into) ≡ flat_map block (bodies ++ body ∷ []) ++ 0 ∷ []
packed_more bytes into size k bodies body within same text room written =
    let front = take (size + 1) (set bytes size 1) in
    let post = post_of (size + 1) k (set bytes size 1) in
    let before : take size bytes ≡ flat_map block bodies =
    sym (take-take size (size + 1) bytes (omega arith))
    ∙ ap (λ (l : List ℕ). take size l) text
    ∙ take_at (flat_map block bodies) (0 ∷ []) size (sym same) in
    let front_is : front ≡ flat_map block bodies ++ 1 ∷ [] =
    take-set_at bytes size (size + 1) 1 refl within ∙ ap (λ (l : List ℕ). l ++ 1 ∷ []) before in
    let long : length front ≡ size + 1 =
    ap length front_is ∙ length-append (flat_map block bodies) (1 ∷ []) ∙ ap (λ (n : ℕ). n + 1) (sym same) in
    ap (λ (n : ℕ). take n (front ++ (into ++ post)))
    (let e : size + (length body + 3) + 1 ≡ length front + (length body + 3) = omega (arith, long) in e)
    ∙ take-append-add front (into ++ post) (length body + 3)
    ∙ ap (λ (l : List ℕ). front ++ l) (take-append-le (length body + 3) into post room ∙ written)
    ∙ ap (λ (l : List ℕ). l ++ bytes_after_gate body) front_is
    ∙ more_text bodies body
