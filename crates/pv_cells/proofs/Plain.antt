-- The notation of bytes part by part, and of those that are written as themselves.
use Rattle.std.proofs.Common.{◌≡◌, ℕ, ◌+◌, true, List, [], ◌∷◌, ◌++◌, take, drop, refl, sym, ap, ◌∙◌}
use Rattle.std.proofs.{Math.Seq.take-add, lemmas.{Bool.and_parts, Grind.common_steps, List.{take_all, Concat.flat_map-append}}}
use Rattle.std.specs.List.{list_all}
use Rattle.pv_cells.specs.Notation.{is_plain, notation_of_byte, notation_of}

-- bytes that are written as themselves are their own notation
pub plain_notation : (bytes : List ℕ) → list_all is_plain bytes ≡ true → notation_of bytes ≡ bytes
plain_notation [] plain = refl
plain_notation (byte ∷ bytes) plain =
    let parts = and_parts (is_plain byte) (list_all is_plain bytes) plain in
    rw (parts.0, plain_notation bytes parts.1) refl

-- the notation of the next n bytes, after that of the bytes before them
pub notation_more : (bytes : List ℕ) (at n : ℕ)
    → notation_of (take at bytes) ++ notation_of (take n (drop at bytes)) ≡ notation_of (take (at + n) bytes)
notation_more bytes at n =
    sym (flat_map-append notation_of_byte (take at bytes) (take n (drop at bytes))) ∙ ap notation_of (sym (take-add at n bytes))

-- what appending part by part follows from
pub ruleset parts = (common_steps, take_all, plain_notation, notation_more)
