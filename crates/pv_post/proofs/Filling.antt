-- What is known of the bytes of filled fields.
use Rattle.std.proofs.Common.{◌≡◌, inl, inr, ℕ, ◌+◌, ◌<◌, ◌≤◌, List, [], ◌∷◌, ◌++◌, Bool, true, leb, length, length-append, get_or, set, take, drop, replicate, refl, sym, ap, ◌∙◌, arith}
use Rattle.std.specs.Prelude.{◌&&◌}
use Rattle.std.specs.List.{list_all}
use Rattle.std.proofs.lemmas.Bool.{and_parts, cases_lt, false≢true, leb-true, true_from_ne_false}
use Rattle.std.proofs.lemmas.List.{take_at, drop-replicate, get_or_past}
use Rattle.std.proofs.lemmas.List.Folds.{list_all_at, list_all-append}
use Rattle.std.proofs.lemmas.List.Elements.{All-push}
use Rattle.pv_fields.specs.Padded.{IsPadded}
use Rattle.pv_fields.specs.Reading.{IsBytes}
use Rattle.pv_fields.proofs.CallerLemmas.{IsPadded-padded_list, IsPadded-set, take-set, length-items}
use Rattle.pv_post.specs.Item.{is_text_cell, is_field_byte, IsFilled, IsFilledInside, AreFieldsInside}
use Rattle.pv_post.specs.declared.fields.TheConstants.{MAX_FIELDS}
use Rattle.pv_post.specs.declared.filled.TheConstants.{FILLED_BYTES}
use Rattle.pv_post.specs.declared.mail.TheConstants.{FIRST_CELL, LAST_CELL}

-- what can be shown is a byte
byte_of_cell : (cell : ℕ) → is_text_cell cell ≡ true → cell < 256
byte_of_cell cell shown = omega (arith, leb-true cell LAST_CELL (and_parts (leb FIRST_CELL cell) (leb cell LAST_CELL) shown).1)

-- each element passes a test that all pass
passes : (test : ℕ → Bool) (text : List ℕ) → list_all test text ≡ true → (i : ℕ) → i < length text → test (get_or text i 0) ≡ true
passes test text all i within =
    true_from_ne_false (test (get_or text i 0)) (λ fails. absurd (false≢true (sym (list_all_at test text i 0 within fails) ∙ all)))

-- elements that pass a test of bytes are bytes
IsBytes-all : (test : ℕ → Bool) → ((byte : ℕ) → test byte ≡ true → byte < 256) → (text : List ℕ) → list_all test text ≡ true → IsBytes text
IsBytes-all test byte_of text all i =
    elim (cases_lt i (length text)) [
      | inl within ↦ byte_of (get_or text i 0) (passes test text all i within)
      | inr past ↦ rw (get_or_past text i 0 past) (omega arith)
    ]

-- the cells of a letter are bytes
pub IsBytes-text : (text : List ℕ) → list_all is_text_cell text ≡ true → IsBytes text
IsBytes-text = IsBytes-all is_text_cell byte_of_cell

-- what some field takes is a byte
pub IsBytes-filled : (text : List ℕ) → list_all is_field_byte text ≡ true → IsBytes text
IsBytes-filled = IsBytes-all is_field_byte (λ byte taken. byte_of_cell byte (and_parts (is_text_cell byte) _ taken).0)

-- items that were written over filler are padded
pub IsPadded-written : {X : Type 0} (filler : X) (size : ℕ) (items : List X) → length items ≤ size
    → IsPadded filler size (length items) (items ++ drop (length items) (replicate size filler))
IsPadded-written filler size items fits = rw (drop-replicate (length items) size filler) (IsPadded-padded_list filler size items fits)

-- a text that was written over zeros is a filled field inside
pub IsFilledInside-written : (text : List ℕ) → IsFilled text
    → IsFilledInside (length text) (text ++ drop (length text) (replicate FILLED_BYTES 0))
IsFilledInside-written text filled = record {
  padded = IsPadded-written 0 FILLED_BYTES text filled.fits;
  filled = rw (take_at text (drop (length text) (replicate FILLED_BYTES 0)) (length text) refl) filled;
}

-- one byte more is a filled field inside
pub IsFilledInside-set : (count : ℕ) (bytes : List ℕ) (byte : ℕ) → IsFilledInside count bytes → length (take count bytes) < FILLED_BYTES
    → is_field_byte byte ≡ true → IsFilledInside (count + 1) (set bytes count byte)
IsFilledInside-set count bytes byte inside less taken =
    let before = take count bytes in
    let len : length before ≡ count = length-items 0 FILLED_BYTES count bytes inside.padded in
    let room : count < FILLED_BYTES = omega (arith, len, less) in record {
      padded = IsPadded-set 0 FILLED_BYTES count bytes inside.padded byte room;
      filled = rw (take-set 0 FILLED_BYTES count bytes inside.padded byte room) (record {
        fits = omega (arith, length-append before (byte ∷ []), less);
        bytes =
            list_all-append is_field_byte before (byte ∷ [])
            ∙ ap (λ all. all && (is_field_byte byte && true)) inside.filled.bytes
            ∙ ap (λ one. true && (one && true)) taken;
      });
    }

-- one field more is a list of fields inside
pub AreFieldsInside-set : (count : ℕ) (places : List (List ℕ)) (text : List ℕ) → AreFieldsInside count places
    → length (take count places) < MAX_FIELDS → IsFilled text → AreFieldsInside (count + 1) (set places count text)
AreFieldsInside-set count places text inside less filled =
    let before = take count places in
    let len : length before ≡ count = length-items [] MAX_FIELDS count places inside.padded in
    let room : count < MAX_FIELDS = omega (arith, len, less) in
    let more = length-append before (text ∷ []) in record {
      padded = IsPadded-set [] MAX_FIELDS count places inside.padded text room;
      fields = rw (take-set [] MAX_FIELDS count places inside.padded text room) (record {
        filled = All-push IsFilled before text inside.fields.filled filled;
        some = omega (arith, more);
        fit = omega (arith, more, less);
      });
    }
