-- Two spellings that begin the same bytes are of one frame.
use Rattle.std.proofs.Common.{◌≡◌, ℕ, List, [], ◌∷◌, ◌++◌, length, take, drop, Option, Some, Result, Ok, refl, sym, ap, ◌∙◌, append_assoc, arith}
use Rattle.std.{proofs.lemmas.List.{append-nil, take_at, drop_at}, specs.Prelude.flat_map}
use Rattle.pv_frame.proofs.Vocabulary.{ReadsBack, FrameCodecError, field_bytes, Content, Raw, IsRaw, raw_bytes, raw_at, decode_of, raw_of, spelling_of, HasSpelling}
use Rattle.pv_frame.proofs.{Lengths.length-fields, Parts.Reads-raw, RoundTrip.{IsRaw-raw_of, decode_of-spelling}}

-- the parts of a frame, with more bytes after its fields
abbrev raw_with : Content → List ℕ → Raw
raw_with frame more = record (raw_of frame) { fields = flat_map field_bytes frame.fields ++ more }

-- they are read from the spelling with these bytes after it
read_with : (frame : Content) (more : List ℕ) → HasSpelling frame
    → raw_at (raw_bytes (raw_of frame) ++ more) ≡ Some (raw_with frame more, [])
read_with frame more has =
    let is = IsRaw-raw_of frame has in
    let with_more : IsRaw (raw_with frame more) =
    record { title = is.title; body = is.body; kind = is.kind; routes = is.routes; price = is.price; group = is.group; count = is.count } in
    let bytes : raw_bytes (raw_of frame) ++ more ≡ raw_bytes (raw_with frame more) ++ [] = simp (append_assoc, append-nil) in
    ap raw_at bytes ∙ Reads-raw.again (raw_with frame more) [] refl with_more

-- what is read is one value
abbrev ok : Content → Result Content FrameCodecError
ok frame = Ok frame

same_frame : (a b : Content) → ok a ≡ ok b → a ≡ b
same_frame a b is = cc

abbrev whole : Raw → Raw × List ℕ
whole raw = (raw, [])

abbrev read : Raw → Option (Raw × List ℕ)
read raw = Some (whole raw)

same_raw : (a b : Raw) → read a ≡ read b → a ≡ b
same_raw a b is = let both : whole a ≡ whole b = cc in ap (λ (x : Raw × List ℕ). x.0) both

pub ReadsBack-frame : ReadsBack HasSpelling spelling_of
ReadsBack-frame a b more rest has_a has_b same =
    let raw = same_raw (raw_with a more) (raw_with b rest) (sym (read_with a more has_a) ∙ ap (λ bytes. raw_at (drop 1 bytes)) same
    ∙ read_with b rest has_b) in
    let count : length a.fields ≡ length b.fields = ap (λ (raw : Raw). raw.count) raw in
    let of_a = flat_map field_bytes a.fields in
    let of_b = flat_map field_bytes b.fields in
    let fields : of_a ++ more ≡ of_b ++ rest = ap (λ (raw : Raw). raw.fields) raw in
    let size : length of_b ≡ length of_a = omega (arith, length-fields a.fields, length-fields b.fields) in
    let first : of_a ≡ of_b = sym (take_at of_a more (length of_a) refl) ∙ ap (take (length of_a)) fields
    ∙ take_at of_b rest (length of_a) size in
    let after : more ≡ rest = sym (drop_at of_a more (length of_a) refl) ∙ ap (drop (length of_a)) fields
    ∙ drop_at of_b rest (length of_a) size in
    let parts : raw_of a ≡ raw_of b = λ i. record (raw i) { fields = first i } in
    let again = sym (decode_of-spelling a has_a) ∙ ap (λ (raw : Raw). decode_of (1 ∷ raw_bytes raw)) parts ∙ decode_of-spelling b has_b in
    (same_frame a b again, after)

-- what is known of spellings that begin the same bytes
pub ruleset frames = (ReadsBack-frame)
