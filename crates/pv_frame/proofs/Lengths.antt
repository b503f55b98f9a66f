-- The length of the spelling of a frame.
use Rattle.std.proofs.lemmas.{Grind.common_steps, List.length-append}
use Rattle.std.{proofs.Common.{◌≡◌, ℕ, ◌+◌, ◌*◌, List, length, Option, Some, None, refl, arith}, specs.Prelude.flat_map}
use Rattle.pv_fields.proofs.CallerLemmas.{length-pieces}
use Rattle.pv_frame.proofs.Vocabulary.{Field, FIELDS_AT, FIELD_BYTES, route_bytes, field_bytes, kind_code, Content, IsFrame, spelling_of}

-- a route takes four bytes
pub length-route : (route : Option ℕ) → length (route_bytes route) ≡ 4
length-route None = refl
length-route (Some page) = refl

-- routes take four bytes each
pub length-routes : (routes : List (Option ℕ)) → length (flat_map route_bytes routes) ≡ 4 * length routes
length-routes = length-pieces 4 route_bytes length-route

-- fields take four bytes each
pub length-fields : (fields : List Field) → length (flat_map field_bytes fields) ≡ 4 * length fields
length-fields = length-pieces 4 field_bytes (λ _. refl)

-- a frame takes 950 bytes, and four for each field
pub length-spelling : (frame : Content) → IsFrame frame → length (spelling_of frame) ≡ FIELDS_AT + FIELD_BYTES * length frame.fields
length-spelling frame is = grind (arith, common_steps, field_bytes, kind_code, length-append, length-fields, length-routes, route_bytes)

-- what the length of a spelling follows from
pub ruleset sizes = (length-spelling, length-routes, length-fields)
