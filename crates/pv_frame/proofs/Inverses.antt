-- Each code is read as what it spells, and spells what it is read as.
use Rattle.std.proofs.lemmas.{Grind.common_steps, Bool.{cases_Bool, leb-true, le-leb, eqb-true, or_left}}
use Rattle.std.proofs.lemmas.{Nat.{be_bytes_4, from_be_bytes-to_be_bytes_4}, List.Elements.{All-nil, All-cons}}
use Rattle.std.proofs.Common.{◌≡◌, ℕ, zero, suc, true, false, List, [], ◌∷◌, length, map, All, Option, Some, None, refl, ap, arith}
use Rattle.std.specs.Prelude.{IfSome, is_some, is_none, unwrap_or}
use Rattle.pv_frame.proofs.Vocabulary.{IsBytes, IsPage, Kind, Information, Response, Mail, Field, FieldKind, Digits, Words, kind_code, kind_of, field_code, field_kind_of, route_bytes, is_route, page_of, spells_route, route_of, field_bytes, spells_field, field_of}

-- the kind of a frame
pub kind_again : (kind : Kind) → kind_of (kind_code kind) ≡ Some kind
kind_again Information = refl
kind_again Response = refl
kind_again Mail = refl

pub kind_found : (code : ℕ) → is_none (kind_of code) ≡ false → kind_code (unwrap_or (kind_of code) Information) ≡ code
kind_found zero some = refl
kind_found (suc zero) some = refl
kind_found (suc (suc zero)) some = refl
kind_found (suc (suc (suc code))) some = absurd cc

-- a route
pub route_again : (route : Option ℕ) → IfSome route IsPage
    → (spells_route (route_bytes route) ≡ true) × (route_of (route_bytes route) ≡ route)
route_again None is = (refl, refl)
route_again (Some page) is = grind (arith, common_steps, from_be_bytes-to_be_bytes_4, is_route, le-leb, or_left, page_of)

pub route_found : (bytes : List ℕ) → length bytes ≡ 4 → IsBytes bytes → spells_route bytes ≡ true → route_bytes (route_of bytes) ≡ bytes
route_found bytes len fits is = grind (arith, common_steps, be_bytes_4, cases_Bool, eqb-true)

-- a route leads to a page or nowhere
pub pages_of : (groups : List (List ℕ)) → All (λ route. IfSome route IsPage) (map route_of groups)
pages_of [] = All-nil (λ route. IfSome route IsPage)
pages_of (bytes ∷ groups) = grind (arith, common_steps, All-cons, cases_Bool, leb-true, page_of, route_of, pages_of groups)

-- a field
field_code_again : (kind : FieldKind) → field_kind_of (field_code kind) ≡ Some kind
field_code_again Digits = refl
field_code_again Words = refl

pub field_again : (field : Field) → (spells_field (field_bytes field) ≡ true) × (field_of (field_bytes field) ≡ field)
field_again field = grind (arith, common_steps, field_code_again)

field_code_found : (code : ℕ) → is_some (field_kind_of code) ≡ true → field_code (unwrap_or (field_kind_of code) Digits) ≡ code
field_code_found zero some = refl
field_code_found (suc zero) some = refl
field_code_found (suc (suc code)) some = absurd cc

pub field_found : (bytes : List ℕ) → length bytes ≡ 4 → spells_field bytes ≡ true → field_bytes (field_of bytes) ≡ bytes
field_found [] len some = absurd (omega arith)
field_found (a ∷ []) len some = absurd (omega arith)
field_found (a ∷ b ∷ []) len some = absurd (omega arith)
field_found (a ∷ b ∷ c ∷ []) len some = absurd (omega arith)
field_found (a ∷ b ∷ c ∷ d ∷ []) len some = ap (λ code. a ∷ b ∷ c ∷ code ∷ []) (field_code_found d some)
field_found (a ∷ b ∷ c ∷ d ∷ e ∷ bytes) len some = absurd (omega arith)
