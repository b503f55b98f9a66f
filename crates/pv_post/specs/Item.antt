-- What callers key into frames and letters, its spelling in bytes, and what is read as such.
use Rattle.std.specs.Prelude.{◌≡◌, ℕ, ◌≤◌, Bool, true, not, ◌&&◌, ◌||◌, ◌==◌, nat_le, List, [], ◌∷◌, ◌++◌, length, take, flat_map}
use Rattle.std.specs.Int.{w32, to_be_bytes}
use Rattle.std.specs.List.{All, list_all}
use Rattle.pv_fields.specs.Padded.{IsPadded}
use Rattle.pv_fields.specs.Reading.{Parser, number_at, run_at, passing, at_most, ◌⊗◌, map_at, list_at, text_at}
use Rattle.pv_page.specs.Names.{Name, IsAccount, IsName}
use Rattle.pv_page.specs.Spelling.{account_bytes, account_number_at, name_bytes, name_at}
use Rattle.pv_charge.specs.declared.line.TheConstants.{LAST_MOMENT}
use Rattle.pv_post.specs.declared.fields.TheConstants.{MAX_FIELDS}
use Rattle.pv_post.specs.declared.filled.TheConstants.{FILLED_BYTES}
use Rattle.pv_post.specs.declared.mail.TheConstants.{FIRST_CELL, LAST_CELL, TEXT_CELLS}

-- ---- a filled field

-- a letter may show this cell, from the space to the tilde
abbrev pub is_text_cell : ℕ → Bool
is_text_cell cell = nat_le FIRST_CELL cell && nat_le cell LAST_CELL

-- some field takes this byte: it may be shown, and is none of the keys * and # with its other code _, nor | or \
abbrev pub is_field_byte : ℕ → Bool
is_field_byte byte = is_text_cell byte && not (byte == 42 || byte == 35 || byte == 95 || byte == 124 || byte == 92)

-- at most 40 bytes that some field takes
pub record IsFilled (text : List ℕ) : Type 0 where
  pub fits : length text ≤ FILLED_BYTES
  pub bytes : list_all is_field_byte text ≡ true

-- the first `count` bytes are of a filled field, and the others are 0
pub record IsFilledInside (count : ℕ) (bytes : List ℕ) : Type 0 where
  pub padded : IsPadded 0 FILLED_BYTES count bytes
  pub filled : IsFilled (take count bytes)

-- how a filled field is spelled: its length, and its bytes
abbrev pub filled_bytes : List ℕ → List ℕ
filled_bytes text = length text ∷ text

-- the filled field that bytes begin with
unfoldable pub filled_at : Parser (List ℕ)
filled_at = passing (list_all is_field_byte) (text_at 0 FILLED_BYTES)

-- ---- the fields of a frame

-- one to eight filled fields
pub record AreFields (fields : List (List ℕ)) : Type 0 where
  pub filled : All IsFilled fields
  pub some : 1 ≤ length fields
  pub fit : length fields ≤ MAX_FIELDS

-- the first `count` places hold fields, and the others are empty
pub record AreFieldsInside (count : ℕ) (places : List (List ℕ)) : Type 0 where
  pub padded : IsPadded [] MAX_FIELDS count places
  pub fields : AreFields (take count places)

-- how they are spelled: their count, and each of them
unfoldable pub fields_bytes : List (List ℕ) → List ℕ
fields_bytes fields = length fields ∷ flat_map filled_bytes fields

-- the fields that bytes begin with
unfoldable pub fields_at : Parser (List (List ℕ))
fields_at = list_at 1 MAX_FIELDS filled_at

-- ---- a reply

-- a filled response frame: who, which frame, when, and what was keyed
pub record Response : Type 0 where
  pub account : ℕ
  pub name : Name
  pub moment : ℕ
  pub fields : List (List ℕ)

-- each part is within its range
pub record IsResponse (reply : Response) : Type 0 where
  pub account : IsAccount reply.account
  pub name : IsName reply.name
  pub moment : reply.moment ≤ LAST_MOMENT
  pub fields : AreFields reply.fields

-- its spelling: part by part
unfoldable pub response_bytes : Response → List ℕ
response_bytes reply = account_bytes reply.account ++ name_bytes reply.name ++ to_be_bytes w32 reply.moment ++ fields_bytes reply.fields

-- the reply that bytes begin with
unfoldable pub response_at : Parser Response
response_at =
    map_at (λ x. record { account = x.0; name = x.1.0; moment = x.1.1.0; fields = x.1.1.1 })
    (account_number_at ⊗ name_at ⊗ at_most LAST_MOMENT (number_at w32) ⊗ fields_at)

-- ---- a letter

-- a letter: from whom, to whom, when, and its text
pub record Message : Type 0 where
  pub sender : ℕ
  pub to : ℕ
  pub moment : ℕ
  pub text : List ℕ

-- each part is within its range
pub record IsMessage (mail : Message) : Type 0 where
  pub sender : IsAccount mail.sender
  pub to : IsAccount mail.to
  pub moment : mail.moment ≤ LAST_MOMENT
  pub size : length mail.text ≡ TEXT_CELLS
  pub text : list_all is_text_cell mail.text ≡ true

-- its spelling: part by part
unfoldable pub message_bytes : Message → List ℕ
message_bytes mail = account_bytes mail.sender ++ account_bytes mail.to ++ to_be_bytes w32 mail.moment ++ mail.text

-- the letter that bytes begin with
unfoldable pub message_at : Parser Message
message_at =
    map_at (λ x. record { sender = x.0; to = x.1.0; moment = x.1.1.0; text = x.1.1.1 })
    (account_number_at ⊗ account_number_at ⊗ at_most LAST_MOMENT (number_at w32) ⊗ passing (list_all is_text_cell) (run_at TEXT_CELLS))
