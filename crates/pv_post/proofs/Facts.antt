-- Worked examples, computed from the definitions: each constant at the last value that fits, and the next.
use Rattle.std.proofs.Common.{◌≡◌, true, false, ◌∷◌, [], ◌++◌, replicate, refl}
use Rattle.std.specs.Prelude.{ℕ, length, codes, Option, Some, None}
use Rattle.pv_fields.specs.Reading.{times}
use Rattle.pv_post.specs.Item.{is_text_cell, is_field_byte, filled_at, fields_bytes, fields_at, Response, response_bytes, Message, message_bytes}
use Rattle.pv_post.specs.Spelling.{item_bytes}
use Rattle.pv_post.specs.Boxes.{WaitingLetter, has_letter}
use Rattle.pv_post.specs.Waiting.{waiting_letters}
use Rattle.pv_post.specs.declared.item.Item.TheVariants.{Reply, Mail}
use Rattle.pv_post.specs.declared.fields.TheConstants.{MAX_FIELDS}
use Rattle.pv_post.specs.declared.filled.TheConstants.{FILLED_BYTES}
use Rattle.pv_post.specs.declared.letter.TheConstants.{MAX_WAITING}
use Rattle.pv_post.specs.declared.mail.TheConstants.{TEXT_CELLS}

-- a frame has at most eight fields of forty bytes, and a letter six rows of forty cells
pub fields-of_a_frame : MAX_FIELDS ≡ 8
fields-of_a_frame = refl

pub bytes-of_a_field : FILLED_BYTES ≡ 40
bytes-of_a_field = refl

pub cells-of_a_letter : TEXT_CELLS ≡ 240
cells-of_a_letter = refl

-- twenty letters wait for an account
pub letters-of_an_account : MAX_WAITING ≡ 20
letters-of_an_account = refl

-- a letter shows the space to the tilde
pub first-cell : is_text_cell 32 ≡ true
first-cell = refl

pub no-cell-before : is_text_cell 31 ≡ false
no-cell-before = refl

pub last-cell : is_text_cell 126 ≡ true
last-cell = refl

pub no-cell-after : is_text_cell 127 ≡ false
no-cell-after = refl

-- no field takes the star, the hash, its other code, the bar and the backslash
pub no-star : is_field_byte 42 ≡ false
no-star = refl

pub no-hash : is_field_byte 35 ≡ false
no-hash = refl

pub no-underline : is_field_byte 95 ≡ false
no-underline = refl

pub no-bar : is_field_byte 124 ≡ false
no-bar = refl

pub no-backslash : is_field_byte 92 ≡ false
no-backslash = refl

-- each takes digits, letters and the space
pub a_digit : is_field_byte 48 ≡ true
a_digit = refl

pub a_space : is_field_byte 32 ≡ true
a_space = refl

-- fields are spelled by their count, and each by its length and its bytes
pub spelling-of_two_fields : fields_bytes (codes "AB" ∷ [] ∷ []) ≡ 2 ∷ 2 ∷ 65 ∷ 66 ∷ 0 ∷ []
unfolding fields_bytes
spelling-of_two_fields = refl

-- and read back, with the bytes after them
pub two-fields_are_read : fields_at (2 ∷ 2 ∷ 65 ∷ 66 ∷ 0 ∷ 9 ∷ []) ≡ Some (codes "AB" ∷ [] ∷ [], 9 ∷ [])
unfolding fields_at filled_at times
two-fields_are_read = refl

-- a frame without fields has no reply
pub no-fields : fields_at (0 ∷ []) ≡ None
unfolding fields_at
no-fields = refl

abbrev pub some_reply : Response
some_reply = record { account = 12; name = record { page = 5; letter = 99 }; moment = 1; fields = codes "AB" ∷ [] }

-- a reply each part of which differs from its neighbours
pub spelling-of_a_reply : item_bytes (Reply some_reply)
    ≡ 2 ∷ 0 ∷ 0 ∷ 0 ∷ 0 ∷ 0 ∷ 0 ∷ 0 ∷ 12 ∷ 0 ∷ 0 ∷ 0 ∷ 5 ∷ 99 ∷ 0 ∷ 0 ∷ 0 ∷ 1 ∷ 1 ∷ 2 ∷ 65 ∷ 66 ∷ []
unfolding item_bytes response_bytes fields_bytes
spelling-of_a_reply = refl

abbrev pub some_mail : Message
some_mail = record { sender = 12; to = 13; moment = 1; text = replicate 240 32 }

-- and a letter
pub spelling-of_a_letter : item_bytes (Mail some_mail)
    ≡ (3 ∷ 0 ∷ 0 ∷ 0 ∷ 0 ∷ 0 ∷ 0 ∷ 0 ∷ 12 ∷ 0 ∷ 0 ∷ 0 ∷ 0 ∷ 0 ∷ 0 ∷ 0 ∷ 13 ∷ 0 ∷ 0 ∷ 0 ∷ 1 ∷ []) ++ replicate 240 32
unfolding item_bytes message_bytes
spelling-of_a_letter = refl

-- ---- letters that wait

-- an empty letter under a number
abbrev pub letter_under : ℕ → WaitingLetter
letter_under number = record { number = number; sender = 12; moment = 1; text = [] }

-- each place brings a letter
abbrev pub each_place : ℕ → Option WaitingLetter
each_place place = Some (letter_under place)

-- the letters wait in the order of their places
pub three-wait : waiting_letters each_place [] 13 3 ≡ letter_under 0 ∷ letter_under 1 ∷ letter_under 2 ∷ []
three-wait = refl

-- a removal takes its letter out, and no other's letter
pub second-removed : waiting_letters each_place (record { account = 13; number = 1; place = 3 } ∷ []) 13 3 ≡ letter_under 0
    ∷ letter_under 2 ∷ []
second-removed = refl

pub anothers-removal : waiting_letters each_place (record { account = 12; number = 1; place = 3 } ∷ []) 13 3
    ≡ waiting_letters each_place [] 13 3
anothers-removal = refl

-- a removal before the letter came takes nothing
pub removed-too_early : waiting_letters each_place (record { account = 13; number = 1; place = 1 } ∷ []) 13 3
    ≡ waiting_letters each_place [] 13 3
removed-too_early = refl

-- the twentieth letter waits, and the next one is dropped for good, also if one is removed after it
pub twenty-wait : length (waiting_letters each_place [] 13 20) ≡ 20
twenty-wait = refl

pub next-is_dropped : waiting_letters each_place [] 13 21 ≡ waiting_letters each_place [] 13 20
next-is_dropped = refl

pub dropped-for_good : has_letter (waiting_letters each_place (record { account = 13; number = 0; place = 21 } ∷ []) 13 22) 20 ≡ false
dropped-for_good = refl

pub room-again : has_letter (waiting_letters each_place (record { account = 13; number = 0; place = 21 } ∷ []) 13 22) 21 ≡ true
room-again = refl
