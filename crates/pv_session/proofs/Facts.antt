-- Worked examples, computed from the definitions, and the values of the constants that they cite.
use Rattle.std.proofs.Common.{◌≡◌, ℕ, true, false, [], ◌∷◌, ◌++◌, replicate, refl}
use Rattle.std.specs.Prelude.{Some, None, map, codes, filter, flat_map}
use Rattle.std.specs.Fmt.{digits}
use Rattle.pv_charge.specs.Line.{Charge}
use Rattle.pv_frame.specs.Content.{blank_frame}
use Rattle.pv_frame.specs.declared.field.Field.{Field}
use Rattle.pv_frame.specs.declared.field.FieldKind.TheVariants.{Digits, Words}
use Rattle.pv_session.specs.declared.earlier.TheConstants.{EARLIER}
use Rattle.pv_session.specs.declared.letters.TheConstants.{LETTER_ROWS}
use Rattle.pv_session.specs.declared.message.Message.TheVariants.{Welcome, CallRefused}
use Rattle.pv_session.specs.declared.seat.TheConstants.{TRIES}
use Rattle.pv_session.specs.declared.step.Step.TheVariants.{Show, Owe}
use Rattle.pv_session.specs.declared.step.Why.TheVariants.{Refused}
use Rattle.pv_session.specs.declared.step.Wish.TheVariants as wishes
use Rattle.pv_session.specs.Charging.{charge_of}
use Rattle.pv_session.specs.Entries.{AccountMode, PasswordMode, BrowseMode, FillMode, QuestionMode, LetterMode, mode_keys, leaves_mode, kept_keys, takes_byte, is_password_character}
use Rattle.pv_session.specs.Fetching.{names_with, ending_turn, found_turn}
use Rattle.pv_session.specs.Letters.{account_of_digits, letter_heading}
use Rattle.pv_session.specs.Messages.{message_row}
use Rattle.pv_session.specs.Shown.{ShownFrame, first_frame, screen_of_frame}
use Rattle.pv_session.specs.State.{CallState, new_call}
use Rattle.pv_session.specs.Turns.{failure_turn, is_spent}

-- a caller goes back three frames, and tries three times to log on
pub frames-back : EARLIER ≡ 3
frames-back = refl

pub tries-to_log_on : TRIES ≡ 3
tries-to_log_on = refl

-- the last entry and the last byte of a call
pub last-entry : map is_spent (record new_call { entries = 4095 } ∷ record new_call { entries = 4096 } ∷ []) ≡ false ∷ true ∷ []
last-entry = refl

pub last-byte : map is_spent (record new_call { bytes = 999999 } ∷ record new_call { bytes = 1000000 } ∷ []) ≡ false ∷ true ∷ []
last-byte = refl

-- which characters a password has: not a space, a key, or what is not printed
pub password-characters : map is_password_character (32 ∷ 33 ∷ 35 ∷ 42 ∷ 95 ∷ 126 ∷ 127 ∷ [])
    ≡ false ∷ true ∷ false ∷ false ∷ false ∷ true ∷ false ∷ []
password-characters = refl

-- of a digit, a key with two codes, a letter and a space: what counts
pub account-keys : flat_map (mode_keys AccountMode) (codes "1_A ") ≡ codes "1"
account-keys = refl

pub password-keys : flat_map (mode_keys PasswordMode) (codes "1_A ") ≡ codes "1A"
password-keys = refl

pub browse-keys : flat_map (mode_keys BrowseMode) (codes "1_A ") ≡ codes "1#"
browse-keys = refl

-- a message fills a row
pub row-of_welcome : message_row Welcome ≡ codes "WELCOME" ++ replicate 33 32
unfolding message_row
row-of_welcome = refl

-- the oldest of four names is dropped
abbrev shown : ℕ → ShownFrame
shown page = record { name = first_frame page; frame = blank_frame }

pub three-names : names_with (Some (shown 4)) (first_frame 3 ∷ first_frame 2 ∷ first_frame 1 ∷ [])
    ≡ first_frame 4 ∷ first_frame 3 ∷ first_frame 2 ∷ []
three-names = refl

-- a caller who has not logged on cannot be charged
abbrev caller : CallState
caller = record new_call { serial = Some 7; account = Some 1000000001; lines = 2 }

abbrev charge : ℕ → Charge
charge price = record { serial = 7; number = 2; account = 1000000001; name = first_frame 1; price = price; moment = 30 }

pub charge-of_nobody : charge_of new_call (first_frame 1) 5 30 ≡ None
charge-of_nobody = refl

pub charge-of_caller : charge_of caller (first_frame 1) 5 30 ≡ Some (charge 5)
charge-of_caller = refl

-- a frame is free at the price 0 alone
pub free-frame : (found_turn caller 30 (shown 1)).1 ≡ Show (screen_of_frame (shown 1))
free-frame = refl

pub priced-frame : (found_turn caller 30 (record (shown 1) { frame = record blank_frame { price = 1 } })).1
    ≡ Owe (wishes.Charge (charge 1))
priced-frame = refl

-- the second failure is answered, and the third ends the call
pub second-failure : (failure_turn (record new_call { failed = 1 })).0.failed ≡ 2
second-failure = refl

pub third-failure : failure_turn (record new_call { failed = 2 }) ≡ ending_turn (record new_call { failed = 2 }) Refused CallRefused
third-failure = refl

-- ---- fields and letters

-- which bytes a field takes
pub digits-taken : filter (takes_byte Digits) (47 ∷ 48 ∷ 57 ∷ 58 ∷ []) ≡ 48 ∷ 57 ∷ []
digits-taken = refl

pub words-taken : filter (takes_byte Words) (31 ∷ 32 ∷ 35 ∷ 42 ∷ 92 ∷ 95 ∷ 124 ∷ 126 ∷ 127 ∷ []) ≡ 32 ∷ 126 ∷ []
words-taken = refl

-- a field of three digits keeps three of them; the key # has two codes there too
abbrev three_digits : Field
three_digits = record { row = 3; column = 0; length = 3; kind = Digits }

pub field-keys : flat_map (mode_keys (FillMode three_digits false)) (codes "1_A#*") ≡ codes "1##"
field-keys = refl

pub field-kept : kept_keys (FillMode three_digits false) (codes "12A345") ≡ codes "123"
field-kept = refl

-- at the question 1 and 2 count, and at a letter 1 alone
pub question-keys : flat_map (mode_keys QuestionMode) (codes "0123#") ≡ codes "12"
question-keys = refl

pub letter-keys : flat_map (mode_keys (LetterMode 5)) (codes "0123#") ≡ codes "1"
letter-keys = refl

-- * leaves a field and the question, and all but 1 leaves a letter
pub field-left : filter (leaves_mode (FillMode three_digits false)) (codes "01#*A") ≡ codes "*"
field-left = refl

pub question-left : filter (leaves_mode QuestionMode) (codes "01#*A") ≡ codes "*"
question-left = refl

pub letter-left : filter (leaves_mode (LetterMode 5)) (codes "01#*A") ≡ codes "0#*A"
letter-left = refl

-- ten digits are an account's
pub accounts-of_digits : map account_of_digits (codes "100000000" ∷ codes "1000000002" ∷ codes "10000000020" ∷ [])
    ≡ None ∷ Some 1000000002 ∷ None ∷ []
accounts-of_digits = refl

-- a letter has six rows, and its sender above them
pub letter-rows : LETTER_ROWS ≡ 6
letter-rows = refl

pub heading-of_letter : letter_heading 1000000002 ≡ codes "MAIL                     1000000002     "
unfolding digits
heading-of_letter = refl
