-- Worked examples, computed from the definitions: each constant at the last value that fits, and the next; each text.
use Rattle.std.proofs.Common.{◌≡◌, ℕ, [], ◌∷◌, true, false, Some, None, codes, replicate, refl}
use Rattle.std.specs.Fmt.{digits}
use Rattle.pv_frame.specs.Content.{Content, blank_frame}
use Rattle.pv_frame.specs.declared.field.Field.{Field}
use Rattle.pv_frame.specs.declared.field.FieldKind.TheVariants.{Digits}
use Rattle.pv_post.specs.Item.{Response}
use Rattle.pv_post.specs.declared.item.Item.TheVariants.{Reply}
use Rattle.pv_editor.specs.declared.change.FrameChange.TheVariants as changes
use Rattle.pv_editor.specs.declared.line.EditLine.TheVariants as lines
use Rattle.pv_editor.specs.declared.reading.TheConstants.{LONGEST_LINE}
use Rattle.pv_editor.specs.declared.replies.UdcReplyView.TheVariants.{Stored, Refused}
use Rattle.pv_editor.specs.declared.replies.TheConstants.{LOG_ON_FIRST, NOT_OWNER, NO_FRAME, BAD_FRAME, BAD_LINE, NOTHING_OPEN, NOT_KNOWN}
use Rattle.pv_editor.specs.declared.seat.EditorSeat.{EditorSeat}
use Rattle.pv_editor.specs.declared.step.EditStep.TheVariants.{Say, Close}
use Rattle.pv_editor.specs.declared.text.TheConstants.{ROOM, LONGEST_NUMBER, LONGEST_WORDS}
use Rattle.pv_editor.specs.declared.word.Word.TheVariants as words
use Rattle.pv_editor.specs.Changes.{with_field, has_all_fields}
use Rattle.pv_editor.specs.Groups.{comma, comma_parts}
use Rattle.pv_editor.specs.Parts.{is_password_byte, dash}
use Rattle.pv_editor.specs.Replies.{ok_reply, closing_reply, reply_of, responses_reply}
use Rattle.pv_editor.specs.Say.{new_seat, turn_of, frame_for, is_logged_on, number_of_last}
use Rattle.pv_editor.specs.Words.{word_of_line}

-- ---- texts

-- a text and a line have at most 512 bytes, a number 20, and the words of a reply 20
pub sizes : (ROOM ≡ 512) × (LONGEST_LINE ≡ 512) × (LONGEST_NUMBER ≡ 20) × (LONGEST_WORDS ≡ 20)
sizes = (refl, refl, refl, refl)

-- the codes that the seat itself gives
pub codes_of_the_seat : (LOG_ON_FIRST ≡ 1) × (NOT_OWNER ≡ 2) × (NO_FRAME ≡ 4) × (BAD_FRAME ≡ 7)
    × (BAD_LINE ≡ 11) × (NOTHING_OPEN ≡ 12) × (NOT_KNOWN ≡ 13)
codes_of_the_seat = (refl, refl, refl, refl, refl, refl, refl)

-- what was done, what was stored, and the end of the session
pub replies : (ok_reply ≡ codes "OK") × (reply_of (Stored 14) ≡ codes "OK 14") × (closing_reply ≡ codes "BYE")
unfolding digits
replies = (refl, refl, refl)

-- the refusals of the Update Centre
pub verdicts : (reply_of (Refused 1 0) ≡ codes "NO 1 LOG ON FIRST")
    × (reply_of (Refused 2 0) ≡ codes "NO 2 NOT OWNER")
    × (reply_of (Refused 3 8) ≡ codes "NO 3 NUMBER 8 WANTED")
    × (reply_of (Refused 4 0) ≡ codes "NO 4 NO FRAME")
    × (reply_of (Refused 5 2000) ≡ codes "NO 5 FRAMES FULL 2000")
    × (reply_of (Refused 6 1000) ≡ codes "NO 6 ACCOUNTS FULL 1000")
    × (reply_of (Refused 7 5) ≡ codes "NO 7 BAD FRAME 5")
    × (reply_of (Refused 8 0) ≡ codes "NO 8 OPERATOR ONLY")
    × (reply_of (Refused 9 1000) ≡ codes "NO 9 LEASES FULL 1000")
    × (reply_of (Refused 10 0) ≡ codes "NO 10 NO ACCOUNT")
unfolding digits
verdicts = (refl, refl, refl, refl, refl, refl, refl, refl, refl, refl)

-- the others
pub other_refusals : (reply_of (Refused 11 0) ≡ codes "NO 11 BAD LINE")
    × (reply_of (Refused 12 0) ≡ codes "NO 12 NOTHING OPEN")
    × (reply_of (Refused 13 0) ≡ codes "NO 13 NOT KNOWN")
    × (reply_of (Refused 14 10000) ≡ codes "NO 14 FULL 10000")
    × (reply_of (Refused 15 0) ≡ codes "NO 15 DISK")
    × (reply_of (Refused 16 0) ≡ codes "NO 16 MEMORY")
    × (reply_of (Refused 17 0) ≡ codes "NO 17 ")
unfolding digits
other_refusals = (refl, refl, refl, refl, refl, refl, refl)

-- a filled frame of two fields, the second of them empty
abbrev pub response : Response
response = record { account = 1000000002; name = record { page = 30; letter = 97 }; moment = 9; fields = codes "WINDOW" ∷ [] ∷ [] }

pub responses : (responses_reply (Some (14, Reply response)) ≡ codes "OK 14 30a 1000000002 WINDOW|")
    × (responses_reply None ≡ codes "OK -")
unfolding digits
responses = (refl, refl)

-- ---- lines

-- a word is an editor's as it stands, and in small letters it is none
pub words_of_lines : (word_of_line (codes "LOGON") ≡ Some words.LogOn)
    × (word_of_line (codes "logon") ≡ None) × (word_of_line (codes "QUITS") ≡ None)
words_of_lines = (refl, refl, refl)

-- a password has bytes from the exclamation mark to the tilde, and no key
pub password_bytes : (is_password_byte 33 ≡ true) × (is_password_byte 126 ≡ true)
    × (is_password_byte 32 ≡ false) × (is_password_byte 127 ≡ false)
    × (is_password_byte 42 ≡ false) × (is_password_byte 35 ≡ false) × (is_password_byte 95 ≡ false)
password_bytes = (refl, refl, refl, refl, refl, refl, refl)

-- a dash is one, and parts stand between commas
pub parted : (comma ≡ 44) × (dash ≡ codes "-")
    × (comma_parts (codes "7,300") ≡ codes "7" ∷ codes "300" ∷ []) × (comma_parts (codes "7,") ≡ codes "7" ∷ [] ∷ [])
parted = (refl, refl, refl, refl)

-- ---- the seat

-- a field
abbrev pub field : Field
field = record { row = 3; column = 0; length = 10; kind = Digits }

-- a frame with this many of it
abbrev pub with_many : ℕ → Content
with_many count = record blank_frame { fields = replicate count field }

-- an eighth field is added, and a ninth is not
pub eight_fields : (has_all_fields (with_many 7) ≡ false) × (with_field (with_many 7) field ≡ with_many 8)
    × (with_field (with_many 8) field ≡ with_many 8)
eight_fields = (refl, refl, refl)

-- the operator, with a frame of eight fields open
abbrev pub busy_seat : EditorSeat
busy_seat = record { account = Some 0; working = Some (frame_for (record { page = 1; letter = 97 }) (with_many 8)) }

-- the operator, with no frame open
abbrev pub idle_seat : EditorSeat
idle_seat = record { account = Some 0; working = None }

-- a line that is none is a bad line, whoever is logged on
pub bad_lines : (turn_of new_seat [] [] None ≡ (new_seat, Say (codes "NO 11 BAD LINE")))
    × (turn_of busy_seat [] [] None ≡ (busy_seat, Say (codes "NO 11 BAD LINE")))
unfolding digits
bad_lines = (refl, refl)

-- nobody may store, an editor needs a frame, and a ninth field is an error of the shape
pub refused_lines : (turn_of new_seat [] [] (Some (lines.Store 1)) ≡ (new_seat, Say (codes "NO 1 LOG ON FIRST")))
    × (turn_of idle_seat [] [] (Some (lines.Store 1)) ≡ (idle_seat, Say (codes "NO 12 NOTHING OPEN")))
    × (turn_of busy_seat [] [] (Some (lines.Change (changes.Field (Some field)))) ≡ (busy_seat, Say (codes "NO 7 BAD FRAME 5")))
unfolding digits
refused_lines = (refl, refl, refl)

-- a page of nobody is the operator's, who has no frame there; anybody may quit; the last number is 0 at first
pub first_lines : (turn_of idle_seat [] [] (Some (lines.Open (record { page = 1; letter = 97 })))
    ≡ (idle_seat, Say (codes "NO 4 NO FRAME")))
    × (turn_of new_seat [] [] (Some lines.Quit) ≡ (new_seat, Close))
    × (turn_of idle_seat [] [] (Some lines.Last) ≡ (idle_seat, Say (codes "OK 0")))
unfolding digits
first_lines = (refl, refl, refl)

-- the owner is the one who is logged on, and a last number is the first of two
pub owners : (is_logged_on (Some 7) 7 ≡ true) × (is_logged_on (Some 7) 8 ≡ false)
    × (is_logged_on None 0 ≡ false) × (number_of_last (Some (3, 40)) ≡ 3)
owners = (refl, refl, refl, refl)
