-- Worked rows, screens and cursors, computed from the definitions.
use Rattle.std.{proofs.Common.{◌≡◌, [], ◌∷◌, ◌++◌, List, ℕ, zero, suc, replicate, refl}, specs.{Prelude.codes, Fmt.digits}}
use Rattle.pv_screen.proofs.Vocabulary.{CURSOR_ON, CURSOR_OFF, ALPHA_RED, ALPHA_GREEN, ALPHA_YELLOW, ALPHA_BLUE, ALPHA_MAGENTA, ALPHA_CYAN, ALPHA_WHITE, MOSAIC_RED, MOSAIC_GREEN, MOSAIC_YELLOW, MOSAIC_BLUE, MOSAIC_MAGENTA, MOSAIC_CYAN, MOSAIC_WHITE, FLASH, STEADY, NORMAL_HEIGHT, DOUBLE_HEIGHT, CONCEAL, CONTIGUOUS, SEPARATED, BLACK_BACKGROUND, NEW_BACKGROUND, HOLD, RELEASE, heading, composed_grid, new_display, terminal_after, line_bytes, painting_of, message_text}
use Rattle.pv_frame.specs.Content as frames

-- n line ends
abbrev line_ends : ℕ → List ℕ
line_ends zero = []
line_ends (suc n) = 13 ∷ 10 ∷ line_ends n

-- a full row has no line end, also with an attribute last; the spaces after an attribute are not sent, and one before a cell is
pub rows : (line_bytes (replicate 39 65 ++ 3 ∷ []) ≡ replicate 39 65 ++ codes "\u{1b}C")
    × (line_bytes (65 ∷ 3 ∷ replicate 38 32) ≡ codes "A\u{1b}C\r\n") × (line_bytes (32 ∷ 66 ∷ replicate 38 32) ≡ codes " B\r\n")
rows = (refl, refl, refl)

-- a screen is cleared; a short row is a line, a full row has no line end, and neither has the last row. A message goes home and up
pub screens : (painting_of (replicate 24 (replicate 40 32)) ≡ 12 ∷ line_ends 23)
    × (painting_of
    ((codes "TITLE" ++ replicate 35 32) ∷ replicate 40 88 ∷ (replicate 21 (replicate 40 32) ++ (codes "END" ++ replicate 37 32) ∷ []))
    ≡ codes "\u{c}TITLE\r\n" ++ replicate 40 88 ++ line_ends 21 ++ codes "END")
    × (message_text (replicate 40 32) ≡ 30 ∷ 11 ∷ replicate 40 32)
screens = (refl, refl, refl)

-- above the first row is the last, and below the last row the first; so with the columns, and the row changes with them
pub moves : ((terminal_after new_display (codes "\u{b}")).row ≡ 24) × ((terminal_after new_display (codes "\u{b}\n")).row ≡ 1)
    × (terminal_after new_display (codes "\u{8}") ≡ record new_display { row = 24; column = 39 })
    × (terminal_after new_display (replicate 40 9) ≡ record new_display { row = 2; column = 0 })
moves = (refl, refl, refl, refl)

-- the last cell of the screen is written without a scroll
pub last_cell : (terminal_after new_display (codes "\u{8}Z")).cells ≡ replicate 23 (replicate 40 32) ++ (replicate 39 32 ++ 90 ∷ []) ∷ []
last_cell = refl

-- a second escape does nothing, nor do the bytes of cursor on and cursor off
pub without_effect : (terminal_after new_display (codes "\u{1b}\u{1b}A") ≡ terminal_after new_display (codes "A"))
    × (terminal_after new_display (CURSOR_ON ∷ CURSOR_OFF ∷ 0 ∷ 24 ∷ 128 ∷ 255 ∷ []) ≡ new_display)
without_effect = (refl, refl)

-- row 1 has the name from column 25 on and the price at its right end; the longest title, name and price have spaces between them
pub headings : (heading frames.blank_frame (record { page = 1; letter = 97 }) ≡ replicate 25 32 ++ codes "1a" ++ replicate 13 32)
    × (heading (record frames.blank_frame { price = 99 }) (record { page = 1; letter = 97 })
    ≡ replicate 25 32 ++ codes "1a" ++ replicate 10 32 ++ codes "99p")
    × (heading (record frames.blank_frame { title = replicate 24 84; price = 5 }) (record { page = 999999999; letter = 122 })
    ≡ replicate 24 84 ++ codes " 999999999z   5p")
    × (painting_of (composed_grid frames.blank_frame (record { page = 1; letter = 97 }))
    ≡ 12 ∷ (replicate 25 32 ++ codes "1a") ++ line_ends 23)
unfolding digits
headings = (refl, refl, refl, refl)

-- the last cell is 127, and the last byte of an attribute 95: the byte after it does nothing
pub last_bytes : ((terminal_after new_display (127 ∷ [])).column ≡ 1) × (terminal_after new_display (128 ∷ []) ≡ new_display)
    × ((terminal_after new_display (27 ∷ 95 ∷ [])).column ≡ 1) × (terminal_after new_display (27 ∷ 96 ∷ []) ≡ new_display)
last_bytes = (refl, refl, refl, refl)

-- the codes of letters and of mosaics in each colour
pub colours : ALPHA_RED ∷ ALPHA_GREEN ∷ ALPHA_YELLOW ∷ ALPHA_BLUE ∷ ALPHA_MAGENTA ∷ ALPHA_CYAN ∷ ALPHA_WHITE
    ∷ MOSAIC_RED ∷ MOSAIC_GREEN ∷ MOSAIC_YELLOW ∷ MOSAIC_BLUE ∷ MOSAIC_MAGENTA ∷ MOSAIC_CYAN ∷ MOSAIC_WHITE ∷ []
    ≡ 1 ∷ 2 ∷ 3 ∷ 4 ∷ 5 ∷ 6 ∷ 7 ∷ 17 ∷ 18 ∷ 19 ∷ 20 ∷ 21 ∷ 22 ∷ 23 ∷ []
colours = refl

-- the codes of the other attributes
pub effects : FLASH ∷ STEADY ∷ NORMAL_HEIGHT ∷ DOUBLE_HEIGHT ∷ CONCEAL ∷ CONTIGUOUS ∷ SEPARATED ∷ BLACK_BACKGROUND ∷ NEW_BACKGROUND ∷
    HOLD ∷ RELEASE ∷ []
    ≡ 8 ∷ 9 ∷ 12 ∷ 13 ∷ 24 ∷ 25 ∷ 26 ∷ 28 ∷ 29 ∷ 30 ∷ 31 ∷ []
effects = refl
