-- The lines of a generated script: each is a command in a play of one centre, and all of them together are a script.
use Rattle.std.proofs.Common.{◌≡◌, ℕ, ◌+◌, ◌*◌, ◌^◌, ◌<◌, ◌≤◌, lit<, lit≤, zero, suc, Bool, List, [], ◌∷◌, ◌++◌, length}
use Rattle.std.proofs.Common.{map, flat_map, refl, ap, ◌∙◌, append_assoc, arith}
use Rattle.std.specs.Prelude.{codes, decimal}
use Rattle.std.specs.List.{AllByRecursion, range_with_len}
use Rattle.std.proofs.lemmas.Fmt.{length-decimal-le}
use Rattle.std.proofs.lemmas.List.{length-append}
use Rattle.std.proofs.lemmas.List.FromFn.{length-map-range_with_len}
use Rattle.pv_words.specs.Lines.{lines_of}
use Rattle.pv_gen.specs.Script.{opening_lines, page_lines, page_at_place, price_at, call_lines, fetch_line, fetched_at, closing_lines}
use Rattle.pv_gen.specs.Script.{script_lines, script_of}
use Rattle.pv_gen.specs.Writing.{lines_text}
use Rattle.pv_gen.specs.declared.writing.TheConstants.{LAST_NUMBER}
use Rattle.pv_script.specs.Grammar.{HasNoForm}
use Rattle.pv_script.proofs.Plain.{IsPlainText, plain-append, plain-decimal, plain_line}
use Rattle.pv_script.proofs.Forms.{IsCommand, edit_line, keys_line, carry_line, dial_line, hang_line, crash_centre_line, crash_update_line}
use Rattle.pv_script.proofs.Forms.{bill_line}

-- ---- texts

-- the text has plain bytes alone, and at most this many
abbrev IsShort : ℕ → List ℕ → Type 0
IsShort most text = IsPlainText text × (length text ≤ most)

-- two texts make one
short-append : (m n : ℕ) (a b : List ℕ) → IsShort m a → IsShort n b → IsShort (m + n) (a ++ b)
short-append m n a b p q = (plain-append a b p.0 q.0, omega (arith, length-append a b, p.1, q.1))

-- a number of at most five digits
short-decimal : (n : ℕ) → n < 10 ^ 5 → IsShort 5 (decimal n)
short-decimal n small = (plain-decimal n (omega arith), length-decimal-le 5 n (omega arith) small (omega arith))

-- a page's number, and a byte after it
short-page : (place byte : ℕ) → place ≤ LAST_NUMBER → IsShort 1 (byte ∷ []) → IsShort 6 (decimal (page_at_place place) ++ byte ∷ [])
short-page place byte within plain =
    let page = page_at_place place in
    short-append 5 1 (decimal page) (byte ∷ []) (short-decimal page (omega (arith, within))) plain

-- ---- lines

-- a line of a generated script: a command, of plain bytes, of which there are few
pub record IsMadeLine (line : List ℕ) : Type 0 where
  pub command : IsCommand line
  pub plain : IsPlainText line
  pub short : length line < 64

abbrev pub AreMadeLines : List (List ℕ) → Type 0
AreMadeLines lines = AllByRecursion IsMadeLine lines

-- those of two parts
both : (a b : List (List ℕ)) → AreMadeLines a → AreMadeLines b → AreMadeLines (a ++ b)
both [] b p q = q
both (line ∷ a) b p q = (p.0, both a b p.1 q)

-- a short command
made : (most : ℕ) (line : List ℕ) → IsCommand line → IsShort most line → most < 64 → IsMadeLine line
made most line command short few = record { command = command; plain = short.0; short = omega (arith, short.1, few) }

-- one that is the same in each script
same : (line : List ℕ) → IsCommand line → IsShort 50 line → IsMadeLine line
same line command short = made 50 line command short (lit< tt)

-- an editor's line that ends with a number
numbered : (words : List ℕ) (n : ℕ) → IsShort 20 (codes "edit 0 " ++ words) → n < 10 ^ 5
    → IsMadeLine (codes "edit 0 " ++ (words ++ decimal n))
numbered words n short small =
    let line = short-append 20 5 (codes "edit 0 " ++ words) (decimal n) short (short-decimal n small) in
    made 25 _ (edit_line (words ++ decimal n)) line (lit< tt)

-- ---- the parts of a script

opening : AreMadeLines opening_lines
opening =
    let log_on = same _ (edit_line (codes "LOGON 0000000000 0000")) (refl, lit≤ tt) in
    let account = same _ (edit_line (codes "ACCOUNT 1 1000000001 ABCD 0 -")) (refl, lit≤ tt) in
    (log_on, (account, tt))

page : (place price : ℕ) → place ≤ LAST_NUMBER → price < 10 → AreMadeLines (page_lines place price)
page place price within low =
    let name = decimal (page_at_place place) ++ codes "a" in
    let first = short-append 20 6 (codes "edit 0 NEW ") name (refl, lit≤ tt) (short-page place 97 within (refl, lit≤ tt)) in (
      made 26 _ (edit_line (codes "NEW " ++ name)) first (lit< tt),
      (
        numbered (codes "ROW 2 FRAME ") place (refl, lit≤ tt) (omega (arith, within)),
        (
          numbered (codes "PRICE ") price (refl, lit≤ tt) (omega (arith, low)),
          (numbered (codes "STORE ") (place + 1) (refl, lit≤ tt) (omega (arith, within)), tt),
        ),
      ),
    )

call : AreMadeLines call_lines
call =
    let log_on = same _ (keys_line (codes "1000000001ABCD") (lit< tt) refl) (refl, lit≤ tt) in
    (same _ carry_line (refl, lit≤ tt), (same _ dial_line (refl, lit≤ tt), (log_on, tt)))

fetch : (place : ℕ) → place ≤ LAST_NUMBER → IsMadeLine (fetch_line place)
fetch place within =
    let name = decimal (page_at_place place) ++ codes "#" in
    let keys = short-append 1 6 (codes "*") name (refl, lit≤ tt) (short-page place 35 within (refl, lit≤ tt)) in
    let line = short-append 9 7 (codes "keys 0 0 ") (codes "*" ++ name) (refl, lit≤ tt) keys in
    made 16 _ (keys_line (codes "*" ++ name) (omega arith) keys.0) line (lit< tt)

closing : AreMadeLines closing_lines
closing = (
  same _ hang_line (refl, lit≤ tt),
  (
    same _ crash_centre_line (refl, lit≤ tt),
    (
      same _ crash_update_line (refl, lit≤ tt),
      (same _ carry_line (refl, lit≤ tt), (same _ bill_line (refl, lit≤ tt), tt)),
    ),
  ),
)

-- ---- a script

-- the lines of its text
lines_of-lines_text : (lines : List (List ℕ)) → AreMadeLines lines → lines_of (lines_text lines) ≡ lines
lines_of-lines_text [] are = refl
lines_of-lines_text (line ∷ lines) are =
    ap lines_of (append_assoc line (10 ∷ []) (lines_text lines))
    ∙ plain_line line (lines_text lines) are.0.plain
    ∙ ap (λ (l : List (List ℕ)). line ∷ l) (lines_of-lines_text lines are.1)

-- a line has at most 64 bytes with its end
length-lines_text : (lines : List (List ℕ)) → AreMadeLines lines → length (lines_text lines) ≤ 64 * length lines
length-lines_text [] are = omega arith
length-lines_text (line ∷ lines) are =
    let one = length-append (line ++ 10 ∷ []) (lines_text lines) in
    omega (arith, one, length-append line (10 ∷ []), are.0.short, length-lines_text lines are.1)

-- none of them is a bad line
pub no_bad_line : (run later : List (List ℕ)) (bad : List ℕ) (first : Bool) → AreMadeLines (run ++ bad ∷ later) → HasNoForm 1 first bad → ⊥
no_bad_line [] later bad first are none = none are.0.command.0 (are.0.command.1 first)
no_bad_line (line ∷ run) later bad first are none = no_bad_line run later bad first are.1 none

module _ (number : ℕ) where
  -- the lines that make pages, from a place on, and those that fetch them
  abbrev pages : ℕ → ℕ → List (List ℕ)
  pages place count = flat_map (λ place. page_lines place (price_at number place)) (range_with_len place count)

  abbrev fetches : ℕ → ℕ → List (List ℕ)
  fetches first count = map (λ fetch. fetch_line (fetched_at number fetch)) (range_with_len first count)

  -- the lines up to the call, and up to its end
  abbrev up_to_pages : List (List ℕ)
  up_to_pages = opening_lines ++ pages 1 number

  abbrev up_to_call : List (List ℕ)
  up_to_call = up_to_pages ++ call_lines

  -- four lines make a page
  length-pages : (place count : ℕ) → length (pages place count) ≡ 4 * count
  length-pages place zero = refl
  length-pages place (suc count) = omega (arith, length-pages (place + 1) count)

  -- how many lines there are
  length-script_lines : length (script_lines number) ≡ 6 * number + 10
  length-script_lines =
      let count = length-map-range_with_len (λ fetch. fetch_line (fetched_at number fetch)) 1 (2 * number) in
      let all = length-append (up_to_call ++ fetches 1 (2 * number)) closing_lines in
      let fetched = length-append up_to_call (fetches 1 (2 * number)) in
      omega (arith, all, fetched, count, length-append up_to_pages call_lines, length-pages 1 number)

  module _ (some : 1 ≤ number) (within : number ≤ LAST_NUMBER) where
    made_pages : (place count : ℕ) → place + count ≤ number + 1 → AreMadeLines (pages place count)
    made_pages place zero fits = tt
    made_pages place (suc count) fits =
        let one = page place (price_at number place) (omega (arith, fits, within)) (omega arith) in
        both (page_lines place (price_at number place)) _ one (made_pages (place + 1) count (omega (arith, fits)))

    made_fetches : (first count : ℕ) → AreMadeLines (fetches first count)
    made_fetches first zero = tt
    made_fetches first (suc count) = (fetch (fetched_at number first) (omega (arith, some, within)), made_fetches (first + 1) count)

    -- every line of the script is made so
    pub all_made : AreMadeLines (script_lines number)
    all_made =
        let opened = both opening_lines (pages 1 number) opening (made_pages 1 number (omega arith)) in
        let called = both up_to_pages call_lines opened call in
        let fetched = both up_to_call (fetches 1 (2 * number)) called (made_fetches 1 (2 * number)) in
        both (up_to_call ++ fetches 1 (2 * number)) closing_lines fetched closing

    -- they are the lines of its text
    pub lines_of-script_of : lines_of (script_of number) ≡ script_lines number
    lines_of-script_of = lines_of-lines_text (script_lines number) all_made

    -- which is no longer than a script may be
    pub length-script_of : length (script_of number) ≤ 1048576
    length-script_of = omega (arith, length-lines_text (script_lines number) all_made, length-script_lines, within)
