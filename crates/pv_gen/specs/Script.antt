-- The script of a number.
use Rattle.std.specs.Prelude.{ℕ, ◌+◌, ◌*◌, ◌%◌, List, [], ◌∷◌, ◌++◌, map, flat_map, codes, decimal}
use Rattle.std.specs.List.{range_with_len}
use Rattle.pv_gen.specs.Sequence.{output_at}
use Rattle.pv_gen.specs.Writing.{line_text, lines_text}
use Rattle.pv_gen.specs.declared.writing.TheConstants.{PAGE_BASE, PRICE_END, FETCHES}

-- the operator logs on and makes an account for a caller
abbrev pub opening_lines : List (List ℕ)
opening_lines = codes "edit 0 LOGON 0000000000 0000" ∷ codes "edit 0 ACCOUNT 1 1000000001 ABCD 0 -" ∷ []

-- the page at a place, from 1
abbrev pub page_at_place : ℕ → ℕ
page_at_place place = PAGE_BASE + place

-- he makes the page at a place, with a price; the account was his first edit
abbrev pub page_lines : ℕ → ℕ → List (List ℕ)
page_lines place price =
    (codes "edit 0 NEW " ++ decimal (page_at_place place) ++ codes "a")
    ∷ (codes "edit 0 ROW 2 FRAME " ++ decimal place)
    ∷ (codes "edit 0 PRICE " ++ decimal price)
    ∷ (codes "edit 0 STORE " ++ decimal (place + 1))
    ∷ []

-- the price of the page at a place
abbrev pub price_at : ℕ → ℕ → ℕ
price_at number place = output_at number place % PRICE_END

-- the centre gets all that was stored, and the caller dials it and logs on
abbrev pub call_lines : List (List ℕ)
call_lines = codes "carry 0" ∷ codes "dial 0 0" ∷ codes "keys 0 0 1000000001ABCD" ∷ []

-- he fetches the page at a place
abbrev pub fetch_line : ℕ → List ℕ
fetch_line place = codes "keys 0 0 *" ++ decimal (page_at_place place) ++ codes "#"

-- the place that a fetch is of, by its number from 1; the sequence goes on from where the prices left it
abbrev pub fetched_at : ℕ → ℕ → ℕ
fetched_at number fetch = output_at number (number + fetch) % number + 1

-- he hangs up, both nodes crash, and the bill is asked for
abbrev pub closing_lines : List (List ℕ)
closing_lines = codes "hang 0 0" ∷ codes "crash 0" ∷ codes "crash u" ∷ codes "carry 0" ∷ codes "bill 1000000001" ∷ []

-- the text of the page at a place, and of a fetch
abbrev pub page_text : ℕ → ℕ → List ℕ
page_text number place = lines_text (page_lines place (price_at number place))

abbrev pub fetch_text : ℕ → ℕ → List ℕ
fetch_text number fetch = line_text (fetch_line (fetched_at number fetch))

-- the lines of the script: as many pages as the number says, and a number of fetches for each
abbrev pub script_lines : ℕ → List (List ℕ)
script_lines number =
    opening_lines
    ++ flat_map (λ place. page_lines place (price_at number place)) (range_with_len 1 number)
    ++ call_lines
    ++ map (λ fetch. fetch_line (fetched_at number fetch)) (range_with_len 1 (FETCHES * number))
    ++ closing_lines

-- the script
abbrev pub script_of : ℕ → List ℕ
script_of number = lines_text (script_lines number)
