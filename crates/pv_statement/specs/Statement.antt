-- The statement of an account for a month.
use Rattle.std.specs.Prelude.{ℕ, ◌+◌, ◌/◌, ◌%◌, List, [], ◌∷◌, ◌++◌, filter, flat_map, codes, decimal, Option, Some, None, if◌then◌else◌}
use Rattle.pv_fields.specs.Reading.{◌>>=◌}
use Rattle.std.specs.List.{sum_by}
use Rattle.pv_page.specs.Names.{name_text, account_text, zero_digit}
use Rattle.pv_charge.specs.Line.{Charge}
use Rattle.pv_edits.specs.declared.record.Record.{Record}
use Rattle.pv_udc.specs.Bills.{billed_line, billed_lines}
use Rattle.pv_statement.specs.Months.{is_in_month, day_in_month, hour_of, minute_of, second_of}
use Rattle.pv_statement.specs.declared.spelling.TheConstants.{BASE}

-- the lines of an account's bill whose dates lie in the month, oldest first
abbrev pub month_lines : List Record → ℕ → ℕ → ℕ → List Charge
month_lines records account year month = filter (λ line. is_in_month year month line.moment) (billed_lines records account)

-- the sum of their prices, in pence
abbrev pub month_pence : List Record → ℕ → ℕ → ℕ → ℕ
month_pence records account year month = sum_by (λ line. line.price) (month_lines records account year month)

-- ---- texts

-- a number below 100 in two digits
abbrev pub two_digits : ℕ → List ℕ
two_digits number = (zero_digit + number / BASE) ∷ (zero_digit + number % BASE) ∷ []

-- a month: its year in four digits, and its own number in two
abbrev pub month_text : ℕ → ℕ → List ℕ
month_text year month = decimal year ++ codes "-" ++ two_digits month

abbrev pub date_text : ℕ → ℕ → ℕ → List ℕ
date_text year month day = month_text year month ++ codes "-" ++ two_digits day

abbrev pub time_text : ℕ → List ℕ
time_text moment = two_digits (hour_of moment) ++ codes ":" ++ two_digits (minute_of moment) ++ codes ":" ++ two_digits (second_of moment)

-- the first line: whose statement it is, and for which month
abbrev pub head_text : ℕ → ℕ → ℕ → List ℕ
head_text account year month = codes "STATEMENT " ++ account_text account ++ codes " " ++ month_text year month ++ codes "\n"

-- a line of the bill: its date, its time, the frame and the price
abbrev pub statement_line : ℕ → ℕ → Charge → List ℕ
statement_line year month line =
    date_text year month (day_in_month year month line.moment) ++ codes " " ++ time_text line.moment ++ codes " "
    ++ name_text line.name ++ codes " " ++ decimal line.price ++ codes "\n"

-- the last line: the sum of the prices
abbrev pub sum_text : ℕ → List ℕ
sum_text pence = codes "SUM " ++ decimal pence ++ codes "\n"

-- the lines between them
abbrev pub statement_lines : List Record → ℕ → ℕ → ℕ → List ℕ
statement_lines records account year month = flat_map (statement_line year month) (month_lines records account year month)

-- the whole statement
abbrev pub statement_text : List Record → ℕ → ℕ → ℕ → List ℕ
statement_text records account year month =
    head_text account year month ++ statement_lines records account year month ++ sum_text (month_pence records account year month)

-- ---- record by record

-- the charge line that the record brought, if it is one of this account and its date lies in the month
abbrev pub line_in_month : ℕ → ℕ → ℕ → Record → Option Charge
line_in_month account year month edit =
    billed_line account edit >>= λ line. if is_in_month year month line.moment then Some line else None

-- its text, its price, and whether there is one, as a number
abbrev pub text_of_line : ℕ → ℕ → Option Charge → List ℕ
text_of_line year month None = []
text_of_line year month (Some line) = statement_line year month line

abbrev pub pence_of_line : Option Charge → ℕ
pence_of_line None = 0
pence_of_line (Some line) = line.price

abbrev pub count_of_line : Option Charge → ℕ
count_of_line None = 0
count_of_line (Some line) = 1
