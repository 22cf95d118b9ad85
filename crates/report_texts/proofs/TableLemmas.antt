-- Rows of fields that need no quotes are these fields with commas between them; and such fields.
use Rattle.std.proofs.Common.{◌≡◌, ℕ, ◌+◌, ◌-◌, ◌/◌, ◌%◌, ◌<◌, ◌^◌, false, true, List, [], ◌∷◌}
use Rattle.std.proofs.Common.{◌++◌, ◌∙◌, ap, append-nil, refl, arith, decimal, ℤ, suc, zero, length}
use Rattle.std.proofs.Common.{codes, replicate, flat_map, ne_eqb}
use Rattle.std.proofs.lemmas.Fmt.{decimal_by_steps}
use Rattle.csv.specs.Writing.{default_writer, field_text, fields_text, is_blank, needs_byte}
use Rattle.csv.specs.Writing.{row_text}
use Rattle.book_model.proofs.Std.{list_all, and_parts, nat_tests, list_any-append}
use Rattle.smf_text.specs.Day.{day_text_of}
use Rattle.book_model.specs.Words.{date_of, IsName, is_name_character}
use Rattle.report_texts.specs.Columns.{newline, digits_in, seconds_text, amount_text}
use Rattle.report_texts.specs.StatementTables.{comma_line, table_fields, table_heading, table_line}
use Rattle.report_texts.specs.Tables.{IsPlain, fields_line}
use Rattle.report_texts.proofs.Words.{ChargeRow}

-- a byte after the comma calls for none
plain_byte : (b : ℕ) → 44 < b → needs_byte default_writer b ≡ false
plain_byte b above =
    rw (
      ne_eqb b 44 (λ e. omega (arith, e)),
      ne_eqb b 34 (λ e. omega (arith, e)),
      ne_eqb b 13 (λ e. omega (arith, e)),
      ne_eqb b 10 (λ e. omega (arith, e)),
    ) refl

-- one such byte before others
plain_before : (b : ℕ) (rest : List ℕ) → 44 < b → IsPlain rest → IsPlain (b ∷ rest)
plain_before b rest above plain = let first = plain_byte b above in rw (first, plain) refl

-- two plain fields, one after the other
plain_append : (one other : List ℕ) → IsPlain one → IsPlain other → IsPlain (one ++ other)
plain_append one other plain plain_other =
    rw (list_any-append (needs_byte default_writer) one other, plain, plain_other) refl

-- a number
pub plain_number : (n : ℕ) → n < 2 ^ 64 → IsPlain (decimal n)
plain_number =
    decimal_by_steps (λ n digits. IsPlain digits)
    (λ n below. plain_before (48 + n) [] (omega arith) refl)
    (λ n digits above plain.
    plain_append digits ((48 + n % 10) ∷ []) plain
    (plain_before (48 + n % 10) [] (omega arith) refl))

-- zeros
plain_zeros : (count : ℕ) → IsPlain (replicate count 48)
plain_zeros zero = refl
plain_zeros (suc count) = plain_before 48 (replicate count 48) (omega arith) (plain_zeros count)

-- a number in a given count of digits
plain_digits : (width n : ℕ) → n < 2 ^ 64 → IsPlain (digits_in width n)
plain_digits width n below =
    plain_append (replicate (width - length (decimal n)) 48) (decimal n)
    (plain_zeros (width - length (decimal n))) (plain_number n below)

-- a number with decimal places
plain_places : (whole width rest : ℕ) → whole < 2 ^ 64 → rest < 2 ^ 64
    → IsPlain (decimal whole ++ codes "." ++ digits_in width rest)
plain_places whole width rest below small =
    plain_append (decimal whole ++ codes ".") (digits_in width rest)
    (plain_append (decimal whole) (codes ".") (plain_number whole below) refl)
    (plain_digits width rest small)

-- hundredths of a second, in seconds
pub plain_seconds : (n : ℕ) → n < 2 ^ 64 → IsPlain (seconds_text n)
unfolding seconds_text
plain_seconds n below = plain_places (n / 100) 2 (n % 100) (omega arith) (omega arith)

-- ten-thousandths of the money unit, in units
pub plain_amount : (n : ℕ) → n < 2 ^ 64 → IsPlain (amount_text n)
unfolding amount_text
plain_amount n below = plain_places (n / 10_000) 4 (n % 10_000) (omega arith) (omega arith)

-- two digits, as days have them
abbrev pair : ℕ → List ℕ
pair n = (48 + n / 10) ∷ (48 + n % 10) ∷ []

-- two digits before other bytes
plain_pair : (n : ℕ) (rest : List ℕ) → IsPlain rest → IsPlain (pair n ++ rest)
plain_pair n rest plain =
    plain_before (48 + n / 10) ((48 + n % 10) ∷ rest) (omega arith)
    (plain_before (48 + n % 10) rest (omega arith) plain)

-- a day
pub plain_day : (day : ℤ) → IsPlain (day_text_of day)
unfolding day_text_of
plain_day day =
    let date = date_of day in
    let days = pair date.day in
    let months = pair date.month ++ (45 ∷ days) in
    plain_pair (date.year / 100) (pair (date.year % 100) ++ (45 ∷ months))
    (plain_pair (date.year % 100) (45 ∷ months)
    (plain_before 45 months (omega arith)
    (plain_pair date.month (45 ∷ days)
    (plain_before 45 days (omega arith) (plain_pair date.day [] refl)))))

-- a character of a name is above the comma
name_above : (c : ℕ) → is_name_character c ≡ true → 44 < c
name_above c is = grind (arith, nat_tests)

-- the characters of a name
plain_characters : (text : List ℕ) → list_all is_name_character text ≡ true → IsPlain text
plain_characters [] all = refl
plain_characters (c ∷ rest) all =
    let both = and_parts (is_name_character c) (list_all is_name_character rest) all in
    plain_before c rest (name_above c both.0) (plain_characters rest both.1)

-- a name
pub plain_name : (text : List ℕ) → IsName text → IsPlain text
plain_name text is = plain_characters text (and_parts _ _ is).1

-- fields that call for no quotes
abbrev pub ArePlain : List (List ℕ) → Type 0
ArePlain [] = Unit {0}
ArePlain (field ∷ rest) = IsPlain field × ArePlain rest

-- a plain field is written as it is
plain_field : (field : List ℕ) → IsPlain field → field_text default_writer field ≡ field
plain_field field plain = rw plain refl

-- fields after the first are written with a comma before each
plain_fields : (fields : List (List ℕ)) → ArePlain fields
    → fields_text default_writer fields ≡ flat_map (λ field. codes "," ++ field) fields
unfolding fields_text
plain_fields [] plain = refl
plain_fields (field ∷ rest) plain =
    rw (plain_field field plain.0, plain_fields rest plain.1) refl

-- a row of two plain fields or more
pub plain_row : (first second : List ℕ) (others : List (List ℕ))
    → ArePlain (first ∷ second ∷ others)
    → row_text default_writer (first ∷ second ∷ others) ≡ comma_line first (second ∷ others)
unfolding is_blank
plain_row first second others plain =
    rw (plain_field first plain.0, plain_fields (second ∷ others) plain.1) refl

-- the line of a charge row
pub plain_line : (period : ℕ) (row : ChargeRow) → period < 2 ^ 64 → row.count < 2 ^ 64
    → row.cpu < 2 ^ 64 → row.blocks < 2 ^ 64 → row.amount < 2 ^ 64
    → IsName row.centre → IsName row.shift
    → fields_line (table_fields period row) ≡ table_line period row
unfolding fields_line table_line
plain_line period row of_period of_count of_cpu of_blocks of_amount centre shift =
    plain_row (decimal period) (day_text_of row.day)
    (row.centre ∷ row.shift ∷ decimal row.count ∷ seconds_text row.cpu ∷ decimal row.blocks
    ∷ amount_text row.amount ∷ []) (assumption (
      plain_number period of_period,
      plain_day row.day,
      plain_name row.centre centre,
      plain_name row.shift shift,
      plain_number row.count of_count,
      plain_seconds row.cpu of_cpu,
      plain_number row.blocks of_blocks,
      plain_amount row.amount of_amount,
    ))

-- the names of the columns of charge rows, where that of the amounts calls for none
pub plain_heading : (amounts : List ℕ) → IsPlain amounts
    → row_text default_writer
    (codes "period" ∷ codes "day" ∷ codes "centre" ∷ codes "shift" ∷ codes "count" ∷ codes "cpu"
    ∷ codes "blocks" ∷ amounts ∷ [])
    ≡ table_heading amounts
unfolding table_heading
plain_heading amounts plain =
    plain_row (codes "period") (codes "day")
    (codes "centre" ∷ codes "shift" ∷ codes "count" ∷ codes "cpu" ∷ codes "blocks" ∷ amounts ∷ [])
    (refl, (refl, (refl, (refl, (refl, (refl, (refl, (plain, tt))))))))
    ∙ ap (λ last. codes "period,day,centre,shift,count,cpu,blocks," ++ last ++ newline)
    (append-nil amounts)
