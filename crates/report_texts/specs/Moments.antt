-- When something happened: a day and a time of day, of the 8 bytes that a record has for them.
use Rattle.std.specs.Prelude.{ℕ, ℤ, ◌/◌, ◌%◌, nat_lt, if◌then◌else◌, List, [], ◌++◌, codes}
use Rattle.std.specs.Prelude.{Result, Ok, Err}
use Rattle.smf_text.specs.declared.packed_date.DateFault.{DateFault}
use Rattle.book_model.specs.Words.{day_text_of, hundredths_per_day, number, packed_day_of, part}
use Rattle.report_texts.specs.Columns.{digits_in}
use Rattle.report_texts.specs.DisputeLists.{moment_text}

unfoldable pub in_two_digits : ℕ → List ℕ
in_two_digits number = digits_in 2 number

-- hundredths of a second since midnight, as hours, minutes, seconds and hundredths: `HH:MM:SS.hh`
unfoldable pub time_text : ℕ → List ℕ
time_text time =
    in_two_digits (time / 360_000) ++ codes ":" ++ in_two_digits ((time / 6_000) % 60)
    ++ codes ":" ++ in_two_digits ((time / 100) % 60) ++ codes "." ++ in_two_digits (time % 100)

-- a day and a time of it
unfoldable pub day_time_text : ℤ → ℕ → List ℕ
day_time_text day time = day_text_of day ++ codes " " ++ time_text time

-- 8 bytes in hexadecimal, as the list of disputes shows a time and a date
abbrev pub bytes_text : List ℕ → List ℕ
bytes_text moment = moment_text [] (part moment 0 4) (part moment 4 4)

-- a day, if there is one, and a time of it, if it has that time; else the bytes
abbrev pub moment_by : Result ℤ DateFault → ℕ → List ℕ → List ℕ
moment_by (Ok day) time moment =
    if nat_lt time hundredths_per_day then day_time_text day time else bytes_text moment
moment_by (Err fault) time moment = bytes_text moment

-- of 8 bytes the first 4 are a time of day in hundredths of a second, the others a packed date
unfoldable pub moment_of : List ℕ → List ℕ
moment_of moment = moment_by (packed_day_of (part moment 4 4)) (number moment 0 4) moment
