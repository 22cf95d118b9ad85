-- The office's limits on what a tariff may say. The code has each of these numbers again, as a
-- constant.
use Rattle.std.specs.Prelude.{ℕ}

-- the highest rate, in ten-thousandths of the money unit
abbrev pub most_rate : ℕ
most_rate = 100_000_000

-- the highest percent that a shift charges
abbrev pub most_percent : ℕ
most_percent = 1000

-- the most bytes of a tariff file
abbrev pub most_text : ℕ
most_text = 1_048_576

-- the most shift rules of a tariff file
abbrev pub most_shifts : ℕ
most_shifts = 64

-- the most centre rules of a tariff file
abbrev pub most_centres : ℕ
most_centres = 2000

-- the weekdays, Monday 1 to Sunday 7 (ISO 8601)
abbrev pub days_per_week : ℕ
days_per_week = 7

-- the last accounting field that a centre rule may look at
abbrev pub last_account : ℕ
last_account = 255

-- the most characters of the text that an accounting field has to begin with
abbrev pub most_account_prefix : ℕ
most_account_prefix = 16

-- the most characters of the text that a job's name has to begin with, which are those of the name
-- (SA38-0667, type 30, identification section)
abbrev pub most_job_prefix : ℕ
most_job_prefix = 8

-- the most characters of each text in a letterhead
abbrev pub most_letters : ℕ
most_letters = 40

-- the most decimals that are booked, which are those of an amount
abbrev pub most_decimals : ℕ
most_decimals = 4
