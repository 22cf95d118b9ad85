-- Booked sums: what is owed, rounded to the decimals that the office books.
use Rattle.std.specs.Prelude.{◌≡◌, ℕ, suc, ◌+◌, ◌*◌, ◌/◌, ◌%◌, ◌==◌, ◌≤◌, ◌<◌, if◌then◌else◌, ℤ, pos}
use Rattle.std.specs.Prelude.{negsuc, neg_ℤ, ◌+ℤ◌, ◌-ℤ◌, ◌*ℤ◌, int_lt, unsigned_abs, List, [], ◌∷◌}
use Rattle.std.specs.Prelude.{◌++◌, codes, length, map}
use Rattle.std.specs.Fmt.{decimal}
use Rattle.book_model.specs.Words.{BillSeen}
use Rattle.report_texts.specs.Charges.{charged_in, each_charges, taken_in}
use Rattle.report_texts.specs.Columns.{amount_text}
use Rattle.report_texts.specs.declared.charges.CentreCharges.{CentreCharges}
use Rattle.report_texts.specs.declared.charges.Charges.{Charges}

-- how many ten-thousandths of the money unit the last of so many decimals stands for
unfoldable pub unit_of : ℕ → ℕ
unit_of decimals =
    if decimals == 0 then 10_000
    else if decimals == 1 then 1000
    else if decimals == 2 then 100
    else if decimals == 3 then 10
    else 1

-- how many units are nearest to an amount, a half upwards
abbrev pub nearest : ℕ → ℕ → ℕ
nearest unit amount = (amount + unit / 2) / unit

-- what is booked of what is owed, in units: the nearest, halves away from zero
abbrev pub booked : ℕ → ℤ → ℤ
booked unit (pos owed) = pos (nearest unit owed)
booked unit (negsuc less) = neg_ℤ (pos (nearest unit (suc less)))

-- what is owed for charges: all that is charged, less what is taken off
abbrev pub owed_of : Charges → ℤ
owed_of charges = pos (charged_in charges) -ℤ pos (taken_in charges)

-- several sums together
abbrev pub sum_of : List ℤ → ℤ
sum_of [] = pos 0
sum_of (one ∷ others) = one +ℤ sum_of others

-- what is booked of several sums together: each is rounded by itself
abbrev pub booked_of_all : ℕ → List ℤ → ℤ
booked_of_all unit owed = sum_of (map (booked unit) owed)

-- what the office books by its bill: the sum of what its centres do
abbrev pub owed_by : CentreCharges → ℤ
owed_by own = owed_of own.charges

abbrev pub booked_by_office : ℕ → BillSeen → ℤ
booked_by_office unit bill = booked_of_all unit (map owed_by (each_charges bill))

-- the last digit of a number
abbrev pub last_digit : ℕ → List ℕ
last_digit number = decimal (number % 10)

-- units of the last of one, two or three decimals
abbrev pub tenths_text : ℕ → List ℕ
tenths_text units = decimal (units / 10) ++ codes "." ++ last_digit units

abbrev pub hundredths_text : ℕ → List ℕ
hundredths_text units =
    decimal (units / 100) ++ codes "." ++ last_digit (units / 10) ++ last_digit units

abbrev pub thousandths_text : ℕ → List ℕ
thousandths_text units =
    decimal (units / 1000) ++ codes "." ++ last_digit (units / 100) ++ last_digit (units / 10)
    ++ last_digit units

-- so many units of the last of some decimals; without decimals there is no point
unfoldable pub units_text : ℕ → ℕ → List ℕ
units_text decimals units =
    if decimals == 0 then decimal units
    else if decimals == 1 then tenths_text units
    else if decimals == 2 then hundredths_text units
    else if decimals == 3 then thousandths_text units
    else amount_text units

-- what is booked, with a minus sign where it is less than nothing
unfoldable pub booked_text : ℕ → ℤ → List ℕ
booked_text decimals booked =
    (if int_lt booked (pos 0) then codes "-" else []) ++ units_text decimals (unsigned_abs booked)

-- so many halves of a unit lie between what is booked and what is owed, at most
abbrev pub IsNear : ℕ → ℕ → ℤ → ℤ → Type 0
IsNear halves unit owed booked = 2 * unsigned_abs (booked *ℤ pos unit -ℤ owed) ≤ halves * unit

-- What is booked of a sum is within half a unit of it; a half goes away from zero; whole units are
-- booked as they are; and what the office owes is booked as what it is owed.
pub record BookedIsNearest : Type 0 where
  pub near : (unit : ℕ) (owed : ℤ) → 0 < unit → IsNear 1 unit owed (booked unit owed)
  pub halves : (half count : ℕ) → 0 < half
      → nearest (2 * half) (count * (2 * half) + half) ≡ count + 1
  pub whole : (unit count : ℕ) → 0 < unit → booked unit (pos (count * unit)) ≡ pos count
  pub mirrored : (unit : ℕ) (owed : ℤ) → 0 < unit
      → booked unit (neg_ℤ owed) ≡ neg_ℤ (booked unit owed)

-- what several bills book together is within half a unit for each of them of what they owe
abbrev pub BookedTogether : Type 0
BookedTogether =
    (unit : ℕ) (owed : List ℤ) → 0 < unit
    → IsNear (length owed) unit (sum_of owed) (booked_of_all unit owed)
