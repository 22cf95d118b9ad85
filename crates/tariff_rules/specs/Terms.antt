-- What a tariff says.
use Rattle.std.specs.Prelude.{ℕ, ◌≤◌, List, [], ℤ}
use Rattle.smf_text.specs.Names.{IsName}
use Rattle.smf_text.specs.Day.{first_day}
use Rattle.tariff_rules.specs.Limits.{most_percent, most_rate}
use Rattle.tariff_rules.specs.declared.centre.Field.{Field}
use Rattle.tariff_rules.specs.declared.shift.Shift.{Shift}

-- the rates of one kind of record, in ten-thousandths of the money unit:
-- of a CPU second, of 1,000 blocks, of the record itself
pub record RatesOf : Type 0 where
  pub cpu : ℕ
  pub excp : ℕ
  pub record_fee : ℕ

-- three rates, in that order
abbrev pub rates_of : ℕ → ℕ → ℕ → RatesOf
rates_of cpu excp record_fee = record { cpu = cpu; excp = excp; record_fee = record_fee }

-- no rate is above the highest
pub record AreRates (rates : RatesOf) : Type 0 where
  pub cpu : rates.cpu ≤ most_rate
  pub excp : rates.excp ≤ most_rate
  pub record_fee : rates.record_fee ≤ most_rate

-- a shift has a name, and charges no more than the highest percent
pub record IsShift (shift : Shift) : Type 0 where
  pub name : IsName shift.name
  pub percent : shift.percent ≤ most_percent

-- when a shift is worked: its weekdays, Monday 1 to Sunday 7, its first minute of the day,
-- and the first after it
pub record ShiftRule : Type 0 where
  pub shift : Shift
  pub days : List ℕ
  pub from : ℕ
  pub to : ℕ

-- what a centre pays for: the records with a field that begins with the prefix, in code page 037
pub record CentreRule : Type 0 where
  pub centre : List ℕ
  pub field : Field
  pub prefix : List ℕ

-- a tariff: its first day, the rates of steps and of jobs, and its rules, the first of which
-- that applies decides
pub record Terms : Type 0 where
  pub effective : ℤ
  pub step : RatesOf
  pub job : RatesOf
  pub shifts : List ShiftRule
  pub centres : List CentreRule

-- the same rates for steps and jobs, from the first day on, without rules
abbrev pub flat_terms : RatesOf → Terms
flat_terms rates =
    record { effective = first_day; step = rates; job = rates; shifts = []; centres = [] }

-- the same terms, in force on every day
abbrev pub on_every_day : Terms → Terms
on_every_day terms = record terms { effective = first_day }
