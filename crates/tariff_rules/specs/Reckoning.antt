-- How the price of a record came about: which tariff and which of its rules decided, and the numbers
-- of the formula.
use Rattle.std.specs.Prelude.{ℕ, suc, ◌-◌, Bool, List, Option, slice_get}
use Rattle.std.specs.List.{position}
use Rattle.std.specs.Option.{option_and_then, option_map}
use Rattle.smf_text.specs.Day.{weekday_of}
use Rattle.smf_type30.specs.Usage.{day_of, subtype_of, time_of}
use Rattle.tariff_rules.specs.declared.reckoning.Reckoning.{Reckoning}
use Rattle.tariff_rules.specs.Terms.{Terms, rates_of}
use Rattle.tariff_rules.specs.Price.{amount_of, applies_to, has_moment, minute_of, price_by}
use Rattle.tariff_rules.specs.Price.{rates_for, shift_at}

-- the number of the first rule that passes a test, from 1, if there is one
abbrev pub rule_number : {A : Type 0} → (A → Bool) → List A → Option ℕ
rule_number decides rules = option_map suc (position decides rules)

-- the rule that has a number, if there is a number
abbrev pub rule_numbered : {A : Type 0} → List A → Option ℕ → Option A
rule_numbered rules number = option_and_then (λ from_one. slice_get rules (from_one - 1)) number

-- the numbers of the shift rule that has the record's moment, and of the centre rule that applies to
-- it; the tariff's first day, its rates for the record and the percent of the shift; and the price
abbrev pub reckoning_by : Terms → List ℕ → Reckoning
reckoning_by terms bytes =
    let rates = rates_for terms (subtype_of bytes) in
    record {
      effective = terms.effective;
      shift_rule = rule_number
          (has_moment (weekday_of (day_of bytes)) (minute_of (time_of bytes))) terms.shifts;
      centre_rule = rule_number (applies_to bytes) terms.centres;
      cpu_rate = rates.cpu;
      excp_rate = rates.excp;
      record_fee = rates.record_fee;
      percent = (shift_at terms.shifts (day_of bytes) (time_of bytes)).percent;
      priced = price_by terms bytes;
    }

-- what the numbers come to
abbrev pub reckoned : Reckoning → ℕ
reckoned reckoning =
    amount_of (rates_of reckoning.cpu_rate reckoning.excp_rate reckoning.record_fee)
    reckoning.percent reckoning.priced.cpu reckoning.priced.excp
