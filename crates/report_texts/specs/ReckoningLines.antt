-- How the price of a record came about, as a record's text shows it. The formula has the numbers of
-- `amount_of` in tariff_rules; what it comes to is rounded once, to the nearest, a half upwards.
use Rattle.std.specs.Prelude.{ℕ, List, ◌++◌, codes, Option, decimal}
use Rattle.tariff_rules.specs.Price.{hundredth_parts, record_parts, whole_parts}
use Rattle.book_model.specs.Words.{Reckoning, day_text_of}
use Rattle.report_texts.specs.Columns.{amount_text, newline, number_text, seconds_text}

-- what was measured
unfoldable pub measured_line : Reckoning → List ℕ
measured_line reckoning =
    codes "CPU " ++ seconds_text reckoning.priced.cpu
    ++ codes " BLOCKS " ++ decimal reckoning.priced.excp ++ newline

-- the shift or the centre, by that word, and the number of the rule that decided it, if one did
unfoldable pub rule_columns : List ℕ → List ℕ → Option ℕ → List ℕ
rule_columns word name rule = word ++ name ++ codes " RULE " ++ number_text rule

-- the tariff, and what its rules gave
unfoldable pub rules_line : Reckoning → List ℕ
rules_line reckoning =
    codes "TARIFF " ++ day_text_of reckoning.effective
    ++ rule_columns (codes " SHIFT ") reckoning.priced.shift reckoning.shift_rule
    ++ rule_columns (codes " CENTRE ") reckoning.priced.centre reckoning.centre_rule ++ newline

-- one number by another
unfoldable pub product_text : ℕ → ℕ → List ℕ
product_text number other = decimal number ++ codes " * " ++ decimal other

-- the parts of the formula: those of the CPU time, of the blocks, and of the record itself
unfoldable pub parts_text : Reckoning → List ℕ
parts_text reckoning =
    codes "(" ++ product_text hundredth_parts reckoning.priced.cpu
    ++ codes " * " ++ decimal reckoning.cpu_rate
    ++ codes " + " ++ product_text reckoning.priced.excp reckoning.excp_rate
    ++ codes " + " ++ product_text record_parts reckoning.record_fee ++ codes ")"

-- how many parts make a ten-thousandth of the money unit, and how many of these there are
unfoldable pub whole_text : ℕ → List ℕ
whole_text amount = codes " / " ++ decimal whole_parts ++ codes " = " ++ decimal amount

-- the formula, and what it comes to
unfoldable pub price_line : Reckoning → List ℕ
price_line reckoning =
    codes "PRICE " ++ parts_text reckoning ++ codes " * " ++ decimal reckoning.percent
    ++ whole_text reckoning.priced.amount ++ newline

-- the price in the money unit
unfoldable pub amount_line : ℕ → List ℕ
amount_line amount = codes "AMOUNT " ++ amount_text amount ++ newline

-- all of it
unfoldable pub reckoning_lines : Reckoning → List ℕ
reckoning_lines reckoning =
    measured_line reckoning ++ rules_line reckoning ++ price_line reckoning
    ++ amount_line reckoning.priced.amount
