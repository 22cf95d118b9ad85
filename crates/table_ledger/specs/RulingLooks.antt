-- Replaced tariffs and credits as the list of rulings shows them, by their rows.
use Rattle.std.specs.Prelude.{ℕ, [], Option, option_map, unwrap_or}
use Rattle.std.specs.FinMap.{get}
use Rattle.book_model.specs.Words.{Credit, ReplacedSeen, RulingSeen, credit_seen}
use Rattle.table_model.specs.Tables.{CreditTable, ReplacedRow, ReplacedTable}

-- a tariff that was replaced, by its row: it came as a text
abbrev pub replaced_shown : ReplacedRow → RulingSeen
replaced_shown row = ReplacedSeen row.day row.period (unwrap_or row.text [])

-- the one of a number
abbrev pub replaced_read_at : ℕ → ReplacedTable → Option RulingSeen
replaced_read_at number replaced = option_map replaced_shown (get replaced number)

-- the credit of a number
abbrev pub credit_read_at : ℕ → CreditTable → Option RulingSeen
credit_read_at number credits = option_map (credit_seen number) (get credits number)
