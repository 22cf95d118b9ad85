-- What a period would have cost by another tariff: the records that it counts, each by that tariff,
-- whatever the tariff's first day.
use Rattle.std.specs.Prelude.{nat_lt, if◌then◌else◌, List, map, sum_by, Option, Some, None}
use Rattle.std.specs.Prelude.{Result, Ok, Err}
use Rattle.tariff_rules.specs.Terms.{Terms}
use Rattle.tariff_rules.specs.Price.{price_by}
use Rattle.tariff_rules.specs.declared.priced.Priced.{Priced}
use Rattle.book_model.specs.declared.fault.LedgerFault.{LedgerFault}
use Rattle.book_model.specs.declared.fault.LedgerFault.TheVariants.{Full, NoSuchPeriod}
use Rattle.book_model.specs.declared.row.ChargeRow.{ChargeRow}
use Rattle.book_model.specs.Limits.{most_cost}
use Rattle.book_model.specs.Sets.{members}
use Rattle.book_model.specs.Records.{Records}
use Rattle.book_model.specs.Periods.{Period}
use Rattle.book_model.specs.Rows.{rows_of}

-- what some records cost by a tariff
abbrev pub costs_under : Terms → Records → List Priced
costs_under terms records = map (price_by terms) (members records)

-- the rows of what records cost, where it is no more than books hold
abbrev pub rows_if_room : List Priced → Result (List ChargeRow) LedgerFault
rows_if_room costs =
    if nat_lt most_cost (sum_by (λ one. one.amount) costs) then Err Full else Ok (rows_of costs)

-- what is answered for a period, if there is one
abbrev pub what_if_answer : Terms → Option Period → Result (List ChargeRow) LedgerFault
what_if_answer terms None = Err NoSuchPeriod
what_if_answer terms (Some period) = rows_if_room (costs_under terms period.counted)
