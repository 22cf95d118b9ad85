-- Figures of a period: how many records it counts, what it charges, adds and reverses, what its credits
-- come to, and what each centre costs in it.
use Rattle.std.specs.Prelude.{ℕ, ℤ, ◌+◌, ◌-◌, ◌||◌, Bool, List, filter, length, map, nat_lt, sum_by}
use Rattle.std.specs.Prelude.{Option, option_map, slice_get, unwrap_or}
use Rattle.std.specs.BTreeMap.{is_at}
use Rattle.std.specs.Map.{lookup}
use Rattle.std.specs.Ordering.{int_cmp, int_eq}
use Rattle.book_model.specs.declared.line.Line.{Line}
use Rattle.book_model.specs.declared.row.ChargeRow.{ChargeRow}
use Rattle.book_model.specs.Words.{Credit, by_bytes, members, set_of}
use Rattle.report_texts.specs.AdjustmentLists.{charged_amount, reversed_amount, signed_text}
use Rattle.report_texts.specs.CentreAmounts.{cost_of}
use Rattle.report_texts.specs.Charges.{credits_together}
use Rattle.coverage_texts.specs.Coverage.{days_between}
use Rattle.page_texts.specs.declared.figures.PeriodFigures.{PeriodFigures}

-- the centres of rows, each once and in order
abbrev pub centres_of : List ChargeRow → List (List ℕ)
centres_of rows = members (set_of by_bytes (map (λ row. row.centre) rows))

-- what each centre costs, in their order
abbrev pub costs_of : List ChargeRow → List (List ℕ × ℕ)
costs_of rows = map (λ centre. (centre, cost_of rows centre)) (centres_of rows)

-- what the rows of a day come to
abbrev pub cost_on : List ChargeRow → ℤ → ℕ
cost_on rows day = sum_by (λ row. row.amount) (filter (λ row. int_eq row.day day) rows)

-- what each day costs that has rows, in their order
abbrev pub sums_by_day : List ChargeRow → List (ℤ × ℕ)
sums_by_day rows =
    map (λ day. (day, cost_on rows day)) (members (set_of int_cmp (map (λ row. row.day) rows)))

-- a day with what it costs among these, nothing where it has no row
abbrev pub day_cost : List (ℤ × ℕ) → ℤ → ℤ × ℕ
day_cost sums day = (day, unwrap_or (lookup (is_at (int_cmp day)) sums) 0)

-- the day of the first row, and that of the last, if there are rows
abbrev pub first_on : List ChargeRow → Option ℤ
first_on rows = option_map (λ row. row.day) (slice_get rows 0)

abbrev pub last_on : List ChargeRow → Option ℤ
last_on rows = option_map (λ row. row.day) (slice_get rows (length rows - 1))

-- what each day costs from that of the first row to that of the last: rows stand in the order of their
-- days
abbrev pub costs_by_day : List ChargeRow → List (ℤ × ℕ)
costs_by_day rows =
    map (λ day. (day, cost_on rows day)) (days_between (first_on rows) (last_on rows))

-- what a page shows of a period; the costs are those of its centres
pub record FiguresSeen : Type 0 where
  pub records : ℕ
  pub charged : ℕ
  pub added : ℕ
  pub reversed : ℕ
  pub credited : ℕ
  pub debited : ℕ
  pub costs : List (List ℕ × ℕ)

abbrev pub figures_seen : PeriodFigures → FiguresSeen
figures_seen figures = record {
  records = figures.records;
  charged = figures.charged;
  added = figures.added;
  reversed = figures.reversed;
  credited = figures.credited;
  debited = figures.debited;
  costs = figures.costs.entries;
}

-- the figures of a period by its charge rows, its adjustment lines and its credits: the sums of the
-- statement, what its adjustments add and what they reverse, and what its credits take off and add
abbrev pub figures_of : List ChargeRow → List Line → List Credit → FiguresSeen
figures_of rows lines credits = record {
  records = sum_by (λ row. row.count) rows;
  charged = sum_by (λ row. row.amount) rows;
  added = sum_by charged_amount lines;
  reversed = sum_by reversed_amount lines;
  credited = (credits_together credits).0;
  debited = (credits_together credits).1;
  costs = costs_of rows;
}

-- what is owed: what is charged and added, less what is reversed and credited
unfoldable pub owed_text : FiguresSeen → List ℕ
owed_text figures =
    signed_text (figures.charged + figures.added + figures.debited) (figures.reversed + figures.credited)

-- some credit comes to something
abbrev pub has_credits : FiguresSeen → Bool
has_credits figures = nat_lt 0 figures.credited || nat_lt 0 figures.debited

-- what is credited, less what credits below 0 add
unfoldable pub credits_text : FiguresSeen → List ℕ
credits_text figures = signed_text figures.credited figures.debited
