-- Amounts by centre: what each centre has of a bill, as one pass over its rows, its lines and its
-- credits adds it up.
use Rattle.std.specs.Prelude.{◌≡◌, ℕ, ◌+◌, Bool, true, false, if◌then◌else◌, List, sum_by, unwrap_or}
use Rattle.std.specs.BTreeMap.{is_at}
use Rattle.std.specs.Map.{lookup}
use Rattle.book_model.specs.declared.line.Line.{Line}
use Rattle.book_model.specs.declared.row.ChargeRow.{ChargeRow}
use Rattle.book_model.specs.Words.{by_bytes, same_bytes}
use Rattle.report_texts.specs.AdjustmentLists.{charged_amount, reversed_amount}
use Rattle.report_texts.specs.Centres.{credits_of_centre, lines_of_centre, rows_of_centre}
use Rattle.report_texts.specs.declared.centre_amounts.CentreAmounts.{CentreAmounts}
use Rattle.report_texts.specs.declared.charges.Charges.{Charges}
use Rattle.report_texts.specs.declared.charges.CreditAmount.{CreditAmount}

-- what a centre has among amounts by centre, nothing where it is not there
abbrev pub cost_among : List (List ℕ × ℕ) → List ℕ → ℕ
cost_among amounts centre = unwrap_or (lookup (is_at (by_bytes centre)) amounts) 0

-- what a centre has there, once one more amount has joined what its centre has
abbrev pub with_amount : List (List ℕ × ℕ) → List ℕ → ℕ → List ℕ → ℕ
with_amount amounts joined amount centre =
    cost_among amounts centre + (if same_bytes joined centre then amount else 0)

-- each centre has its own amount there
abbrev pub AreAmounts : List (List ℕ × ℕ) → (List ℕ → ℕ) → Type 0
AreAmounts amounts own = (centre : List ℕ) → cost_among amounts centre ≡ own centre

-- what the rows of a centre come to, and what its lines charge and reverse
abbrev pub cost_of : List ChargeRow → List ℕ → ℕ
cost_of rows centre = sum_by (λ row. row.amount) (rows_of_centre centre rows)

abbrev pub side_amount : Bool → Line → ℕ
side_amount true = reversed_amount
side_amount false = charged_amount

abbrev pub line_amount : Bool → List Line → List ℕ → ℕ
line_amount is_reversed lines centre = sum_by (side_amount is_reversed) (lines_of_centre centre lines)

-- what its credits add, and what they take off
abbrev pub credit_side : Bool → CreditAmount → ℕ
credit_side true credit = credit.debited
credit_side false credit = credit.credited

abbrev pub credit_amount : Bool → List CreditAmount → List ℕ → ℕ
credit_amount is_debited credits centre =
    sum_by (credit_side is_debited) (credits_of_centre centre credits)

-- each centre has what it is charged of rows of steps, rows of jobs, lines and credits
pub record AreCharges (amounts : CentreAmounts) (step_rows job_rows : List ChargeRow)
    (lines : List Line) (credits : List CreditAmount) : Type 0 where
  pub steps : AreAmounts amounts.steps.entries (cost_of step_rows)
  pub jobs : AreAmounts amounts.jobs.entries (cost_of job_rows)
  pub late : AreAmounts amounts.late.entries (line_amount false lines)
  pub reversed : AreAmounts amounts.reversed.entries (line_amount true lines)
  pub credited : AreAmounts amounts.credited.entries (credit_amount false credits)
  pub debited : AreAmounts amounts.debited.entries (credit_amount true credits)

-- what a centre is charged by the amounts
abbrev pub charges_among : CentreAmounts → List ℕ → Charges
charges_among amounts centre = record {
  steps = cost_among amounts.steps.entries centre;
  jobs = cost_among amounts.jobs.entries centre;
  late = cost_among amounts.late.entries centre;
  reversed = cost_among amounts.reversed.entries centre;
  credited = cost_among amounts.credited.entries centre;
  debited = cost_among amounts.debited.entries centre;
}
