-- What a bill charges: for steps and for jobs, what came late, what was reversed, and what is credited;
-- all that it has, and what one centre has of that.
use Rattle.std.specs.Prelude.{ℕ, ◌+◌, ◌<◌, ◌^◌, All, List, ◌++◌, map, sum_by, pos, int_lt}
use Rattle.std.specs.Prelude.{if◌then◌else◌, unsigned_abs}
use Rattle.std.specs.Option.{ForSome}
use Rattle.book_model.specs.declared.bill.BilledLine.{BilledLine}
use Rattle.book_model.specs.declared.line.Line.{Line}
use Rattle.book_model.specs.declared.row.ChargeRow.{ChargeRow}
use Rattle.book_model.specs.Words.{AreLines, AreRows, BillSeen, Credit, IsDay, by_bytes, members}
use Rattle.book_model.specs.Words.{set_of}
use Rattle.report_texts.specs.AdjustmentLists.{charged_amount, reversed_amount, signed_text}
use Rattle.report_texts.specs.Centres.{credits_of_centre, lines_of_centre, rows_of_centre}
use Rattle.report_texts.specs.declared.charges.CentreCharges.{CentreCharges}
use Rattle.report_texts.specs.declared.charges.Charges.{Charges}
use Rattle.report_texts.specs.declared.charges.CreditAmount.{CreditAmount}

-- a bill's lines, as a list of adjustments has them
abbrev pub plain_lines : List BilledLine → List Line
plain_lines billed = map (λ one. one.line) billed

-- a credit by its centre: what it takes off what is owed; one below 0 adds to that
abbrev pub plain_credit : Credit → CreditAmount
plain_credit credit = record {
  centre = credit.centre;
  credited = if int_lt credit.amount (pos 0) then 0 else unsigned_abs credit.amount;
  debited = if int_lt credit.amount (pos 0) then unsigned_abs credit.amount else 0;
}

abbrev pub plain_credits : List Credit → List CreditAmount
plain_credits credits = map plain_credit credits

-- what credits take off together, and what those below 0 add
abbrev pub credits_together : List Credit → ℕ × ℕ
credits_together credits = (
  sum_by (λ credit. credit.credited) (plain_credits credits),
  sum_by (λ credit. credit.debited) (plain_credits credits),
)

-- what rows of steps, rows of jobs, lines and credits charge, in ten-thousandths of the money unit
abbrev pub charges_of : List ChargeRow → List ChargeRow → List Line → List CreditAmount → Charges
charges_of steps jobs lines credits = record {
  steps = sum_by (λ row. row.amount) steps;
  jobs = sum_by (λ row. row.amount) jobs;
  late = sum_by charged_amount lines;
  reversed = sum_by reversed_amount lines;
  credited = sum_by (λ credit. credit.credited) credits;
  debited = sum_by (λ credit. credit.debited) credits;
}

-- what the centre is charged of that
abbrev pub charges_of_centre :
    List ℕ → List ChargeRow → List ChargeRow → List Line → List CreditAmount → Charges
charges_of_centre centre steps jobs lines credits =
    charges_of (rows_of_centre centre steps) (rows_of_centre centre jobs)
    (lines_of_centre centre lines) (credits_of_centre centre credits)

-- the centres of rows, lines and credits, each once and in order
abbrev pub centres_of :
    List ChargeRow → List ChargeRow → List Line → List CreditAmount → List (List ℕ)
centres_of steps jobs lines credits =
    members (set_of by_bytes
    (map (λ row. row.centre) steps ++ map (λ row. row.centre) jobs
    ++ map (λ line. line.priced.centre) lines ++ map (λ credit. credit.centre) credits))

-- what each centre of a bill is charged, in the order of the centres, and what all of them are
abbrev pub centre_charges :
    List ChargeRow → List ChargeRow → List Line → List CreditAmount → List ℕ → CentreCharges
centre_charges steps jobs lines credits centre =
    record { centre = centre; charges = charges_of_centre centre steps jobs lines credits }

-- the centres of a bill
abbrev pub centres_on : BillSeen → List (List ℕ)
centres_on bill =
    centres_of bill.steps bill.jobs (plain_lines bill.lines) (plain_credits bill.credits)

-- what one of them is charged
abbrev pub charges_on : BillSeen → List ℕ → CentreCharges
charges_on bill centre =
    centre_charges bill.steps bill.jobs (plain_lines bill.lines) (plain_credits bill.credits) centre

abbrev pub each_charges : BillSeen → List CentreCharges
each_charges bill = map (charges_on bill) (centres_on bill)

abbrev pub all_charges : BillSeen → Charges
all_charges bill =
    charges_of bill.steps bill.jobs (plain_lines bill.lines) (plain_credits bill.credits)

-- all that is charged, with what credits below 0 add, and all that is taken off it
abbrev pub charged_in : Charges → ℕ
charged_in charges = charges.steps + charges.jobs + charges.late + charges.debited

abbrev pub taken_in : Charges → ℕ
taken_in charges = charges.reversed + charges.credited

-- the sum owed
unfoldable pub owed_text : Charges → List ℕ
owed_text charges = signed_text (charged_in charges) (taken_in charges)

-- what is credited, less what credits below 0 add
unfoldable pub credits_text : Charges → List ℕ
credits_text charges = signed_text charges.credited charges.debited

-- both fit 64 bits
pub record FitCharges (charges : Charges) : Type 0 where
  pub charged : charged_in charges < 2 ^ 64
  pub taken : taken_in charges < 2 ^ 64

-- what credits come to, whatever their signs, fits 62 bits
abbrev pub FitCredits : List CreditAmount → Type 0
FitCredits credits = sum_by (λ credit. credit.credited + credit.debited) credits < 2 ^ 62

-- a bill that can be shown: its rows and its lines can, the period before was closed through a day,
-- its tariffs begin on days, and 64 bits hold all that it charges, and all that it takes off that
pub record IsBill (bill : BillSeen) : Type 0 where
  pub steps : AreRows bill.steps
  pub jobs : AreRows bill.jobs
  pub lines : AreLines (plain_lines bill.lines)
  pub before : ForSome bill.before IsDay
  pub tariffs : All (λ tariff. IsDay tariff.day) bill.tariffs
  pub shifts : All (λ shift. IsDay shift.day) bill.shifts
  pub amount : sum_by (λ row. row.amount) bill.steps + sum_by (λ row. row.amount) bill.jobs < 2 ^ 62
  pub credits : FitCredits (plain_credits bill.credits)
