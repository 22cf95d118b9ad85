-- The details of a period, or of one centre in it, as a list or as a table, which are written while
-- they are read.
use Rattle.std.specs.Prelude.{ℕ, ◌+◌, ◌<◌, ◌^◌, List, [], length, sum_by, Option, Result, ℤ}
use Rattle.std.proofs.Common.{arith, length-append}
use Rattle.book_model.specs.declared.detail.Detail.{Detail}
use Rattle.book_model.specs.declared.fault.LedgerFault.{LedgerFault}
use Rattle.book_model.specs.Words.{Book, Naming, Outcome, begun_in, details_outcome, no_event}
use Rattle.book_model.specs.Words.{of_centre}
use Rattle.book_core.specs.Words.{Transition}
use Rattle.report_texts.specs.DetailLists.{detail_head, detail_line, detail_list_text, detail_total}
use Rattle.report_texts.specs.Periods.{title_line}
use Rattle.report_texts.specs.DetailTables.{detail_row, detail_table, details_heading}
use Rattle.book_lists.specs.declared.fault.ReportFault.{ReportFault}
use Rattle.book_lists.specs.Streamed.{WritesAnswerUntil, WritesSome}
use Rattle.book_reports.specs.declared.streamed_details.DetailReport.{DetailReport}
use Rattle.book_reports.specs.declared.streamed_details.Sums.{Sums}
use Rattle.book_reports.specs.declared.what_if.StatementForm.{StatementForm}
use Rattle.book_reports.specs.BookTexts.{closed_through, shown_by}
use Rattle.book_reports.specs.declared.what_if.StatementForm.TheVariants as form

-- the text of some details, by the day that the period was closed through, if it was
abbrev pub text_in : StatementForm → DetailReport → Option ℤ → List Detail → List ℕ
text_in form.Text report through details =
    detail_list_text report.centre report.period through details
text_in form.Table report through details = detail_table report.period details

abbrev pub details_text : DetailReport → Option ℤ → List Detail → List ℕ
details_text report = text_in report.form report

-- what stands above them
abbrev pub head_in : StatementForm → DetailReport → Option ℤ → List ℕ
head_in form.Text report through = detail_head report.centre report.period through
head_in form.Table report through = details_heading

abbrev pub details_head : DetailReport → Option ℤ → List ℕ
details_head report = head_in report.form report

-- the line of one of them
abbrev pub part_in : StatementForm → DetailReport → Detail → List ℕ
part_in form.Text report detail = detail_line detail
part_in form.Table report detail = detail_row report.period detail

abbrev pub details_part : DetailReport → Detail → List ℕ
details_part report = part_in report.form report

-- what stands below them, by what they come to
abbrev pub end_in : StatementForm → Sums → List ℕ
end_in form.Text sums = detail_total sums.count sums.cpu sums.blocks sums.amount
end_in form.Table sums = []

abbrev pub details_end : DetailReport → Sums → List ℕ
details_end report = end_in report.form

-- what some details come to
abbrev pub sums_of : List Detail → Sums
sums_of details = record {
  count = length details;
  cpu = sum_by (λ detail. detail.priced.cpu) details;
  blocks = sum_by (λ detail. detail.priced.excp) details;
  amount = sum_by (λ detail. detail.priced.amount) details;
}

-- and that with one more
abbrev pub with_detail : Sums → Detail → Sums
with_detail sums detail = record {
  count = sums.count + 1;
  cpu = sums.cpu + detail.priced.cpu;
  blocks = sums.blocks + detail.priced.excp;
  amount = sums.amount + detail.priced.amount;
}

-- 64 bits hold each sum then
pub record FitsDetail (sums : Sums) (detail : Detail) : Type 0 where
  pub count : sums.count + 1 < 2 ^ 64
  pub cpu : sums.cpu + detail.priced.cpu < 2 ^ 64
  pub blocks : sums.blocks + detail.priced.excp < 2 ^ 64
  pub amount : sums.amount + detail.priced.amount < 2 ^ 64

-- what a book answers to them, whatever the centre is: their text, or that it has no such period
abbrev pub details_answer : DetailReport → Naming → Book → Result (List ℕ) LedgerFault
details_answer report naming book =
    shown_by (details_text report (closed_through book report.period))
    (details_outcome naming report.period report.centre book).answer

-- the same of a centre that is there, or of the whole office
abbrev pub detail_answer : DetailReport → Naming → Book → Result (List ℕ) LedgerFault
detail_answer report naming book =
    of_centre (begun_in report.period book.rulings) report.centre (details_answer report naming book)

-- the same as one call of a ledger, and how many bytes that text has
abbrev pub detail_text_outcome : DetailReport → Naming → Book → Outcome (List ℕ)
detail_text_outcome report naming book = no_event (detail_answer report naming book)

abbrev pub detail_length_outcome : DetailReport → Naming → Book → Outcome ℕ
detail_length_outcome report naming book = no_event (shown_by length (detail_answer report naming book))

-- their text was written, or a prefix of it that is not the whole
abbrev pub WritesDetails : DetailReport → Naming → Option (List ℕ) → Option (List ℕ)
    → Result (Unit {0}) ReportFault → Transition
WritesDetails report = WritesAnswerUntil (detail_answer report)

-- whatever the book is, what was written is the text of some details, or a prefix of one
abbrev pub WritesSomeDetails : DetailReport → Option (List ℕ) → Option (List ℕ)
    → Result (Unit {0}) ReportFault → Type 0
WritesSomeDetails report =
    WritesSome {X = Option ℤ × List Detail} (λ of. details_text report of.0 of.1)

-- something stands above them
some_above_in : (shape : StatementForm) (report : DetailReport) (through : Option ℤ)
    → 0 < length (head_in shape report through)
unfolding title_line details_heading
some_above_in form.Text report through = simp length-append (omega arith)
some_above_in form.Table report through = simp length-append (omega arith)

pub some_above_details : (report : DetailReport) (through : Option ℤ)
    → 0 < length (details_head report through)
some_above_details report through = some_above_in report.form report through
