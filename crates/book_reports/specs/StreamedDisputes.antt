-- The disputes of a ledger, as a list or as a table, which are written while they are read.
use Rattle.std.specs.Prelude.{ℕ, zero, suc, ◌+◌, ◌-◌, ◌<◌, List, [], ◌∷◌, ◌++◌, length, Option}
use Rattle.std.specs.Prelude.{Result, Ok}
use Rattle.std.proofs.Common.{arith, length-append}
use Rattle.book_model.specs.Words.{Book, Disputed, Naming, Outcome, disputes_in, no_event}
use Rattle.book_core.specs.Words.{Transition}
use Rattle.report_texts.specs.DisputeLists.{dispute_lines, dispute_list_head, dispute_list_text}
use Rattle.report_texts.specs.Figures.{dispute_count}
use Rattle.report_texts.specs.DisputeTables.{dispute_rows, dispute_table, member_heading}
use Rattle.book_lists.specs.declared.fault.ReportFault.{ReportFault}
use Rattle.book_lists.specs.Streamed.{WritesAnswerUntil, WritesSome}
use Rattle.book_reports.specs.declared.what_if.StatementForm.{StatementForm}
use Rattle.book_reports.specs.StreamedRulings.{answered_by}
use Rattle.book_reports.specs.declared.what_if.StatementForm.TheVariants as form

-- how many disputes there are
abbrev pub dispute_count_outcome : Naming → Book → Outcome ℕ
dispute_count_outcome naming book = no_event (Ok (dispute_count naming book))

-- the text of some disputes
abbrev pub disputes_text : StatementForm → List Disputed → List ℕ
disputes_text form.Text disputes = dispute_list_text disputes
disputes_text form.Table disputes = dispute_table disputes

-- what stands above so many of them
abbrev pub disputes_head : StatementForm → ℕ → List ℕ
disputes_head form.Text count = dispute_list_head count
disputes_head form.Table count = member_heading

-- the lines of the one of this number, from 1
abbrev pub disputes_part : StatementForm → ℕ → Disputed → List ℕ
disputes_part form.Text number dispute = dispute_lines dispute
disputes_part form.Table number dispute = dispute_rows number dispute

-- the lines of disputes; the first has this number
abbrev pub lines_from : StatementForm → ℕ → List Disputed → List ℕ
lines_from form number [] = []
lines_from form number (dispute ∷ others) =
    disputes_part form number dispute ++ lines_from form (number + 1) others

-- so many disputes: the first of these, and blank ones where these are fewer
abbrev pub filled : ℕ → List Disputed → List Disputed
filled zero disputes = []
filled (suc more) [] = record { identity = []; members = [] } ∷ filled more []
filled (suc more) (dispute ∷ others) = dispute ∷ filled more others

-- the lines of a dispute after so many others, where so many are left with it: none where none are
abbrev pub part_left : StatementForm → ℕ → ℕ → Disputed → List ℕ
part_left form zero number dispute = []
part_left form (suc more) number dispute = disputes_part form (number + 1) dispute

-- the same where there are so many in all
abbrev pub counted_part : StatementForm → ℕ → ℕ → Disputed → List ℕ
counted_part form total number dispute = part_left form (total - number) number dispute

-- the lines that are missing below so many disputes, where there are so many in all
abbrev pub missing_lines : StatementForm → ℕ → ℕ → List ℕ
missing_lines form total number = lines_from form (number + 1) (filled (total - number) [])

-- something stands above them
pub some_above_disputes : (form : StatementForm) (count : ℕ) → 0 < length (disputes_head form count)
unfolding dispute_list_head member_heading
some_above_disputes form.Text count = simp length-append (omega arith)
some_above_disputes form.Table count = simp length-append (omega arith)

-- the text of a book's disputes
abbrev pub dispute_report : StatementForm → Naming → Book → List ℕ
dispute_report form naming book = disputes_text form (disputes_in naming book.rulings book.held)

-- it was written, or a prefix of it that is not the whole
abbrev pub WritesDisputes : StatementForm → Naming → Option (List ℕ) → Option (List ℕ)
    → Result (Unit {0}) ReportFault → Transition
WritesDisputes form = WritesAnswerUntil (answered_by (dispute_report form))

-- whatever the book is, what was written is the text of some disputes, or a prefix of one
abbrev pub WritesSomeDisputes : StatementForm → Option (List ℕ) → Option (List ℕ)
    → Result (Unit {0}) ReportFault → Type 0
WritesSomeDisputes form = WritesSome (disputes_text form)
