-- The text of details, which is written as they are read.
use Rattle.std.proofs.Common.{◌≡◌, ◌∙◌, ℕ, ◌<◌, ℤ, List, ◌++◌, length, refl, sym, ap, subst}
use Rattle.std.proofs.Common.{append-nil, Option, Result, Ok, Err, inl, inr, flat_map}
use Rattle.book_model.specs.Words.{Book, Naming, begun_in, details_outcome}
use Rattle.book_core.specs.Words.{Seen, IsCall, IsTransition}
use Rattle.report_texts.specs.DetailTables.{detail_row, details_heading}
use Rattle.book_lists.proofs.CursorLemmas.{shown_back}
use Rattle.book_lists.proofs.WrittenListLemmas.{text_some}
use Rattle.book_reports.specs.declared.streamed_details.DetailReport.{DetailReport}
use Rattle.book_reports.specs.declared.what_if.StatementForm.{StatementForm}
use Rattle.book_reports.proofs.Words.{Detail, LedgerFault, ReportFault, report_fault_of}
use Rattle.book_reports.proofs.Words.{WritesAnswerUntil, list_answer, list_text, answer_unread}
use Rattle.book_reports.proofs.Words.{shown, parts_each, then_written, closed_through, shown_by}
use Rattle.book_reports.proofs.Words.{details_end, details_head, details_part, details_text}
use Rattle.book_reports.proofs.Words.{sums_of}
use Rattle.book_reports.proofs.KnownCentreLemmas.{is_open, is_passed, is_shut, its_day}
use Rattle.book_reports.specs.KnownCentres.{known_through_outcome}
use Rattle.book_reports.specs.StreamedDetails.{WritesDetails, detail_answer, details_answer}
use Rattle.book_reports.specs.StreamedDetails.{end_in, head_in, part_in, some_above_details}
use Rattle.book_reports.specs.StreamedDetails.{text_in}
use Rattle.book_reports.specs.declared.what_if.StatementForm.TheVariants as form

-- the parts are the text
whole_in : (shape : StatementForm) (report : DetailReport) (through : Option ℤ)
    (details : List Detail)
    → (head_in shape report through ++ flat_map (part_in shape report) details)
    ++ end_in shape (sums_of details)
    ≡ text_in shape report through details
whole_in form.Text report through details = refl
whole_in form.Table report through details =
    append-nil (details_heading ++ flat_map (detail_row report.period) details)

pub whole_text : (report : DetailReport) (through : Option ℤ) (details : List Detail)
    → (details_head report through ++ flat_map (details_part report) details)
    ++ details_end report (sums_of details)
    ≡ details_text report through details
whole_text report through details = whole_in report.form report through details

-- a list of details is written by its parts
pub details_written : (report : DetailReport) (through : Option ℤ) (details : List Detail)
    → list_text (details_head report through) (λ number. details_part report)
    (λ details. details_end report (sums_of details)) details
    ≡ details_text report through details
details_written report through details =
    ap (λ lines. (details_head report through ++ lines) ++ details_end report (sums_of details))
    (parts_each (details_part report) 0 details)
    ∙ whole_text report through details

-- the details of a centre that is there are those that are answered of any
pub details_told : (report : DetailReport) (naming : Naming) (book : Book) (through : Option ℤ)
    → (known_through_outcome report.period report.centre book).answer ≡ Ok through
    → detail_answer report naming book ≡ details_answer report naming book
details_told report naming book through known =
    is_open (begun_in report.period book.rulings) report.centre (closed_through book report.period)
    through (details_answer report naming book) known

-- where the day is not answered, the centre is not there
pub none_read : (report : DetailReport) (old new : Seen) (fault : LedgerFault)
    (held : Option (List ℕ))
    → IsCall (λ day. day) old new (Err fault) (known_through_outcome report.period report.centre)
    → IsTransition old new
    (WritesDetails report old.naming held held (Err (report_fault_of fault)))
none_read report old new fault held call =
    answer_unread (λ book. refl) fault call (detail_answer report) held
    (λ book text is.
    let through = closed_through book report.period in
    let it = shown_back (details_text report through)
    (details_outcome old.naming report.period report.centre book).answer text
    (is_passed (begun_in report.period book.rulings) report.centre
    (details_answer report old.naming book) text is) in
    subst (λ text. 0 < length text) (details_written report through it.0 ∙ it.2)
    (text_some (details_head report through) (λ number. details_part report)
    (λ details. details_end report (sums_of details)) (some_above_details report through) it.0))
    (λ book said. elim said [
      | inl hinders ↦ inl hinders
      | inr is ↦
          inr (is_shut (begun_in report.period book.rulings) report.centre
          (closed_through book report.period) (details_answer report old.naming book) is)
    ])

-- the details that are written after the day was read are those of the book
pub details_then : (report : DetailReport) (old mid new : Seen) (through : Option ℤ)
    (held holds : Option (List ℕ)) (result : Result (Unit {0}) ReportFault)
    → IsCall (λ day. day) old mid (Ok through)
    (known_through_outcome report.period report.centre)
    → IsTransition mid new
    (WritesAnswerUntil (list_answer (details_head report through) (λ number. details_part report)
    (λ details. details_end report (sums_of details))
    (λ naming book. (details_outcome naming report.period report.centre book).answer))
    mid.naming held holds result)
    → IsTransition old new (WritesDetails report old.naming held holds result)
details_then report old mid new through held holds result day work =
    then_written (shown (λ book. refl) day) (detail_answer report)
    (λ book known.
    same_text (details_outcome old.naming report.period report.centre book).answer
    (closed_through book report.period) (its_day report.period report.centre book through known)
    ∙ sym (details_told report old.naming book through known))
    work
  where
    same_text : (details : Result (List Detail) LedgerFault) (day : Option ℤ) → day ≡ through
        → shown_by (list_text (details_head report through) (λ number. details_part report)
        (λ details. details_end report (sums_of details))) details
        ≡ shown_by (details_text report day) details
    same_text (Ok details) day is =
        ap Ok (details_written report through details
        ∙ ap (λ day. details_text report day details) (sym is))
    same_text (Err fault) day is = refl
