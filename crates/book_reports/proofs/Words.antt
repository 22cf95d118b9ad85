-- The words and lemmas that several proofs of this crate cite, from one place. Declares nothing.
pub use Rattle.sha2.specs.Sha256.{sha256}
pub use Rattle.std.proofs.KnownBytes.{Appends-nil}
pub use Rattle.std.proofs.lemmas.Iterator.{YieldsList-from_map, YieldsList-from_slice}
pub use Rattle.std.proofs.lemmas.Iterator.Adapters.{option_map_id}
pub use Rattle.std.proofs.lemmas.Result.{IfOk-weaker, on_ok_weaker}
pub use Rattle.std.specs.declared.alloc.AllocError.{AllocError}
pub use Rattle.streams.specs.Sinks.{writer_of}
pub use Rattle.book_model.specs.declared.bill.BilledLine.{BilledLine}
pub use Rattle.book_model.specs.declared.bill.BilledTariff.{BilledTariff}
pub use Rattle.book_model.specs.declared.bill.HeldBack.{HeldBack}
pub use Rattle.book_model.specs.declared.detail.Detail.{Detail}
pub use Rattle.book_model.specs.declared.fault.LedgerFault.{LedgerFault}
pub use Rattle.book_model.specs.declared.fault.LedgerFault.TheVariants.{Memory, NoSuchPeriod}
pub use Rattle.book_model.specs.declared.fault.LedgerFault.TheVariants.{NoSuchRecord}
pub use Rattle.book_model.specs.declared.line.Line.{Line}
pub use Rattle.book_model.specs.declared.row.ChargeRow.{ChargeRow}
pub use Rattle.coverage_texts.proofs.CoverageLemmas.{ends_early}
pub use Rattle.report_texts.specs.Centres.{lines_of_centre}
pub use Rattle.coverage_texts.specs.Coverage.{days_between}
pub use Rattle.report_texts.specs.Figures.{figures_by, number_after}
pub use Rattle.report_texts.specs.RulingLists.{ruling_line, ruling_list_text}
pub use Rattle.coverage_texts.specs.declared.coverage_rows.CoverageRow.{CoverageRow}
pub use Rattle.coverage_texts.specs.declared.coverage_rows.SystemDetail.{SystemDetail}
pub use Rattle.report_texts.specs.declared.figures.Figures.{Figures}
pub use Rattle.page_texts.specs.Figures.{figures_of, figures_seen}
pub use Rattle.page_texts.specs.OfficePage.{office_page_text}
pub use Rattle.page_texts.specs.PeriodPage.{period_page_text}
pub use Rattle.book_lists.proofs.AnsweringLemmas.{answer_unread}
pub use Rattle.book_lists.proofs.CursorLemmas.{folded, map_push, map_same}
pub use Rattle.book_lists.proofs.ReadingLemmas.{IsAlike, IsReading, Tells, by_names, call_failed}
pub use Rattle.book_lists.proofs.ReadingLemmas.{fault_alike, fault_tells, passed_on, read_as}
pub use Rattle.book_lists.proofs.ReadingLemmas.{read_then}
pub use Rattle.book_lists.proofs.ShownLemmas.{Shows, answers, answers_none, both_shown}
pub use Rattle.book_lists.proofs.ShownLemmas.{refused_next, shown, shown_as, then_shown, then_stays}
pub use Rattle.book_lists.proofs.WritingLemmas.{same_value}
pub use Rattle.book_lists.proofs.WrittenListLemmas.{parts_as, parts_each, some_by, then_written}
pub use Rattle.book_lists.specs.Cursors.{Folds}
pub use Rattle.book_lists.specs.Faults.{report_fault_of}
pub use Rattle.book_lists.specs.Streamed.{WritesAnswerUntil}
pub use Rattle.book_lists.specs.TariffsInTurn.{tariff_shown}
pub use Rattle.book_lists.specs.Writing.{WritesTexts}
pub use Rattle.book_lists.specs.WrittenLists.{list_answer, list_text, parts_from}
pub use Rattle.book_lists.specs.declared.fault.ReportFault.{ReportFault}
pub use Rattle.book_reports.specs.BillLines.{billed_outcome}
pub use Rattle.book_reports.specs.BillTariffs.{HasKept, kept_of, left_by, tariffs_billed}
pub use Rattle.book_reports.specs.BillTariffs.{tariffs_outcome, tariffs_shown}
pub use Rattle.book_reports.specs.BillWork.{work_outcome, work_seen, work_shown}
pub use Rattle.book_reports.specs.BookTexts.{IsMadeOf, closed_through, closed_through_outcome}
pub use Rattle.book_reports.specs.BookTexts.{report_outcome, shown_by}
pub use Rattle.book_reports.specs.CoverageSums.{IsCoverageOf, SystemDetails, row_on, rows_on}
pub use Rattle.book_reports.specs.Figures.{lines_outcome}
pub use Rattle.book_reports.specs.RecordNames.{name_in, name_length}
pub use Rattle.book_reports.specs.StreamedRulings.{WritesRulings, answered_by}
pub use Rattle.book_reports.specs.StreamedDetails.{details_end, details_head, details_part}
pub use Rattle.book_reports.specs.StreamedDetails.{details_text, sums_of}
pub use Rattle.book_reports.specs.StreamedDisputes.{counted_part, dispute_count_outcome}
pub use Rattle.book_reports.specs.StreamedDisputes.{disputes_text, filled, missing_lines}
pub use Rattle.book_reports.specs.SystemDetails.{next_on_system}
