-- The words and lemmas that several proofs of this crate cite, from one place. Declares nothing.
pub use Rattle.httparse.specs.Grammar.{HasNoRequest, MayBecomeRequest, RequestHead}
pub use Rattle.httparse.specs.Spans.{header_bytes}
pub use Rattle.httparse.specs.declared.spans.HeaderSpan.{HeaderSpan}
pub use Rattle.std.proofs.KnownBytes.{Appends-trans}
pub use Rattle.std.proofs.Math.Seq.{take-append-add, take-append_seam}
pub use Rattle.std.proofs.lemmas.Int.Digits.{digits_more, digits_value_more}
pub use Rattle.std.proofs.lemmas.Str.Parse.{digit_at, digits_value_short, numerals_by_value}
pub use Rattle.std.specs.Char.{digit_value, is_ascii_digit}
pub use Rattle.std.specs.Int.{IsInRange}
pub use Rattle.std.specs.Io.KnownBytes.{Appends}
pub use Rattle.std.specs.Str.{is_utf8}
pub use Rattle.std.specs.Str.Parse.{AllDigits, digits_value}
pub use borrow.Rule.Slice.PartMut.{put_mid}
pub use Rattle.streams.specs.Sinks.{writer_of}
pub use Rattle.streams.specs.Sources.{has_ended, has_failed, reads_of}
pub use Rattle.book_model.specs.declared.fault.LedgerFault.{LedgerFault}
pub use Rattle.book_core.proofs.TransitionLemmas.{no_work, work_as, work_then}
pub use Rattle.book_lists.proofs.ReadingLemmas.{fault_alike, goes_on}
pub use Rattle.book_lists.specs.Streamed.{WritesAnswerUntil, WritesUntilOrRefuses, refusal_in}
pub use Rattle.book_lists.specs.declared.fault.ReportFault.{ReportFault}
pub use Rattle.book_lists.specs.declared.fault.ReportFault.TheVariants.{Ledger, Memory, Write}
pub use Rattle.book_import.specs.Dumps.{stop_after}
pub use Rattle.book_import.specs.Imports.{Handles}
pub use Rattle.book_import.specs.declared.receipt.Receipt.{Receipt}
pub use Rattle.book_model.specs.declared.note.Stop.{Stop}
pub use Rattle.book_reports.specs.BookTexts.{report_outcome, shown_by}
pub use Rattle.book_reports.specs.StreamedDetails.{detail_answer, detail_length_outcome}
pub use Rattle.book_reports.specs.StreamedDetails.{detail_text_outcome}
pub use Rattle.book_reports.specs.WhatIfTexts.{what_if_report}
pub use Rattle.book_reports.specs.declared.streamed_details.DetailReport.{DetailReport}
pub use Rattle.book_reports.specs.declared.what_if.StatementForm.{StatementForm}
pub use Rattle.book_reports.specs.declared.what_if.WhatIf.{WhatIf}
pub use Rattle.report_rows.specs.ReportRows.{report_about, Row, kind_in}
pub use Rattle.report_rows.specs.declared.about.About.{About}
pub use Rattle.report_rows.specs.declared.report_row.BodyKind.{BodyKind}
pub use Rattle.report_rows.specs.declared.report_row.ReportName.{ReportName}
pub use Rattle.report_rows.specs.declared.report_row.Shape.{Shape}
pub use Rattle.report_rows.specs.declared.report_row.Shape.TheVariants.{OfCentre, OfDay, OfOffice}
pub use Rattle.report_rows.specs.declared.report_row.Shape.TheVariants.{OfPeriod, OfRecord}
pub use Rattle.office.specs.Requests.{Response, Text, response_by, response_outcome, whole_dump}
pub use Rattle.book_http.specs.Answer.{Answers, AnswersAsked, AnswersDetails, AnswersImport}
pub use Rattle.book_http.specs.Answer.{AnswersOffice, AnswersReport, AnswersWhatIf, Prices}
pub use Rattle.book_http.specs.Answer.{RefusesRequest, UnlessBad, a_head, done, form_kind, gathered}
pub use Rattle.book_http.specs.Answer.{most_gathered, no_head, no_memory, office_reply}
pub use Rattle.book_http.specs.AnswerHead.{answer_head}
pub use Rattle.book_http.specs.Asked.{asked, whole_report}
pub use Rattle.book_http.specs.Bodies.{BodyComes}
pub use Rattle.book_http.specs.Head.{HasHead, NoHeadComes}
pub use Rattle.book_http.specs.Laws.{IsUnhindered}
pub use Rattle.book_http.specs.Paths.{IsPathPeriod, Names, front_of, period_text, shape_of}
pub use Rattle.book_http.specs.Reads.{IsDueForBody, IsDueForHead, ReadsOn, for_head}
pub use Rattle.book_http.specs.Replies.{Reply, refusal, reply_of}
pub use Rattle.book_http.specs.Requested.{AnswersRequest, IsAsking, RequestSeen, Settles}
pub use Rattle.book_http.specs.Requested.{WantsDetails, WantsImport, WantsReport, WantsWhatIf}
pub use Rattle.book_http.specs.Requested.{WholeRequest, headed, headless, request_seen, wanted_by}
pub use Rattle.book_http.specs.Routes.{after_slash, before_slash, period, period_by, period_of_all}
pub use Rattle.book_http.specs.Routes.{period_of_centre, route, rows_with}
pub use Rattle.book_http.specs.Served.{AnswersLong, IsMeasured, SendsAsRead, SendsReplyAsRead}
pub use Rattle.book_http.specs.Served.{is_unanswered}
