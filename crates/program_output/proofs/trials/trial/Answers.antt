use Rattle.std.proofs.Common.{◌≡◌, [], ◌∷◌, ◌∙◌, ap, refl, Result, Ok, Err}
use Rattle.std.proofs.lemmas.Result.{err_from_is_err_and}
use Rattle.streams.specs.Sinks.{writer_of}
use Rattle.book_model.specs.Words.{charges_outcome}
use Rattle.report_texts.specs.Statements.{statement_text}
use Rattle.plain_ledger.specs.LedgerBook.{ledger_book}
use Rattle.book_import.specs.declared.receipt.Receipt.{Receipt}
use Rattle.book_import.specs.ReadLimits.{cut_of}
use Rattle.book_lists.specs.declared.fault.ReportFault.{ReportFault}
use Rattle.book_lists.specs.Writing.{is_write_or_memory}
use Rattle.book_lists.proofs.WritingLemmas.{memory_not_write, others_unwritten, others_written}
use Rattle.book_reports.specs.ReceiptLines.{receipt_line_text}
use Rattle.book_reports.specs.BookTexts.{dispute_text, open_statement, shown_by, closed_through}
use Rattle.book_reports.proofs.BookLemmas.{first_statement}
use Rattle.book_reports.proofs.ReportLemmas.{report_fault, report_stays, report_writes}
use Rattle.program_output.proofs.TrialLemmas.{IsBooked, is_booked, never_closed, is_trial}
use Rattle.program_output.proofs.TrialLemmas.{no_trial, texts_written}
use Rattle.program_output.proofs.trials.trial.Given.{Over}
use Rattle.program_output.proofs.trials.trial.Goals as goal
use Rattle.program_output.proofs.trials.trial.Goals.{After-import_by_pieces-receipt}

-- what the import made of the new books
booked : (g : Over) (c : After-import_by_pieces-receipt g)
    → IsBooked c.args.tariff c.args.layout (cut_of c.import_by_pieces-receipt.new.source)
    c.import_by_pieces-receipt.ensures.booked.0 c.import_by_pieces-receipt.result
    (ledger_book c.import_by_pieces-receipt.new.ledger)
booked g c =
    is_booked c.args.tariff c.args.layout (cut_of c.import_by_pieces-receipt.new.source)
    c.import_by_pieces-receipt.ensures.booked.0 c.import_by_pieces-receipt.result _
    (ledger_book c.in_ok-ledger.ledger) (ledger_book c.import_by_pieces-receipt.new.ledger)
    c.in_ok-ledger.ensures.book c.import_by_pieces-receipt.ensures.booked.2

pub returns-in_err-ledger-clause-trial : goal.returns-in_err-ledger-clause-trial
returns-in_err-ledger-clause-trial g c =
    let failed = err_from_is_err_and c.from_residual.result c.from_residual.ensures.1 in
    rw failed.1 (no_trial _ failed.0 (memory_not_write failed.2) refl
    c.requires.unread c.requires.unended)

-- no period of these books was closed: their statement is that of the open one
first : (g : Over) (c : After-import_by_pieces-receipt g)
    → shown_by (statement_text 1 (closed_through (ledger_book c.import_by_pieces-receipt.new.ledger) 1))
    (charges_outcome 1 (ledger_book c.import_by_pieces-receipt.new.ledger)).answer
    ≡ Ok (open_statement (ledger_book c.import_by_pieces-receipt.new.ledger))
first g c =
    let book = ledger_book c.import_by_pieces-receipt.new.ledger in
    first_statement book
    (never_closed c.args.tariff c.args.layout (cut_of c.import_by_pieces-receipt.new.source)
    c.import_by_pieces-receipt.ensures.booked.0 c.import_by_pieces-receipt.result book (booked g c))

pub returns-in_err-receipt_line-clause-trial : goal.returns-in_err-receipt_line-clause-trial
returns-in_err-receipt_line-clause-trial g c =
    let answer = c.from_residual-in_err-receipt_line in
    let failed = err_from_is_err_and answer.result answer.ensures.1 in
    let book = ledger_book c.import_by_pieces-receipt.new.ledger in
    let import = c.import_by_pieces-receipt.ensures in
    let receipt = c.in_err-receipt_line.ensures.text in
    let written = others_unwritten failed.0 (open_statement book ∷ dispute_text book ∷ [])
    (rw failed.2 receipt) in
    rw failed.1
    (is_trial c.import_by_pieces-receipt.result import.booked.0 import.booked.1
    (booked g (goal.at.returns-in_err-receipt_line-clause-trial g c).After-import_by_pieces-receipt)
    written tt)

pub returns-in_err-statement-clause-trial : goal.returns-in_err-statement-clause-trial
returns-in_err-statement-clause-trial g c =
    let answer = c.from_residual-in_err-statement in
    let failed = err_from_is_err_and answer.result answer.ensures.1 in
    let book = ledger_book c.import_by_pieces-receipt.new.ledger in
    let import = c.import_by_pieces-receipt.ensures in
    let end = g.W.Write.contents (writer_of c.statement.new.sink) in
    let refused : Result Receipt ReportFault = Err failed.0 in
    let statement =
    others_unwritten failed.0 (dispute_text book ∷ [])
    (rw failed.2 (report_writes c.in_err-statement.ensures.report (open_statement book)
    (first g (goal.at.returns-in_err-statement-clause-trial g c).After-import_by_pieces-receipt))) in
    let written =
    others_written (receipt_line_text c.import_by_pieces-receipt.result)
    (open_statement book ∷ dispute_text book ∷ []) _ _ end refused
    c.in_ok-receipt_line.ensures.text statement in
    rw failed.1
    (is_trial c.import_by_pieces-receipt.result import.booked.0 import.booked.1
    (booked g (goal.at.returns-in_err-statement-clause-trial g c).After-import_by_pieces-receipt)
    written tt)

pub returns-in_err-dispute_list-clause-trial : goal.returns-in_err-dispute_list-clause-trial
returns-in_err-dispute_list-clause-trial g c =
    let answer = c.from_residual-in_err-dispute_list in
    let failed = err_from_is_err_and answer.result answer.ensures.1 in
    let book = ledger_book c.import_by_pieces-receipt.new.ledger in
    let import = c.import_by_pieces-receipt.ensures in
    let end = g.W.Write.contents (writer_of c.dispute_list.new.sink) in
    let after = ledger_book c.statement.new.ledger in
    let written =
    texts_written c.import_by_pieces-receipt.result book after _ _ _ end (Err failed.0)
    (report_stays c.in_ok-statement.ensures.report refl) c.in_ok-receipt_line.ensures.text
    (report_writes c.in_ok-statement.ensures.report (open_statement book)
    (first g (goal.at.returns-in_err-dispute_list-clause-trial g c).After-import_by_pieces-receipt))
    (rw failed.2 (report_writes c.in_err-dispute_list.ensures.report (dispute_text after) refl)) in
    rw failed.1
    (is_trial c.import_by_pieces-receipt.result import.booked.0 import.booked.1
    (booked g (goal.at.returns-in_err-dispute_list-clause-trial g c).After-import_by_pieces-receipt)
    written tt)

pub returns-clause-trial : goal.returns-clause-trial
returns-clause-trial g c =
    let book = ledger_book c.import_by_pieces-receipt.new.ledger in
    let import = c.import_by_pieces-receipt.ensures in
    let end = g.W.Write.contents (writer_of c.dispute_list.new.sink) in
    let after = ledger_book c.statement.new.ledger in
    let written =
    texts_written c.import_by_pieces-receipt.result book after _ _ _ end
    (Ok c.import_by_pieces-receipt.result)
    (report_stays c.in_ok-statement.ensures.report refl) c.in_ok-receipt_line.ensures.text
    (report_writes c.in_ok-statement.ensures.report (open_statement book)
    (first g (goal.at.returns-clause-trial g c).After-import_by_pieces-receipt))
    (report_writes c.in_ok-dispute_list.ensures.report (dispute_text after) refl) in
    is_trial c.import_by_pieces-receipt.result import.booked.0 import.booked.1
    (booked g (goal.at.returns-clause-trial g c).After-import_by_pieces-receipt)
    written refl

pub returns-in_err-statement-clause-fault : goal.returns-in_err-statement-clause-fault
returns-in_err-statement-clause-fault g c =
    let answer = c.from_residual-in_err-statement in
    let failed = err_from_is_err_and answer.result answer.ensures.1 in
    let book = ledger_book c.import_by_pieces-receipt.new.ledger in
    rw failed.1
    (ap is_write_or_memory failed.2
    ∙ report_fault c.in_err-statement.ensures.report (open_statement book)
    (first g (goal.at.returns-in_err-statement-clause-fault g c).After-import_by_pieces-receipt))

pub returns-in_err-dispute_list-clause-fault : goal.returns-in_err-dispute_list-clause-fault
returns-in_err-dispute_list-clause-fault g c =
    let answer = c.from_residual-in_err-dispute_list in
    let failed = err_from_is_err_and answer.result answer.ensures.1 in
    rw failed.1
    (ap is_write_or_memory failed.2
    ∙ report_fault c.in_err-dispute_list.ensures.report
    (dispute_text (ledger_book c.statement.new.ledger)) refl)
