-- What a period would have cost by another tariff, as a text about a book: which is no event.
use Rattle.std.specs.Prelude.{ℕ, ℤ, List, Option, Some, None, Result, Ok, Err}
use Rattle.sha2.specs.Sha256.{sha256}
use Rattle.book_model.specs.declared.fault.LedgerFault.{LedgerFault}
use Rattle.book_model.specs.declared.fault.LedgerFault.TheVariants.{TariffRefused}
use Rattle.book_model.specs.declared.row.ChargeRow.{ChargeRow}
use Rattle.book_model.specs.Words.{TariffFault, Book, Outcome, no_event, Terms, terms_in}
use Rattle.book_model.specs.Words.{charges_outcome, what_if_outcome}
use Rattle.report_texts.specs.WhatIfs.{centre_what_if_table, centre_what_if_text, what_if_table}
use Rattle.report_texts.specs.WhatIfs.{what_if_text}
use Rattle.book_reports.specs.declared.what_if.StatementForm.{StatementForm}
use Rattle.book_reports.specs.declared.what_if.StatementForm.TheVariants.{Text, Table}
use Rattle.book_reports.specs.declared.what_if.WhatIf.{WhatIf}
use Rattle.book_reports.specs.BookTexts.{closed_through, shown_by}

-- two answers with their values shown as one; where both are refusals, the first one stays
abbrev pub shown_by_both : {V W A : Type 0} → (V → W → A) → Result V LedgerFault
    → Result W LedgerFault → Result A LedgerFault
shown_by_both show (Ok value) other = shown_by (show value) other
shown_by_both show (Err fault) other = Err fault

-- the text, of the whole office or of one centre: by the rows under the other tariff, and those
-- that the period is charged
abbrev pub text_shown : Option (List ℕ) → ℕ → List ℕ → Option ℤ → List ChargeRow → List ChargeRow
    → List ℕ
text_shown None period digest through rows charged =
    what_if_text period through digest rows charged
text_shown (Some centre) period digest through rows charged =
    centre_what_if_text centre period through digest rows charged

-- the table
abbrev pub table_shown : Option (List ℕ) → ℕ → List ChargeRow → List ℕ
table_shown None period rows = what_if_table period rows
table_shown (Some centre) period rows = centre_what_if_table centre period rows

-- what a book answers by the terms of a tariff, whose file has this SHA-256: the text, where the
-- period was closed through that day, if it was,
abbrev pub text_under :
    Option (List ℕ) → ℕ → List ℕ → Terms → Option ℤ → Book → Result (List ℕ) LedgerFault
text_under centre period digest terms through book =
    shown_by_both (text_shown centre period digest through)
    (what_if_outcome period terms book).answer (charges_outcome period book).answer

-- or the table
abbrev pub table_under : Option (List ℕ) → ℕ → Terms → Book → Result (List ℕ) LedgerFault
table_under centre period terms book =
    shown_by (table_shown centre period) (what_if_outcome period terms book).answer

-- the one or the other
abbrev pub form_under : StatementForm → Option (List ℕ) → ℕ → List ℕ → Terms → Book
    → Result (List ℕ) LedgerFault
form_under Text centre period digest terms book =
    text_under centre period digest terms (closed_through book period) book
form_under Table centre period digest terms book = table_under centre period terms book

-- the same by the result of reading the tariff's file: its refusal comes first
abbrev pub what_if_by :
    WhatIf → List ℕ → Result Terms TariffFault → Book → Result (List ℕ) LedgerFault
what_if_by asked text (Err why) book = Err (TariffRefused why)
what_if_by asked text (Ok terms) book =
    form_under asked.form asked.centre asked.period (sha256 text) terms book

-- what a ledger is asked, by the text of the tariff's file
abbrev pub what_if_report : WhatIf → List ℕ → Book → Outcome (List ℕ)
what_if_report asked text book = no_event (what_if_by asked text (terms_in text) book)
