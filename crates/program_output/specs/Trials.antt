-- A trial: a dump that is imported into new books under one tariff, and the three texts that report
-- it.
use Rattle.std.specs.Prelude.{◌≡◌, ℕ, false, List, [], ◌∷◌, Option, Result, IfOk}
use Rattle.sha2.specs.Sha256.{sha256}
use Rattle.book_model.specs.Words.{Terms, Book, flat_book, Event, after_all}
use Rattle.book_import.specs.declared.receipt.Receipt.{Receipt}
use Rattle.book_import.specs.Reach.{IsReadFor}
use Rattle.book_import.specs.ReadLimits.{piece_length}
use Rattle.book_import.specs.Imports.{Imports}
use Rattle.book_lists.specs.declared.fault.ReportFault.{ReportFault}
use Rattle.book_lists.specs.Writing.{WritesTexts}
use Rattle.book_reports.specs.ReceiptLines.{receipt_line_text}
use Rattle.book_reports.specs.BookTexts.{dispute_text, open_statement}
use Rattle.program_output.specs.Readings.{Reading}

-- the receipt line, the statement and the disputes
abbrev pub trial_texts : Receipt → Book → List (List ℕ)
trial_texts receipt book =
    receipt_line_text receipt ∷ open_statement book ∷ dispute_text book ∷ []

-- A trial took these bytes from the reader, up to the stop and no further, and imported them, which
-- answered this receipt and made these events; and it wrote the texts about that, or those before a
-- fault. What the reader had and has left, and what the writer held and holds, is seen where these
-- are known.
pub record IsTrial (terms : Terms) (reading : Reading) (held holds : Option (List ℕ))
    (answer : Result Receipt ReportFault) : Type 0 where
  pub bytes : List ℕ
  pub told : Receipt
  pub events : List Event
  pub read : IsReadFor piece_length reading.layout reading.allowed bytes told reading.input
  pub booked :
      Imports sha256 reading.layout reading.cut bytes told false (flat_book terms) events false
  pub written : WritesTexts (trial_texts told (after_all events (flat_book terms))) held holds answer
  pub receipt : IfOk answer (λ receipt. receipt ≡ told)
