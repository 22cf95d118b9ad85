-- The adjustment lines of a bill, as a ledger answers them by calls that are no event.
use Rattle.std.specs.Prelude.{ℕ, List, Option}
use Rattle.book_model.specs.declared.bill.BilledLine.{BilledLine}
use Rattle.book_model.specs.Words.{AreLines, Book, Naming, Outcome, adjustments_outcome}
use Rattle.book_model.specs.Words.{billed_lines, no_event}
use Rattle.report_texts.specs.Charges.{plain_lines}
use Rattle.book_lists.specs.Shown.{shown_by}

-- lines that a bill can show
abbrev pub AreBilled : List BilledLine → Type 0
AreBilled lines = AreLines (plain_lines lines)

-- the lines of a period, for the centre that is named or for the whole office
abbrev pub billed_outcome : Naming → ℕ → Option (List ℕ) → Book → Outcome (List BilledLine)
billed_outcome naming period centre book =
    no_event (shown_by (billed_lines naming book period centre)
    (adjustments_outcome naming period book).answer)
