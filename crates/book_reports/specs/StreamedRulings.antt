-- Reports that no book refuses, whose text is written while it is read; and the list of rulings, which
-- is one.
use Rattle.std.specs.Prelude.{◌<◌, ℕ, List, length, Option, Result, Ok, Err}
use Rattle.std.proofs.Common.{arith}
use Rattle.book_model.specs.declared.fault.LedgerFault.{LedgerFault}
use Rattle.book_model.specs.declared.fault.LedgerFault.TheVariants as ledger
use Rattle.book_model.specs.Words.{Book, Naming, RulingSeen}
use Rattle.book_core.specs.Transition.{Transition}
use Rattle.report_texts.specs.RulingLists.{ruling_list_head, ruling_list_text}
use Rattle.book_lists.specs.declared.fault.ReportFault.{ReportFault}
use Rattle.book_lists.specs.declared.fault.ReportFault.TheVariants.{Ledger}
use Rattle.book_lists.specs.Streamed.{WritesAnswerUntil, WritesSome}
use Rattle.book_reports.specs.BookTexts.{ruling_text}

-- a report that no book refuses, by its text
abbrev pub answered_by : (Naming → Book → List ℕ) → Naming → Book → Result (List ℕ) LedgerFault
answered_by text naming book = Ok (text naming book)

-- the list of a book's rulings was written so, or a prefix of it that is not the whole
abbrev pub WritesRulings : Naming → Option (List ℕ) → Option (List ℕ)
    → Result (Unit {0}) ReportFault → Transition
WritesRulings = WritesAnswerUntil (answered_by ruling_text)

-- the list of some rulings
abbrev pub WritesSomeRulings : Option (List ℕ) → Option (List ℕ) → Result (Unit {0}) ReportFault
    → Type 0
WritesSomeRulings = WritesSome {X = List RulingSeen} ruling_list_text

-- something stands above it
pub some_above_rulings : 0 < length ruling_list_head
some_above_rulings = omega arith

-- the text that was written into memory, or why it was not: a lack of memory has one form there
abbrev pub text_by : {T : Type 0} → T → Result (Unit {0}) ReportFault → Result T LedgerFault
text_by text (Ok done) = Ok text
text_by text (Err (Ledger fault)) = Err fault
text_by text (Err fault) = Err ledger.Memory
