-- The journal of a ledger, as a list or as a table, which is written while it is read.
use Rattle.std.specs.Prelude.{ℕ, ◌<◌, List, ◌++◌, flat_map, length, Option, Result, Ok}
use Rattle.std.proofs.Common.{arith, length-append}
use Rattle.book_model.specs.Words.{Book, EntrySeen, Naming, Outcome, entries_listed, no_event}
use Rattle.book_core.specs.Words.{Transition}
use Rattle.report_texts.specs.JournalLists.{entry_lines, journal_head}
use Rattle.report_texts.specs.JournalTables.{entry_row, journal_heading}
use Rattle.book_lists.specs.declared.fault.ReportFault.{ReportFault}
use Rattle.book_lists.specs.Streamed.{WritesAnswerUntil, WritesSome}
use Rattle.book_reports.specs.declared.what_if.StatementForm.{StatementForm}
use Rattle.book_reports.specs.declared.what_if.StatementForm.TheVariants as form
use Rattle.book_reports.specs.StreamedRulings.{answered_by}

-- the entries of a book, the oldest first, and how many they are
abbrev pub entries_of : Naming → Book → List EntrySeen
entries_of naming book = entries_listed naming book.rulings book.journal

abbrev pub entry_count_outcome : Naming → Book → Outcome ℕ
entry_count_outcome naming book = no_event (Ok (length (entries_of naming book)))

-- what stands above so many entries
abbrev pub journal_above : StatementForm → ℕ → List ℕ
journal_above form.Text count = journal_head count
journal_above form.Table count = journal_heading

-- the lines of an entry
abbrev pub entry_part : StatementForm → EntrySeen → List ℕ
entry_part form.Text entry = entry_lines entry
entry_part form.Table entry = entry_row entry

-- the text of some entries, with their number above them
abbrev pub journal_text : StatementForm → ℕ → List EntrySeen → List ℕ
journal_text form count entries = journal_above form count ++ flat_map (entry_part form) entries

-- something stands above them
pub some_above_entries : (form : StatementForm) (count : ℕ) → 0 < length (journal_above form count)
unfolding journal_head journal_heading
some_above_entries form.Text count = simp length-append (omega arith)
some_above_entries form.Table count = simp length-append (omega arith)

-- the text of a book's journal
abbrev pub journal_report : StatementForm → Naming → Book → List ℕ
journal_report form naming book =
    journal_text form (length (entries_of naming book)) (entries_of naming book)

-- it was written, or a prefix of it that is not the whole
abbrev pub WritesJournal : StatementForm → Naming → Option (List ℕ) → Option (List ℕ)
    → Result (Unit {0}) ReportFault → Transition
WritesJournal form = WritesAnswerUntil (answered_by (journal_report form))

-- whatever the book is, what was written is the text of some entries under some number, or a prefix
-- of one
abbrev pub WritesSomeJournal : StatementForm → Option (List ℕ) → Option (List ℕ)
    → Result (Unit {0}) ReportFault → Type 0
WritesSomeJournal form =
    WritesSome {X = ℕ × List EntrySeen} (λ made. journal_text form made.0 made.1)
