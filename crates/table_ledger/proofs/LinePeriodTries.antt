-- The period that a line speaks of, where it is tried: what is answered.
use Rattle.std.proofs.Common.{◌≡◌, ◌∙◌, ℕ, ap, sym, None, Ok, Option, Some, option_and_then}
use Rattle.book_model.proofs.Std.{get}
use Rattle.book_model.specs.Words.{Book, Naming, Rulings, line_period_outcome}
use Rattle.book_core.specs.Words.{ruled_in}
use Rattle.table_model.specs.Words.{RecordRow, Tables, tables_of}
use Rattle.table_model.specs.TrailRead.{line_period_read, line_period_row}
use Rattle.table_model.proofs.TrailLemmas.{line_periods_follow}
use Rattle.table_ledger.proofs.Words.{FindsRecord, IsAt, Line, StoredRecord, View, stored_entry}
use Rattle.table_ledger.specs.declared.summary.Summary.{Summary}
use Rattle.table_ledger.proofs.AcceptTries.{none_found}
use Rattle.table_ledger.proofs.LineReadings.{found_row}
use Rattle.table_ledger.proofs.Remembered.{rulings_are}

module _ {naming : Naming} {summary : Summary} {view : View} {book : Book}
    (at : IsAt naming summary view book) (number : ℕ) (line : Line) where
  abbrev kept : Tables
  kept = tables_of naming book

  abbrev ruled : Rulings
  ruled = ruled_in summary.rulings

  -- by the row of its record, if there is one
  abbrev by_row : Option RecordRow → Option ℕ
  by_row =
      option_and_then
      (λ (row : RecordRow). line_period_row number line.plus ruled kept.lines (line.name, row))

  -- it is read from the tables, by what is remembered
  by_tables : (line_period_outcome naming number line book).answer
      ≡ Ok (by_row (get kept.records line.name))
  by_tables =
      ap Ok (line_periods_follow naming book number line at.kept.readable)
      ∙ ap (λ (rulings : Rulings). Ok (line_period_read number line rulings kept))
      (rulings_are at.remembers)

  -- no record has its name
  pub none_told : FindsRecord line.name kept None
      → (line_period_outcome naming number line book).answer ≡ Ok None
  none_told finds =
      by_tables
      ∙ ap (λ found. Ok (by_row found)) (none_found line.name (get kept.records line.name) finds)

  -- or one has, and its row tells this
  pub one_told : (stored : StoredRecord) (period : Option ℕ)
      → FindsRecord line.name kept (Some stored)
      → period ≡ line_period_row number line.plus ruled kept.lines (stored_entry stored)
      → (line_period_outcome naming number line book).answer ≡ Ok period
  one_told stored period finds is =
      let found = found_row line.name stored (get kept.records line.name) finds in
      by_tables
      ∙ ap (λ found. Ok (by_row found)) found.0
      ∙ (λ i. Ok (line_period_row number line.plus ruled kept.lines
      (found.1 i, (stored_entry stored).1)))
      ∙ ap Ok (sym is)
