-- A record that is asked for by its name: what is answered.
use Rattle.std.proofs.Common.{◌≡◌, ◌∙◌, ℕ, List, ap, None, Some, Ok, Err, ok_or, option_map}
use Rattle.book_model.proofs.Std.{get}
use Rattle.book_model.specs.declared.fault.LedgerFault.TheVariants.{NoSuchRecord}
use Rattle.book_model.specs.Words.{Book, Naming, record_outcome, record_with}
use Rattle.table_model.specs.Words.{Tables, row_record, tables_of}
use Rattle.table_model.proofs.TrailLemmas.{records_follow}
use Rattle.table_ledger.proofs.Words.{View, FindsRecord, IsAt, StoredRecord}
use Rattle.table_ledger.specs.declared.summary.Summary.{Summary}
use Rattle.table_ledger.proofs.AcceptTries.{none_found}
use Rattle.table_ledger.proofs.LineReadings.{found_there}

module _ {naming : Naming} {summary : Summary} {view : View} {book : Book}
    (at : IsAt naming summary view book) (name : List ℕ) where
  abbrev kept : Tables
  kept = tables_of naming book

  -- it is read from the row of the name
  by_tables : (record_outcome naming name book).answer
      ≡ ok_or (option_map row_record (get kept.records name)) NoSuchRecord
  by_tables =
      ap (λ found. ok_or found NoSuchRecord)
      (records_follow naming book name at.kept.readable)

  -- there is none
  pub none_held : FindsRecord name kept None
      → (record_outcome naming name book).answer ≡ Err NoSuchRecord
  none_held finds =
      by_tables ∙ ap (λ found. ok_or (option_map row_record found) NoSuchRecord)
      (none_found name (get kept.records name) finds)

  -- or one, with these data
  pub one_held : (stored : StoredRecord) → FindsRecord name kept (Some stored)
      → (record_outcome naming name book).answer ≡ Ok (record_with stored.data_bytes.items)
  one_held stored finds =
      by_tables ∙ ap (λ found. ok_or (option_map row_record found) NoSuchRecord)
      (found_there name kept stored finds)
