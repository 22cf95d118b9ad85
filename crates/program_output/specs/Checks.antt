-- A check: what every record of a dump is, why the list ends, and whether the dump is torn.
use Rattle.std.specs.Prelude.{◌≡◌, ℕ, Bool, List, ◌++◌, Option, Result, IfOk}
use Rattle.std.specs.Io.KnownBytes.{Consumes, Appends}
use Rattle.book_model.specs.Words.{Front, front}
use Rattle.book_model.specs.declared.note.Stop.{Stop}
use Rattle.book_import.specs.Dumps.{stop_after}
use Rattle.book_import.specs.Reach.{is_early_stop, EndsBy, IsNoFurther}
use Rattle.book_import.specs.ReadLimits.{piece_length}
use Rattle.book_lists.specs.declared.fault.ReportFault.{ReportFault}
use Rattle.book_lists.specs.Writing.{WritesUntil}
use Rattle.book_reports.specs.CheckLists.{record_lines, check_list_text}
use Rattle.program_output.specs.declared.listing.Checked.{Checked}
use Rattle.program_output.specs.Marks.{are_torn}
use Rattle.program_output.specs.Readings.{Reading}

-- the lines of these records were written, and perhaps more after them
abbrev pub AreWritten : Bool → Option (List ℕ) → Option (List ℕ) → List (List ℕ) → Type 0
AreWritten names held holds records =
    (more : List ℕ) × Appends held holds (record_lines names 1 records ++ more)

-- what stands in these bytes, and what stops their reading
abbrev pub found_in : Reading → List ℕ → Front
found_in reading bytes = front reading.layout bytes

abbrev pub stop_of : Reading → List ℕ → Stop
stop_of reading bytes = stop_after reading.cut (found_in reading bytes)

-- what is told of them at the end
abbrev pub told_of : Reading → List ℕ → Checked
told_of reading bytes = record {
  stop = stop_of reading bytes;
  is_torn = are_torn (found_in reading bytes).records;
}

-- A check took these bytes from the reader, whose reading may have been cut short, and wrote the
-- list of their records, with names or without, and its stop, or, before a fault, a prefix of it that
-- is not the whole. It read no further than it needed: the lines of the records that were whole before
-- the last read were all written.
pub record IsCheck (names : Bool) (reading : Reading) (held holds : Option (List ℕ))
    (answer : Result Checked ReportFault) : Type 0 where
  pub bytes : List ℕ
  pub taken : Consumes reading.input.old.left reading.input.new.left bytes
  pub written : WritesUntil
      (check_list_text names (found_in reading bytes).records (stop_of reading bytes)) held holds answer
  pub told : IfOk answer (λ told. told ≡ told_of reading bytes)
  pub ends : IfOk answer (λ told.
      EndsBy reading.allowed (is_early_stop (found_in reading bytes) told.stop) reading.input)
  pub no_further :
      IsNoFurther piece_length reading.layout bytes (AreWritten names held holds) reading.input
