-- A check list that is written as the records of its dump come. Words of the code alone.
use Rattle.std.specs.Prelude.{◌≡◌, ℕ, ◌+◌, ◌≤◌, Bool, List, ◌++◌, length, Option, Some, None, Result}
use Rattle.std.specs.Prelude.{Ok}
use Rattle.std.specs.Prelude.{Err, string_bytes}
use Rattle.book_model.specs.Words.{Layout, FrameFault, front, Joining, HasTaken, broken_by}
use Rattle.book_import.specs.Pieces.{TakesAll}
use Rattle.book_model.specs.declared.note.Stop.{Stop}
use Rattle.book_lists.specs.declared.fault.ReportFault.{ReportFault}
use Rattle.book_lists.specs.Streamed.{WritesFirst}
use Rattle.program_output.specs.declared.listing.Checked.{Checked}
use Rattle.program_output.specs.declared.listing.Listing.{Listing}
use Rattle.program_output.specs.declared.marks.Marks.{Marks}
use Rattle.program_output.specs.Marks.{is_torn, marks_in}
use Rattle.book_reports.specs.CheckLists.{record_lines}

-- how many bytes are written at once, at most (the office's rule)
abbrev pub most_written : ℕ
most_written = 65536

-- no line of a list is longer
abbrev pub longest_line : ℕ
longest_line = 128

-- the bytes that are waiting to be written
abbrev pub waiting : Listing → List ℕ
waiting listing = string_bytes listing.text

-- how many records have a line
abbrev pub listed_count : Listing → ℕ
listed_count listing = listing.count

-- which of them are headers and trailers
abbrev pub listed_marks : Listing → Marks
listed_marks listing = listing.marks

-- what is told of a dump with so many records and these marks, after this stop
abbrev pub checked_as : Stop → ℕ → Marks → Checked
checked_as stop records marks = record { stop = stop; is_torn = is_torn records marks }

-- one more line can be written together with what is waiting
abbrev pub HasRoom : Listing → Type 0
HasRoom listing = length (waiting listing) + longest_line ≤ most_written

-- the lines of these records were written, or wait
pub record HasListed (names : Bool) (records : List (List ℕ)) (held holds : Option (List ℕ))
    (listing : Listing) : Type 0 where
  pub count : listed_count listing ≡ length records
  pub marks : listed_marks listing ≡ marks_in records
  pub lines : WritesFirst (record_lines names 1 records) (waiting listing) held holds

-- the first lines of a text's records were written, whatever bytes follow the text
abbrev pub WritesSome : Bool → Layout → List ℕ → Option (List ℕ) → Option (List ℕ) → Type 0
WritesSome names layout text held holds = (more : List ℕ) → (left : List ℕ)
    × WritesFirst (record_lines names 1 (front layout (text ++ more)).records) left held holds

-- Where the lines of the records before a piece were written, or are waiting, so are now those of
-- the records that the piece completes; or, before a fault, the first of these lines were written.
abbrev pub ListsPiece : Bool → Joining → List ℕ → Listing → Listing → Option (List ℕ)
    → Option (List ℕ) → Result (Option FrameFault) ReportFault → Type 0
ListsPiece names joining piece began listing had has (Ok found) = (text : List ℕ) (held : Option (List ℕ))
    → HasTaken text joining → HasListed names (front joining.layout text).records held had began
    → HasListed names (front joining.layout (text ++ piece)).records held has listing
ListsPiece names joining piece began listing had has (Err fault) = (text : List ℕ) (held : Option (List ℕ))
    → HasTaken text joining → HasListed names (front joining.layout text).records held had began
    → WritesSome names joining.layout (text ++ piece) held has

-- a fault breaks the front of a piece at a descriptor, whatever bytes follow
abbrev pub Breaks : Joining → List ℕ → FrameFault → Type 0
Breaks joining piece fault = (text more : List ℕ) → HasTaken text joining
    → front joining.layout ((text ++ piece) ++ more)
    ≡ broken_by (front joining.layout (text ++ piece)).records fault

-- the piece was taken, or the fault that was found breaks it
abbrev pub TakesOrBreaks : Joining → List ℕ → Option FrameFault → Joining → Type 0
TakesOrBreaks old piece None new = TakesAll old piece new
TakesOrBreaks old piece (Some fault) new = Breaks old piece fault
