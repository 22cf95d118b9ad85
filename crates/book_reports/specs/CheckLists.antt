-- Lists of a check: of which type and class each record is, and how many there are.
use Rattle.std.specs.Prelude.{ℕ, ◌+◌, if◌then◌else◌, nat_lt, Bool, true, false, List, [], ◌∷◌, ◌++◌, length}
use Rattle.std.specs.Prelude.{codes}
use Rattle.std.specs.Fmt.{decimal}
use Rattle.hex.specs.Hex.{encode_lower}
use Rattle.sha2.specs.Sha256.{sha256}
use Rattle.smf_frames.specs.Header.{header_len}
use Rattle.smf_type30.specs.declared.record_class.Class.{Class}
use Rattle.smf_type30.specs.declared.record_class.Class.TheVariants.{DumpHeader, DumpTrailer, DataLost}
use Rattle.smf_type30.specs.declared.record_class.Class.TheVariants.{Other, Continuation, Usage, Damaged}
use Rattle.book_model.specs.Words.{type_of, class_of, damage_number, data_of}
use Rattle.book_model.specs.declared.note.Stop.{Stop}
use Rattle.report_texts.specs.Columns.{newline}
use Rattle.book_reports.specs.ReceiptLines.{fault_text, stop_text}

-- the type of a record, which a record shorter than a header does not show (SA38-0667, standard SMF
-- record header)
abbrev pub type_text : List ℕ → List ℕ
type_text bytes = if nat_lt (length bytes) header_len then codes "-" else decimal (type_of bytes)

-- the class of a record; for a damaged one, the number of its damage too
abbrev pub class_text : Class → List ℕ
class_text DumpHeader = codes "HEADER"
class_text DumpTrailer = codes "TRAILER"
class_text DataLost = codes "LOST"
class_text Other = codes "OTHER"
class_text Continuation = codes "CONTINUED"
class_text Usage = codes "USAGE"
class_text (Damaged damage) = fault_text (codes "DAMAGED") (damage_number damage)

-- the name under which books keep a record: the SHA-256 of its data
abbrev pub digest_text : List ℕ → List ℕ
digest_text bytes = codes " " ++ encode_lower (sha256 (data_of bytes))

-- the same, where names are asked for
abbrev pub asked_text : Bool → List ℕ → List ℕ
asked_text true bytes = digest_text bytes
asked_text false bytes = []

-- so it is of a record that could be kept, and of no other
abbrev pub name_text : Class → Bool → List ℕ → List ℕ
name_text Usage names bytes = asked_text names bytes
name_text class names bytes = []

-- the line of the record with that number
unfoldable pub record_line : Bool → ℕ → List ℕ → List ℕ
record_line names number bytes =
    decimal number
    ++ codes " TYPE " ++ type_text bytes
    ++ codes " " ++ class_text (class_of bytes) ++ name_text (class_of bytes) names bytes ++ newline

-- the lines of records, where the first has that number
abbrev pub record_lines : Bool → ℕ → List (List ℕ) → List ℕ
record_lines names number [] = []
record_lines names number (bytes ∷ rest) =
    record_line names number bytes ++ record_lines names (number + 1) rest

-- how many records there are, and why there are no more
abbrev pub last_line : ℕ → Stop → List ℕ
last_line count stop =
    codes "RECORDS " ++ decimal count ++ codes " STOP " ++ stop_text stop ++ newline

-- the lines of the records, numbered from 1, and the last line
abbrev pub check_list_text : Bool → List (List ℕ) → Stop → List ℕ
check_list_text names records stop = record_lines names 1 records ++ last_line (length records) stop
