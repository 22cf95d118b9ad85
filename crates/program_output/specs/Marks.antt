-- What marks the begin and the end of a dump. A dump that was cut between two records reads as a whole one
-- does: but for its trailer.
use Rattle.std.specs.Prelude.{ℕ, ◌+◌, ◌-◌, ◌^◌, ◌==◌, ◌&&◌, ◌||◌, nat_lt, min, Bool, List, [], ◌∷◌}
use Rattle.std.specs.Prelude.{length}
use Rattle.smf_type30.specs.declared.record_class.Class.{Class}
use Rattle.smf_type30.specs.declared.record_class.Class.TheVariants.{DumpHeader, DumpTrailer}
use Rattle.book_model.specs.Words.{class_of}
use Rattle.book_import.specs.declared.receipt.Receipt.{Receipt}
use Rattle.program_output.specs.declared.marks.Marks.{Marks}

-- neither a header nor a trailer
abbrev pub no_marks : Marks
no_marks = record { headers = 0; trailers = 0 }

-- one more; no dump has more than a number of 64 bits counts
abbrev pub one_more : ℕ → ℕ
one_more count = min (count + 1) (2 ^ 64 - 1)

-- the marks with one more record, of this class
abbrev pub marks_with : Class → Marks → Marks
marks_with DumpHeader marks = record marks { headers = one_more marks.headers }
marks_with DumpTrailer marks = record marks { trailers = one_more marks.trailers }
marks_with class marks = marks

-- and with more of them
abbrev pub marks_after : Marks → List (List ℕ) → Marks
marks_after marks [] = marks
marks_after marks (bytes ∷ rest) = marks_after (marks_with (class_of bytes) marks) rest

-- those of records
abbrev pub marks_in : List (List ℕ) → Marks
marks_in records = marks_after no_marks records

-- A dump is torn that has no record, or fewer trailers than headers.
abbrev pub is_torn : ℕ → Marks → Bool
is_torn records marks = records == 0 || nat_lt marks.trailers marks.headers

-- so is a dump of these records
abbrev pub are_torn : List (List ℕ) → Bool
are_torn records = is_torn (length records) (marks_in records)

-- a receipt counts no record
abbrev pub counts_none : Receipt → Bool
counts_none receipt =
    receipt.kept == 0 && receipt.known == 0 && receipt.unpriced == 0 && receipt.other == 0
    && receipt.headers == 0 && receipt.trailers == 0 && receipt.lost == 0 && receipt.continued == 0
    && receipt.damaged == 0

-- and so is one that was imported up to its end, by what its receipt counts
abbrev pub is_receipt_torn : Receipt → Bool
is_receipt_torn receipt = counts_none receipt || nat_lt receipt.trailers receipt.headers
