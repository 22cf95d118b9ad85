-- The line that says what became of a dump, or of the works of its records.
use Rattle.std.specs.Prelude.{ℕ, List, ◌++◌, codes, decimal}
use Rattle.book_model.specs.Words.{frame_number, ledger_number}
use Rattle.book_import.specs.declared.receipt.Receipt.{Receipt}
use Rattle.book_model.specs.declared.note.Stop.{Stop}
use Rattle.book_model.specs.declared.note.Stop.TheVariants.{End, Frame, Read, ReadLimit, Ledger}
use Rattle.report_texts.specs.Columns.{newline}

-- a word and a number, and a blank after each
abbrev pub count_text : List ℕ → ℕ → List ℕ
count_text word count = word ++ codes " " ++ decimal count ++ codes " "

-- usage records, by what the books answered
abbrev pub usage_counts : Receipt → List ℕ
usage_counts receipt =
    count_text (codes "KEPT") receipt.kept
    ++ count_text (codes "KNOWN") receipt.known
    ++ count_text (codes "UNPRICED") receipt.unpriced

-- the other records, by their class
abbrev pub other_counts : Receipt → List ℕ
other_counts receipt =
    count_text (codes "OTHER") receipt.other
    ++ count_text (codes "HEADERS") receipt.headers
    ++ count_text (codes "TRAILERS") receipt.trailers
    ++ count_text (codes "LOST") receipt.lost
    ++ count_text (codes "CONTINUED") receipt.continued
    ++ count_text (codes "DAMAGED") receipt.damaged

-- a word, and the number of a fault
abbrev pub fault_text : List ℕ → ℕ → List ℕ
fault_text word number = word ++ codes " " ++ decimal number

-- why no further record was handled
abbrev pub stop_text : Stop → List ℕ
stop_text End = codes "END"
stop_text (Frame fault) = fault_text (codes "FRAME") (frame_number fault)
stop_text Read = codes "READ"
stop_text ReadLimit = codes "READLIMIT"
stop_text (Ledger fault) = fault_text (codes "LEDGER") (ledger_number fault)

-- the counts, and then the stop
abbrev pub receipt_line_text : Receipt → List ℕ
receipt_line_text receipt =
    usage_counts receipt ++ other_counts receipt
    ++ codes "STOP " ++ stop_text receipt.stop ++ newline

-- the same of works that were to be withheld
abbrev pub withheld_line_text : ℕ → ℕ → ℕ → Stop → List ℕ
withheld_line_text withheld already not_held stop =
    count_text (codes "WITHHELD") withheld ++ count_text (codes "ALREADY") already
    ++ count_text (codes "NOT HELD") not_held ++ codes "STOP " ++ stop_text stop ++ newline
