-- The journal, an entry at a time: its number and when; what was ruled or imported; and, a line for
-- each where it says something, by whom, from which file, and with which remark.
use Rattle.std.specs.Prelude.{◌/◌, ◌%◌, ℕ, pos, List, [], ◌∷◌, ◌++◌, Option, Some, None, codes}
use Rattle.std.specs.Prelude.{decimal, if◌then◌else◌, nat_le}
use Rattle.hex.specs.Hex.{encode_lower}
use Rattle.book_model.specs.Journal.{AtEnd, AtFrame, AtLedger, AtRead, AtReadLimit, Ending, Note}
use Rattle.book_model.specs.Journal.{Place, Reading, ReplacementOf}
use Rattle.book_model.specs.Words.{ActSeen, EntrySeen, ImportDone, RulingDone, RulingSeen}
use Rattle.book_model.specs.Words.{TariffSeen, day_text_of}
use Rattle.report_texts.specs.Columns.{newline}
use Rattle.report_texts.specs.Moments.{in_two_digits}
use Rattle.report_texts.specs.RulingLists.{replacing_words, ruling_words}

abbrev pub seconds_per_day : ℕ
seconds_per_day = 86_400

-- the last day that is shown as one: 2099-12-31
abbrev pub last_shown : ℕ
last_shown = 47_481

-- seconds since midnight, as hours, minutes and seconds: `HH:MM:SS`
unfoldable pub clock_text : ℕ → List ℕ
clock_text seconds =
    in_two_digits (seconds / 3_600) ++ codes ":" ++ in_two_digits ((seconds / 60) % 60)
    ++ codes ":" ++ in_two_digits (seconds % 60)

-- Seconds since the beginning of 1970, UTC, as a day and a time of it; later ones than of any day that
-- is shown, as their number.
unfoldable pub entry_time : ℕ → List ℕ
entry_time time =
    if nat_le (time / seconds_per_day) last_shown
    then day_text_of (pos (time / seconds_per_day)) ++ codes " "
    ++ clock_text (time % seconds_per_day) ++ codes "Z"
    else decimal time

-- a tariff that took another's place says which; any other ruling is shown as in the list of them
unfoldable pub replaced_words : ℕ → RulingSeen → List ℕ
replaced_words number (TariffSeen day text) = replacing_words day text number
replaced_words number ruling = ruling_words ruling

-- a ruling that was found, by where it stands
unfoldable pub ruled_words : Place → Option RulingSeen → List ℕ
ruled_words place None = codes "-"
ruled_words (ReplacementOf number) (Some ruling) = replaced_words number ruling
ruled_words place (Some ruling) = ruling_words ruling

-- a count, behind a blank and its word
unfoldable pub entry_count : List ℕ → ℕ → List ℕ
entry_count word count = codes " " ++ word ++ codes " " ++ decimal count

-- why an import ended, as its receipt says it; a dash where it goes on or was cut off
unfoldable pub ending_text : Option Ending → List ℕ
ending_text None = codes "-"
ending_text (Some AtEnd) = codes "END"
ending_text (Some (AtFrame number)) = codes "FRAME " ++ decimal number
ending_text (Some AtRead) = codes "READ"
ending_text (Some AtReadLimit) = codes "READLIMIT"
ending_text (Some (AtLedger number)) = codes "LEDGER " ++ decimal number

-- the counts of usage records, and then of the others
unfoldable pub usage_counts : Reading → ℕ → List ℕ
usage_counts reading kept =
    entry_count (codes "KEPT") kept ++ entry_count (codes "KNOWN") reading.known
    ++ entry_count (codes "UNPRICED") reading.unpriced

unfoldable pub other_counts : Reading → List ℕ
other_counts reading =
    entry_count (codes "OTHER") reading.other ++ entry_count (codes "HEADERS") reading.headers
    ++ entry_count (codes "TRAILERS") reading.trailers ++ entry_count (codes "LOST") reading.lost
    ++ entry_count (codes "CONTINUED") reading.continued
    ++ entry_count (codes "DAMAGED") reading.damaged

-- an import: the SHA-256 and the length of what it has read, and the words of its receipt
unfoldable pub import_line : Reading → Option Ending → ℕ → List ℕ
import_line reading ending kept =
    codes "IMPORT " ++ encode_lower reading.digest ++ codes " " ++ decimal reading.length
    ++ usage_counts reading kept ++ other_counts reading ++ codes " STOP " ++ ending_text ending
    ++ newline

unfoldable pub act_line : ActSeen → List ℕ
act_line (RulingDone place found) = ruled_words place found ++ newline
act_line (ImportDone reading ending kept) = import_line reading ending kept

-- a part of a note has a line of its own, where it says something
unfoldable pub noted_line : List ℕ → List ℕ → List ℕ
noted_line word [] = []
noted_line word (first ∷ more) = codes "  " ++ word ++ codes " " ++ (first ∷ more) ++ newline

unfoldable pub note_lines : Note → List ℕ
note_lines note =
    noted_line (codes "BY") note.person ++ noted_line (codes "FILE") note.file
    ++ noted_line (codes "NOTE") note.remark

-- the lines of an entry
unfoldable pub entry_lines : EntrySeen → List ℕ
entry_lines entry =
    decimal entry.number ++ codes " " ++ entry_time entry.note.time ++ codes " "
    ++ act_line entry.act ++ note_lines entry.note

-- what stands above them: how many entries there are
unfoldable pub journal_head : ℕ → List ℕ
journal_head count = codes "JOURNAL " ++ decimal count ++ newline

-- the name of a file behind a blank, where there is one
unfoldable pub file_column : List ℕ → List ℕ
file_column [] = []
file_column (first ∷ more) = codes " " ++ (first ∷ more)

-- the entry by which a record came, as the text of the record names it, with its time and the file; a
-- dash where it came by none
unfoldable pub came_line : Option EntrySeen → List ℕ
came_line None = codes "CAME -" ++ newline
came_line (Some entry) =
    codes "CAME " ++ decimal entry.number ++ codes " " ++ entry_time entry.note.time
    ++ file_column entry.note.file ++ newline
