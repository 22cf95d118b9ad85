-- What each number and word means, and what to do about it, in the words of `explain`: one line each.
use Rattle.std.specs.Prelude.{ℕ, List, [], ◌∷◌, ◌++◌, codes}
use Rattle.program_output.specs.declared.words.WordKind.{WordKind}
use Rattle.program_output.specs.declared.words.WordKind.TheVariants.{Io, Busy, Exists, Word}
use Rattle.program_output.specs.declared.words.WordKind.TheVariants.{Unsound, Log, Layout, Far, Torn}

-- what a number or a word means, and what to do
abbrev pub Texts : Type 0
Texts = List ℕ × List ℕ

-- the faults of a dump, from number 1 on
unfoldable pub frame_texts : List Texts
frame_texts =
    -- 1 SegmentLength
    (
      codes "A segment's descriptor gives a length below 4 bytes: what was taken for a segment "
          ++ codes "is not one.",
      codes "Is it the right layout (--layout)? If so, the dump is damaged there; records "
          ++ codes "before it were read.",
    ) ∷
    -- 2 BlockLength
    (
      codes "A block's descriptor gives a length below 4 bytes: what was taken for a block is "
          ++ codes "not one.",
      codes "Read the dump with --layout rdw if it has no blocks; if it has, it is damaged "
          ++ codes "there.",
    ) ∷
    -- 3 ExtendedBlock
    (
      codes "A block has an extended descriptor, which is not read.",
      codes "Copy the dump with blocks of at most 32,767 bytes, or without blocks.",
    ) ∷
    -- 4 SegmentCrossesBlock
    (
      codes "A segment is longer than what is left of its block.",
      codes "Read the dump with --layout rdw if it has no blocks; if it has, it is damaged "
          ++ codes "there.",
    ) ∷
    -- 5 OrphanSegment
    (
      codes "A segment continues a record that no segment began.",
      codes "The dump begins inside a record or lost a part: copy it again from its source.",
    ) ∷
    -- 6 MissingLast
    (
      codes "A record was begun and not finished: another begins, or the dump ends.",
      codes "A part of the dump is missing: copy it again; records already held are not "
          ++ codes "counted twice.",
    ) ∷
    -- 7 RecordTooLong
    (
      codes "The segments of one record have more than 65,531 bytes of data.",
      codes "No record can be that long: the dump is damaged there, or it is not a dump of "
          ++ codes "SMF records.",
    ) ∷
    -- 8 Truncated
    (
      codes "The dump ends inside a descriptor, a segment or a block.",
      codes "It was cut off: copy it again; records already held are not counted twice.",
    ) ∷
    []

-- the refusals of the books, from number 1 on
unfoldable pub ledger_texts : List Texts
ledger_texts =
    -- 1 Memory
    (
      codes "There was not enough memory for this step. What was answered before it still holds.",
      codes "Run the command again with more memory; nothing is counted twice.",
    ) ∷
    -- 2 Store
    (
      codes "The file of the books could not be read or written, or its contents are not books.",
      codes "Make room if the disk is full, and check the file's permissions; then run the "
          ++ codes "command again; nothing is counted twice. If it says the same, run audit.",
    ) ∷
    -- 3 Reopen
    (
      codes "The books have to be opened again after a fault in their file.",
      codes "Run the command again; nothing is counted twice.",
    ) ∷
    -- 4 Full
    (
      codes "A limit is reached: 50,000,000 records, their total cost, 9,999 periods, "
          ++ codes "1,000,000 choices, or 10,000 credits or replaced tariffs.",
      codes "Begin new books; if a tariff was refused, submit one with lower prices; if a list of "
          ++ codes "names was, split it.",
    ) ∷
    -- 5 DigestClash
    (
      codes "Another record has the same SHA-256 name as a record that is held. The first one "
          ++ codes "is kept.",
      codes "Keep the dump: this is not known to have happened anywhere.",
    ) ∷
    -- 6 TariffDate
    (
      codes "The tariff begins no later than the last close or, without --replace, the last "
          ++ codes "tariff.",
      codes "Date it later than both: what is dated by the last close can't be priced any more; "
          ++ codes "held records from its first day on are priced anew.",
    ) ∷
    -- 7 TariffExists
    (
      codes "Another tariff begins on the same day.",
      codes "Date this one later; or, while no period that has that day is closed, put it in "
          ++ codes "that one's place with --replace.",
    ) ∷
    -- 8 RecordsDated
    (
      codes "An old number, no longer in use: records are dated on a tariff's first day or "
          ++ codes "later.",
      codes "There is nothing to do: such records are priced anew.",
    ) ∷
    -- 9 WrongPeriod
    (
      codes "Another period is open; its number follows this one.",
      codes "Close that period first, or name it.",
    ) ∷
    -- 10 NotLater
    (
      codes "The day is not later than that of the last close.",
      codes "Name a later day.",
    ) ∷
    -- 11 NoSuchPeriod
    (
      codes "There is no such period yet: periods are numbered from 1 to the open one.",
      codes "Ask for one of these.",
    ) ∷
    -- 12 NoSuchRecord
    (
      codes "No record of that name is held.",
      codes "Take the name from details, or from the list of disputes or adjustments.",
    ) ∷
    -- 13 NotDisputed
    (
      codes "No held record contradicts that one, and its work was never withheld: it is "
          ++ codes "charged already.",
      codes "Take the name from the list of disputes.",
    ) ∷
    -- 14 OldRule
    (
      codes "The second rule of identity is in force, and the first can't come back.",
      codes "There is nothing to do.",
    ) ∷
    -- 15 TariffRefused
    (
      codes "The text is not a tariff.",
      codes "The line on standard error has the tariff's own number: see explain tariff.",
    ) ∷
    -- 16 NotBooks
    (
      codes "The file holds no books.",
      codes "Look for BOOK-wal first: one of other books may lie beside BOOK, or its own where "
          ++ codes "BOOK was copied from. Else name another file, or make new books with init.",
    ) ∷
    -- 17 OldForm
    (
      codes "The books are of an older form: upgrade brings them over.",
      codes "Copy them first, with BOOK-wal if it is there; then run upgrade BOOK. What they hold "
          ++ codes "stays as it is, and a stop leaves the old books or the new ones.",
    ) ∷
    -- 18 NewForm
    (
      codes "The books are of a newer form than this program reads.",
      codes "Use the program that they were written with, or a later one.",
    ) ∷
    -- 19 NoSuchTariff
    (
      codes "No tariff begins on that day.",
      codes "Take a tariff's first day from the list of rulings.",
    ) ∷
    -- 20 NoSuchCentre
    (
      codes "No tariff has a rule for that centre.",
      codes "Take the name from the statement, or from a tariff: see tariff-text.",
    ) ∷
    []

-- the faults of a tariff file, from number 1 on
unfoldable pub tariff_texts : List Texts
tariff_texts =
    -- 1 Syntax
    (
      codes "The text is not a TOML document in UTF-8.",
      codes "Look for a missing quote or bracket, or a key that appears twice.",
    ) ∷
    -- 2 Missing
    (
      codes "A key is missing; it follows this number.",
      codes "Add it. The key effective stands above the first line in brackets.",
    ) ∷
    -- 3 Range
    (
      codes "The value of a key is of the wrong type or out of range; the key follows this "
          ++ codes "number.",
      codes "Look up its range under Tariff files in FORMATS.md.",
    ) ∷
    -- 4 Name
    (
      codes "A name has the wrong form: it must be 1 to 16 characters of A to Z, 0 to 9 and the "
          ++ codes "hyphen.",
      codes "Change the name of that shift or centre.",
    ) ∷
    -- 5 ShiftConflict
    (
      codes "Two shifts of the same name have different percents, or a shift named BASE has one "
          ++ codes "other than 100.",
      codes "Give them the same percent, or different names.",
    ) ∷
    -- 6 TooMany
    (
      codes "The text has more than 1,048,576 bytes, or more than 64 shifts or 2,000 centres.",
      codes "Take some out.",
    ) ∷
    -- 7 Memory
    (
      codes "There was not enough memory to read the tariff.",
      codes "Run the command again with more memory.",
    ) ∷
    []

-- what to do about a damage of a record, whichever it is
abbrev pub not_charged : List ℕ
not_charged = codes "It is not charged; ask whoever writes the dumps."

-- the damages of a record, from number 1 on
unfoldable pub damage_texts : List Texts
damage_texts =
    -- 1 Short
    (
      codes "The record ends before its header does; or it is of type 30, and ends before its "
          ++ codes "subtype does, or, as the end of a step or a job, before its triplets do.",
      not_charged,
    ) ∷
    -- 2 Date
    (
      codes "The date in the record's header is not a valid date.",
      not_charged,
    ) ∷
    -- 3 Time
    (
      codes "The time in the record's header is not before midnight.",
      not_charged,
    ) ∷
    -- 4 NoIdentification
    (
      codes "The record has no identification section, so it names no job.",
      not_charged,
    ) ∷
    -- 5 Identification
    (
      codes "The identification section is too short, or runs past the end of the record.",
      not_charged,
    ) ∷
    -- 6 Processor
    (
      codes "The processor section is too short, or runs past the end of the record.",
      not_charged,
    ) ∷
    -- 7 InputOutput
    (
      codes "The section on I/O activity is too short, or runs past the end of the record.",
      not_charged,
    ) ∷
    -- 8 Completion
    (
      codes "The completion section is too short, or runs past the end of the record.",
      not_charged,
    ) ∷
    -- 9 Accounting
    (
      codes "The accounting fields do not lie inside the record.",
      not_charged,
    ) ∷
    []

-- the words on standard error that have no number
unfoldable pub word_texts : WordKind → Texts
word_texts Io = (
  codes "A file or the port could not be opened, or reading or writing failed.",
  codes "Check the path, the permissions and the disk: a file may be missing, a folder or a "
      ++ codes "second hard link, the port in use, the output full or closed. On a terminal the "
      ++ codes "path and the cause follow.",
)
word_texts Busy = (
  codes "Another program has the books open, and had them for as long as the command waited; "
      ++ codes "nothing was done.",
  codes "Wait until it has ended, and run the command again, or run it with a longer --wait.",
)
word_texts Exists = (
  codes "A file that the command would make is there, or a log or journal of it; or its name "
      ++ codes "ends in -wal, -journal or -shm; or BOOK-wal is a file of books, or BOOK-wal-kept "
      ++ codes "is in the way.",
  codes "Take another name. What a stopped dry run left as BOOK-try and BOOK-try-wal, or a stopped "
      ++ codes "backup as FILE-new, may be deleted while no command runs. Rename books that are "
      ++ codes "called BOOK-wal while no command runs; find out whose BOOK-wal-kept is, and move "
      ++ codes "it. Delete nothing else before you know whose it is.",
)
word_texts Word = (
  codes "What was given is no date, or no name of a record or a centre; of a list, the number "
      ++ codes "of the line follows.",
  codes "Write a date as 2024-01-31, and copy all 64 digits of a record's name; a centre has 1 "
      ++ codes "to 16 characters of A to Z, 0 to 9 and the hyphen.",
)
word_texts Unsound = (
  codes "An audit found the books, or a copy of them, unsound; it printed what is wrong first.",
  codes "Restore the last sound backup, and import later dumps again; nothing is counted twice.",
)
word_texts Log = (
  codes "The books are in two files, BOOK and BOOK-wal, since the log BOOK-wal could not be "
      ++ codes "brought into BOOK; or a log of no use to them was kept aside as BOOK-wal-kept.",
  codes "Keep both files together; make room on the disk, and read any report of the books. To "
      ++ codes "copy them, use backup. Find out whose log BOOK-wal-kept is before you delete "
      ++ codes "it.",
)
word_texts Layout = (
  codes "The dump was read as segments one after another, and what was taken for its first "
      ++ codes "record is a block.",
  codes "The dump reads as blocks: give --layout bdw, and run the command again; nothing is "
      ++ codes "counted twice.",
)
word_texts Far = (
  codes "The day of a close lies more than 7 days after the newest record of its period, or "
      ++ codes "after today; or that of a tariff more than 366 days after it; or, where the open "
      ++ codes "period charges none, either lies more than 366 days after the last close.",
  codes "Check the date: neither can be taken back. With --near such a ruling is refused; one "
      ++ codes "that was made is undone by the backup from before it. --dry-run shows first what "
      ++ codes "a ruling changes.",
)
word_texts Torn = (
  codes "The dump has no record, or fewer trailers than headers: it was cut off, or not all of it "
      ++ codes "came.",
  codes "Send it again, whole, and import that; nothing is counted twice. With --whole such a dump "
      ++ codes "is not imported from a file, and a command that read one ends with status 4.",
)
