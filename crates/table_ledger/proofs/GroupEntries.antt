-- The entry that records join, as it is found in the tables, and the row that it has behind them.
use Rattle.std.proofs.Common.{◌≡◌, ◌∙◌, ◌+◌, ◌==◌, ℕ, Bool, List, [], ◌∷◌, None, Option, Some, ap}
use Rattle.std.proofs.Common.{arith, eq-eqb, false, if◌then◌else◌, length, nat_cmp, ne_eqb, option_map}
use Rattle.std.proofs.Common.{refl, sym, true}
use Rattle.book_model.proofs.Std.{get, option_map_or}
use Rattle.book_model.specs.declared.answer.Accepted.{Accepted}
use Rattle.book_model.specs.declared.note.Share.{Share}
use Rattle.book_model.specs.declared.note.Stop.{Stop}
use Rattle.book_model.specs.Words.{Act, Book, Entry, Event, ImportRead, Imported, Importing, Naming}
use Rattle.book_model.specs.Words.{Note, Reading, Records, Ruled, after, after_all, by_bytes}
use Rattle.book_model.specs.Words.{change_newest, end_with, members, note_shown, nothing_read}
use Rattle.book_model.specs.Words.{read_on, read_with, reading_shown, stop_shown, told, told_by}
use Rattle.book_model.specs.Words.{told_end}
use Rattle.book_model.proofs.Lemmas.{members-empty}
use Rattle.book_core.proofs.SubmissionLemmas.{none_told}
use Rattle.table_model.specs.JournalRows.{act_row, journal_row, newest_number}
use Rattle.table_model.specs.Journaled.{IsJournaled}
use Rattle.table_model.specs.Steps.{put_journal_row}
use Rattle.table_model.specs.Tables.{ImportRow, JournalRow, RowAct, RulingRow, Tables}
use Rattle.table_model.specs.Words.{tables_of}
use Rattle.table_model.proofs.JournalChanges.{newest-found, newest-is, rows_table}
use Rattle.tree_tables.specs.JournalColumns.{entry_stored}
use Rattle.table_ledger.specs.Groups.{FindsNewest, Joins, JoinsEntry, act_renewed, begun_entries}
use Rattle.table_ledger.specs.Groups.{begun_entry, going_on, joined_by, joined_entry, joining, renewed}
use Rattle.table_ledger.specs.declared.groups.Joined.{Joined}
use Rattle.table_ledger.specs.declared.newest.Newest.{Newest}
use Rattle.table_ledger.proofs.KeptGroups.{AreNew, begun_with, ended, grown, put_joined, told_left}
use Rattle.table_ledger.proofs.KeptGroups.{unended, unjoined, unread}
use Rattle.table_ledger.proofs.LastNumbers.{last_entered}
use Rattle.std.specs.FinMap as fin

-- ---- as it is found

-- parts of a row that is known to be another
abbrev number_part : Option (ℕ × JournalRow) → ℕ
number_part found = option_map_or (λ (entry : ℕ × JournalRow). entry.0) found 0

abbrev reading_part : RowAct → Reading
reading_part (ImportRow reading ending kept) = reading
reading_part (RulingRow place) = nothing_read

abbrev kept_part : RowAct → ℕ
kept_part (ImportRow reading ending kept) = kept
kept_part (RulingRow place) = 0

-- a joined entry is the import's that goes on
joins_on : (joined : Joined) (import : Option Share) (note : Note) (reading : Reading)
    (kept : Records) (older : List Entry)
    → Some (joined_entry joined)
    ≡ Some (length older + 1, journal_row (record { note = note; act = Importing reading kept }))
    → JoinsEntry joined import (record { note = note; act = Importing reading kept } ∷ older)
joins_on joined import note reading kept older is =
    let row : Option (ℕ × JournalRow) → JournalRow =
    λ found. option_map_or (λ (entry : ℕ × JournalRow). entry.1) found
    (journal_row (record { note = note; act = Importing reading kept })) in
    let act = ap (λ found. (row found).act) is in
    record {
      reading = reading;
      kept = kept;
      older = older;
      is = λ i. record { note = (row (sym is i)).note; act = Importing reading kept } ∷ older;
      number = ap number_part is;
      count = ap kept_part act;
      read = λ none. ap reading_part act;
    }

-- by the newest entry, if there is one
abbrev newest_row : List Entry → Option JournalRow
newest_row [] = None
newest_row (entry ∷ older) = Some (journal_row entry)

joins_going : (joined : Option Joined) (import : Option Share) (entries : List Entry)
    → option_map joined_entry joined ≡ going_on (length entries) (newest_row entries)
    → Joins joined import entries
joins_going None import [] is = refl
joins_going (Some joined) import [] is = cc
joins_going joined import (entry ∷ older) is = by_act joined entry.note entry.act is
  where
    by_act : (joined : Option Joined) (note : Note) (act : Act)
        → option_map joined_entry joined
        ≡ going_on (length (entry ∷ older)) (Some (journal_row (record { note = note; act = act })))
        → Joins joined import (record { note = note; act = act } ∷ older)
    by_act None note (Ruled place) is = refl
    by_act None note (Importing reading kept) is = cc
    by_act None note (Imported reading ending kept) is = refl
    by_act (Some joined) note (Ruled place) is = cc
    by_act (Some joined) note (Imported reading ending kept) is = cc
    by_act (Some joined) note (Importing reading kept) is =
        let number : length (entry ∷ older) ≡ length older + 1 = omega arith in
        let row : JournalRow = journal_row (record { note = note; act = Importing reading kept }) in
        joins_on joined import note reading kept older
        (is ∙ ap {B = Option (ℕ × JournalRow)} (λ n. Some (n, row)) number)

-- or the one that the import begins
joins_begun : (joined : Option Joined) (share : Share) (begun : Bool) (entries : List Entry)
    → option_map joined_entry joined
    ≡ (if begun then going_on (length entries) (newest_row entries)
    else Some (
      length entries + 1,
      record {
        note = note_shown share.note;
        act = ImportRow (reading_shown share.reading) None 0;
      },
    ))
    → Joins joined (Some share) (begun_entry (note_shown share.note) begun entries)
joins_begun joined share true entries is = joins_going joined (Some share) entries is
joins_begun None share false entries is = cc
joins_begun (Some joined) share false entries is =
    let row : Option (ℕ × JournalRow) → JournalRow =
    λ found. option_map_or (λ (entry : ℕ × JournalRow). entry.1) found (record {
      note = note_shown share.note;
      act = ImportRow (reading_shown share.reading) None 0;
    }) in
    record {
      reading = nothing_read;
      kept = fin.empty;
      older = entries;
      is = λ i. record { note = (row (sym is i)).note; act = Importing nothing_read fin.empty }
          ∷ entries;
      number = ap number_part is;
      count = ap (λ found. kept_part (row found).act) is
          ∙ sym (ap length (members-empty by_bytes));
      read = λ none. cc;
    }

joins_by : (joined : Option Joined) (import : Option Share) (entries : List Entry)
    → option_map joined_entry joined ≡ joining import (length entries) (newest_row entries)
    → Joins joined import (begun_entries import entries)
joins_by joined None entries is = joins_going joined None entries is
joins_by joined (Some share) entries is = joins_begun joined share share.begun entries is

-- the newest row of the tables
newest_found : (entries : List Entry)
    → get (rows_table entries) (newest_number (rows_table entries)) ≡ newest_row entries
newest_found [] = fin.get-empty nat_cmp (newest_number (rows_table []))
newest_found (entry ∷ older) = newest-found entry older

-- So it is what was found in the tables of a book.
pub joins_found : (naming : Naming) (book : Book) (newest : Newest) (joined : Option Joined)
    (import : Option Share) → FindsNewest (tables_of naming book) newest
    → option_map joined_entry joined
    ≡ joining import newest.number (option_map entry_stored newest.entry)
    → Joins joined import (begun_entries import book.journal)
joins_found naming book newest joined import finds is =
    let number : newest.number ≡ length book.journal = finds.number ∙ last_entered naming book in
    let newest_is = number ∙ sym (newest-is book.journal) in
    let row : option_map entry_stored newest.entry ≡ newest_row book.journal =
    finds.entry ∙ ap (get (rows_table book.journal)) newest_is ∙ newest_found book.journal in
    joins_by joined import book.journal (is ∙ (λ i. joining import (number i) (row i)))

-- and its number is that by which records come
pub joined_number : (joined : Option Joined) (import : Option Share) (entries : List Entry)
    → Joins joined import entries
    → option_map {U = ℕ} (λ (one : Joined). one.number) joined ≡ joined_by entries
joined_number None import entries none = sym none
joined_number (Some joined) import entries joins =
    ap Some joins.number ∙ sym (ap joined_by joins.is)

-- ---- behind the records

-- what an entry that was joined is about, if the import ended
abbrev act_ended : Option Stop → Bool → Reading → Records → Act
act_ended (Some stop) true reading kept = Imported reading (stop_shown stop) kept
act_ended ending whole reading kept = Importing reading kept

row_ended : (ending : Option Stop) (whole : Bool) (reading : Reading) (kept : Records)
    → act_row (act_ended ending whole reading kept)
    ≡ ImportRow reading (if whole then option_map stop_shown ending else None) (length (members kept))
row_ended None true reading kept = refl
row_ended None false reading kept = refl
row_ended (Some stop) true reading kept = refl
row_ended (Some stop) false reading kept = refl

ended_entry : (ending : Option Stop) (whole : Bool) (left : Book) (note : Note) (reading : Reading)
    (kept : Records) (older : List Entry)
    → left.journal ≡ record { note = note; act = Importing reading kept } ∷ older
    → (ended ending whole left).journal
    ≡ record { note = note; act = act_ended ending whole reading kept } ∷ older
ended_entry None true left note reading kept older is = is
ended_entry None false left note reading kept older is = is
ended_entry (Some stop) false left note reading kept older is = is
ended_entry (Some stop) true left note reading kept older is =
    ap (change_newest (end_with (stop_shown stop))) is

-- a journal in which no import goes on stays
ended_still : (ending : Option Stop) (whole : Bool) (left : Book) (entries : List Entry)
    → left.journal ≡ entries → joined_by entries ≡ None
    → (ended ending whole left).journal ≡ entries
ended_still None true left entries is none = is
ended_still None false left entries is none = is
ended_still (Some stop) false left entries is none = is
ended_still (Some stop) true left entries is none =
    ap (change_newest (end_with (stop_shown stop))) is ∙ unended (stop_shown stop) entries none

-- the same tables with other entries
abbrev pub with_rows : Tables → List Entry → Tables
with_rows some entries = record some { journal = rows_table entries }

-- where no record was kept nothing is written
none_renewed : (joined : Option Joined) (import : Option Share) (whole : Bool)
    (answers : List Accepted) (more : ℕ) (some : Tables) → (more == 0) ≡ true
    → renewed joined import whole answers more some ≡ some
none_renewed None import whole answers more some none = refl
none_renewed (Some joined) import whole answers more some none =
    ap (λ b. if b then some else put_journal_row joined.number (record {
      note = note_shown joined.note.now;
      act = act_renewed joined import whole answers more;
    }) some) none

-- else the row of the entry
row_renewed : (joined : Joined) (import : Option Share) (whole : Bool) (answers : List Accepted)
    (more : ℕ) (some : Tables) (book : Book)
    (joins : JoinsEntry joined import (begun_entries import book.journal)) (entries : List Entry)
    (act : Act)
    → entries ≡ record { note = note_shown joined.note.now; act = act } ∷ joins.older
    → act_row act ≡ act_renewed joined import whole answers more → (more == 0) ≡ false
    → renewed (Some joined) import whole answers more (with_rows some book.journal)
    ≡ with_rows some entries
row_renewed joined import whole answers more some book joins entries act is row some_kept =
    let note : Note = note_shown joined.note.now in
    let before : Tables = with_rows some book.journal in
    let now : Entry = record { note = note; act = act } in
    let put : RowAct → Tables =
    λ row. put_journal_row joined.number (record { note = note; act = row }) before in
    let rows = put_joined import (record { note = note; act = Importing joins.reading joins.kept })
    now joins.older joined.number joins.number book.journal joins.is ∙ ap rows_table (sym is) in
    ap (λ b. if b then before else put (act_renewed joined import whole answers more)) some_kept
    ∙ ap put (sym row) ∙ (λ i. record some { journal = rows i })

-- a journal that they do not join stays, whatever their import says
untold : (naming : Naming) (note : Note) (begun : Bool) (reading : Reading) (ending : Option Stop)
    (whole : Bool) (book : Book) (newest : Event) (earlier : List Event)
    → AreNew naming (begun_with note begun book) (newest ∷ earlier)
    → joined_by (begun_entry note begun book.journal) ≡ None
    → (after_all (told_end ending whole (told note begun reading (newest ∷ earlier))) book).journal
    ≡ book.journal
untold naming note true reading ending whole book newest earlier new none =
    let left : Book = after (ImportRead reading) (after_all (newest ∷ earlier) book) in
    ap (λ (left : Book). left.journal) (told_left note true book reading ending whole newest earlier)
    ∙ ended_still ending whole left book.journal
    (ap (change_newest (read_on reading)) (unjoined naming book (newest ∷ earlier) new none)
    ∙ unread reading book.journal none)
    none
untold naming note false reading ending whole book newest earlier new none = cc

-- the book with the entry that an import begins, if it begins one
abbrev pub begun_book : Option Share → Book → Book
begun_book import book = record book { journal = begun_entries import book.journal }

-- So it is behind all that an import says.
pub group_renewed : (naming : Naming) (joined : Option Joined) (import : Option Share)
    (whole : Bool) (answers : List Accepted) (more : ℕ) (some : Tables) (book : Book)
    (events : List Event) → AreNew naming (begun_book import book) events
    → IsJournaled (begun_book import book) → Joins joined import (begun_entries import book.journal)
    → more ≡ length events
    → renewed joined import whole answers more (with_rows some book.journal)
    ≡ with_rows some (after_all (told_by import whole answers events) book).journal
group_renewed naming joined import whole answers more some book [] new are joins count =
    none_renewed joined import whole answers more (with_rows some book.journal) (eq-eqb more 0 count)
    ∙ ap (λ events. with_rows some (after_all events book).journal)
    (sym (none_told import whole answers))
group_renewed naming None None whole answers more some book (newest ∷ earlier) new are none count =
    ap (with_rows some) (sym (unjoined naming book (newest ∷ earlier) new none))
group_renewed naming None (Some share) whole answers more some book (newest ∷ earlier) new are none
    count =
    ap (with_rows some) (sym (untold naming (note_shown share.note) share.begun
    (read_with answers (reading_shown share.reading)) share.ending whole book newest earlier new
    none))
group_renewed naming (Some joined) None whole answers more some book (newest ∷ earlier) new are joins
    count =
    let has = grown naming book (note_shown joined.note.now) joins.reading joins.kept joins.older
    (newest ∷ earlier) new are joins.is in
    let all = has.count in
    let before = joins.count in
    let kept : length (members has.all) ≡ joined.kept + more =
    omega (arith, all, before, count) in
    row_renewed joined None whole answers more some book joins
    (after_all (newest ∷ earlier) book).journal (Importing joins.reading has.all) has.is
    (λ i. ImportRow (sym (joins.read refl) i) None (kept i))
    (ne_eqb more 0 (λ none. omega (arith, none, count)))
group_renewed naming (Some joined) (Some share) whole answers more some book (newest ∷ earlier) new are
    joins count =
    let note : Note = note_shown share.note in
    let reading : Reading = read_with answers (reading_shown share.reading) in
    let begun : Book = begun_with note share.begun book in
    let has = grown naming begun (note_shown joined.note.now) joins.reading joins.kept joins.older
    (newest ∷ earlier) new are joins.is in
    let all = has.count in
    let before = joins.count in
    let kept : length (members has.all) ≡ joined.kept + more =
    omega (arith, all, before, count) in
    let left : Book = after (ImportRead reading) (after_all (newest ∷ earlier) begun) in
    let entries : List Entry =
    (after_all (told_by (Some share) whole answers (newest ∷ earlier)) book).journal in
    let is =
    ap (λ (left : Book). left.journal)
    (told_left note share.begun book reading share.ending whole newest earlier)
    ∙ ended_entry share.ending whole left (note_shown joined.note.now) reading has.all joins.older
    (ap (change_newest (read_on reading)) has.is) in
    row_renewed joined (Some share) whole answers more some book joins entries
    (act_ended share.ending whole reading has.all) is
    (row_ended share.ending whole reading has.all
    ∙ ap (ImportRow reading (if whole then option_map stop_shown share.ending else None)) kept)
    (ne_eqb more 0 (λ none. omega (arith, none, count)))
