-- The rows of the journal, and by which entry each record came, after an event.
use Rattle.std.proofs.Common.{◌≡◌, ℕ, ◌+◌, true, false, List, [], ◌∷◌, ◌++◌, length, refl}
use Rattle.std.proofs.Common.{sym, ap, ◌∙◌, Option, Some, None, arith, cond, true≢false, subst, map}
use Rattle.std.proofs.Common.{length-append, nat_cmp}
use Rattle.std.specs.FinMap.{find}
use Rattle.book_model.proofs.Std.{get, insert, from_entries, option_map_or, nat_cmp_total}
use Rattle.book_model.proofs.Std.{nat_cmp-IsAntisymmetric, nat_list_cmp_total, exact_bytes}
use Rattle.book_model.specs.Words.{Act, Book, CloseOf, Ending, Entry, Event, ImportBegun}
use Rattle.book_model.specs.Words.{ImportEnded}
use Rattle.book_model.specs.Words.{ImportRead, Imported, Importing, IsAnswered, IsMadeByCalls}
use Rattle.book_model.specs.Words.{Naming}
use Rattle.book_model.specs.Words.{Note, PeriodClosed, Place, Reading, RecordKept, Records, Ruled}
use Rattle.book_model.specs.Words.{RulingGiven, book_after, by_bytes, change_newest, end_with}
use Rattle.book_model.specs.Words.{entries_after, goes_on, has, keep_in, kept_by, members, name_of}
use Rattle.book_model.specs.Words.{nothing_read, open_by, place_of, read_on, times_kept, with}
use Rattle.book_model.specs.Words.{with_entry}
use Rattle.book_model.proofs.JournalLemmas.{each_came_once, end-kept, journal_is, read-kept}
use Rattle.book_model.proofs.JournalLemmas.{cond_none, times-cons}
use Rattle.book_model.proofs.Lemmas.{find-both, get-inserted, insert-insert, is, kept_passes}
use Rattle.book_model.proofs.Lemmas.{length-alike, members-empty}
use Rattle.book_model.proofs.MapLemmas.{else_find, from_entries-insert}
use Rattle.book_model.proofs.SetChanges.{IsUnnamed, members_with}
use Rattle.table_model.specs.JournalRows.{act_row, came_changed, came_entries, change_row, end_row}
use Rattle.table_model.specs.JournalRows.{journal_changed, journal_row, journal_rows, keep_row}
use Rattle.table_model.specs.JournalRows.{newest_number, put_entry, read_row, row_goes_on}
use Rattle.table_model.specs.Journaled.{AreEntries, IsJournaled}
use Rattle.table_model.specs.Tables.{CameTable, ImportRow, JournalRow, JournalTable, RowAct}
use Rattle.table_model.specs.UnderNames.{under_names}
use Rattle.table_model.specs.Words.{under_numbers}
use Rattle.table_model.proofs.LineChanges.{lines-with}
use Rattle.table_model.proofs.KeptLemmas.{unnamed_kept}
use Rattle.table_model.proofs.UnderNumbers.{next_number, values-numbers}
use Rattle.std.specs.FinMap as fin

-- the rows under their numbers
abbrev pub rows_table : List Entry → JournalTable
rows_table entries = from_entries (under_numbers 1 (journal_rows entries))

-- as many as entries
pub rows-length : (entries : List Entry) → length (journal_rows entries) ≡ length entries
rows-length [] = refl
rows-length (entry ∷ older) =
    omega (arith, length-append (journal_rows older) (journal_row entry ∷ []), rows-length older)

-- the newest has the number of all
pub newest-is : (entries : List Entry) → newest_number (rows_table entries) ≡ length entries
newest-is entries = ap length (values-numbers (journal_rows entries)) ∙ rows-length entries

-- an entry more
pub one-entry : (entry : Entry) (older : List Entry) (number : ℕ) → number ≡ length older + 1
    → rows_table (entry ∷ older) ≡ insert (rows_table older) number (journal_row entry)
one-entry entry older number is =
    next_number (journal_rows older) (journal_row entry) number
    (omega (arith, rows-length older, is))

put-follows : (said : Option Note) (act : Act) (row : RowAct) → act_row act ≡ row
    → (entries : List Entry)
    → rows_table (with_entry said act entries) ≡ put_entry said row (rows_table entries)
put-follows None act row same entries = refl
put-follows (Some note) act row same entries =
    let number : ℕ = newest_number (rows_table entries) + 1 in
    one-entry (record { note = note; act = act }) entries number
    (ap (λ n. n + 1) (newest-is entries))
    ∙ ap (λ row. insert (rows_table entries) number (record { note = note; act = row })) same

-- the newest row is found under the number of all
pub newest-found : (entry : Entry) (older : List Entry)
    → get (rows_table (entry ∷ older)) (newest_number (rows_table (entry ∷ older)))
    ≡ Some (journal_row entry)
newest-found entry older =
    let number : ℕ = newest_number (rows_table (entry ∷ older)) in
    ap (λ rows. get rows number) (one-entry entry older number (newest-is (entry ∷ older) ∙ omega arith))
    ∙ get-inserted nat_cmp_total nat_cmp-IsAntisymmetric (rows_table older) number (journal_row entry)

-- the change of the newest entry's row is that of the entry
abbrev SameForNewest : (Act → Act) → (RowAct → RowAct) → List Entry → Type 0
SameForNewest change changed [] = Unit {0}
SameForNewest change changed (entry ∷ older) = act_row (change entry.act) ≡ changed (act_row entry.act)

change-follows : (change : Act → Act) (changed : RowAct → RowAct) (entries : List Entry)
    → SameForNewest change changed entries
    → rows_table (change_newest change entries) ≡ change_row changed (rows_table entries)
change-follows change changed [] same =
    sym (ap (λ found. option_map_or (λ (row : JournalRow).
    insert (rows_table []) (newest_number (rows_table [])) (record row { act = changed row.act }))
    found (rows_table []))
    (fin.get-empty nat_cmp (newest_number (rows_table []))))
change-follows change changed (entry ∷ older) same =
    let rows : JournalTable = rows_table (entry ∷ older) in
    let number : ℕ = newest_number rows in
    let is : number ≡ length older + 1 = newest-is (entry ∷ older) ∙ omega arith in
    let now : Entry = record entry { act = change entry.act } in
    let put : JournalRow → JournalTable = λ row. insert rows number row in
    one-entry now older number is
    ∙ ap (λ act. insert (rows_table older) number (record { note = entry.note; act = act })) same
    ∙ sym (insert-insert nat_cmp_total nat_cmp-IsAntisymmetric (rows_table older) number
    (journal_row entry) (record { note = entry.note; act = changed (act_row entry.act) }))
    ∙ ap (λ before. insert before number
    (record { note = entry.note; act = changed (act_row entry.act) }))
    (sym (one-entry entry older number is))
    ∙ sym (ap (λ found. option_map_or (λ (row : JournalRow).
    put (record row { act = changed row.act })) found rows) (newest-found entry older))

read-same : (reading : Reading) (act : Act) → act_row (read_on reading act) ≡ read_row reading (act_row act)
read-same reading (Ruled place) = refl
read-same reading (Importing before kept) = refl
read-same reading (Imported before ending kept) = refl

end-same : (ending : Ending) (act : Act) → act_row (end_with ending act) ≡ end_row ending (act_row act)
end-same ending (Ruled place) = refl
end-same ending (Importing reading kept) = refl
end-same ending (Imported reading before kept) = refl

keep-same : (bytes : List ℕ) (act : Act) → has (kept_by act) bytes ≡ false
    → act_row (keep_in bytes act) ≡ keep_row (act_row act)
keep-same bytes (Ruled place) new = refl
keep-same bytes (Importing reading kept) new =
    let more = length-alike (members_with kept bytes new) in
    let count : length (members (with kept bytes)) ≡ length (members kept) + 1 = omega arith in
    ap (ImportRow reading None) count
keep-same bytes (Imported reading ending kept) new = refl

all-same : (change : Act → Act) (changed : RowAct → RowAct)
    → ((act : Act) → act_row (change act) ≡ changed (act_row act)) → (entries : List Entry)
    → SameForNewest change changed entries
all-same change changed same [] = tt
all-same change changed same (entry ∷ older) = same entry.act

-- what the newest entry kept is held
pub newest-kept : (entry : Entry) (older : List Entry) (bytes : List ℕ)
    → times_kept (entry ∷ older) bytes ≡ 0 → has (kept_by entry.act) bytes ≡ false
newest-kept entry older bytes none =
    (cond_none (has (kept_by entry.act) bytes) (times_kept older bytes)
    (sym (times-cons entry older bytes) ∙ none)).0

keep-newest : (bytes : List ℕ) (entries : List Entry) → times_kept entries bytes ≡ 0
    → SameForNewest (keep_in bytes) keep_row entries
keep-newest bytes [] none = tt
keep-newest bytes (entry ∷ older) none =
    keep-same bytes entry.act (newest-kept entry older bytes none)

-- the journal's rows after an event
pub journal_follows : (naming : Naming) (book : Book) (event : Event) → IsJournaled book
    → IsAnswered naming event book
    → rows_table (entries_after event book.rulings book.journal)
    ≡ journal_changed book.rulings event (rows_table book.journal)
journal_follows naming book (RecordKept bytes) journaled answered =
    change-follows (keep_in bytes) keep_row book.journal
    (keep-newest bytes book.journal
    (journaled.held bytes (kept_passes naming book bytes answered).is_new))
journal_follows naming book (PeriodClosed said day) journaled answered =
    put-follows said (Ruled (CloseOf (open_by book.rulings))) _ refl book.journal
journal_follows naming book (RulingGiven said ruling) journaled answered =
    put-follows said (Ruled (place_of ruling book.rulings)) _ refl book.journal
journal_follows naming book (ImportBegun note) journaled answered =
    put-follows (Some note) (Importing nothing_read fin.empty) (ImportRow nothing_read None 0)
    (ap (λ list. ImportRow nothing_read None (length list)) (members-empty by_bytes)) book.journal
journal_follows naming book (ImportRead reading) journaled answered =
    change-follows (read_on reading) (read_row reading) book.journal
    (all-same (read_on reading) (read_row reading) (read-same reading) book.journal)
journal_follows naming book (ImportEnded ending) journaled answered =
    change-follows (end_with ending) (end_row ending) book.journal
    (all-same (end_with ending) (end_row ending) (end-same ending) book.journal)

-- ---- by which entry each record came

abbrev pub came_table : Naming → List Entry → CameTable
came_table naming entries = from_entries (came_entries naming entries)

-- an entry that kept none adds none
pub came-none : (naming : Naming) (entry : Entry) (older : List Entry) → kept_by entry.act ≡ fin.empty
    → came_table naming (entry ∷ older) ≡ came_table naming older
came-none naming entry older none =
    let at : List (List ℕ) → List (List ℕ × ℕ) =
    map (λ bytes. (name_of naming bytes, length older + 1)) in
    ap (λ kept. from_entries (under_names naming (length older + 1) kept ++ came_entries naming older))
    none
    ∙ ap (λ list. from_entries (at list ++ came_entries naming older)) (members-empty by_bytes)

came-entry : (naming : Naming) (said : Option Note) (place : Place) (entries : List Entry)
    → came_table naming (with_entry said (Ruled place) entries) ≡ came_table naming entries
came-entry naming None place entries = refl
came-entry naming (Some note) place entries =
    came-none naming (record { note = note; act = Ruled place }) entries refl

pub came-changed : (naming : Naming) (change : Act → Act)
    → ((act : Act) → kept_by (change act) ≡ kept_by act) → (entries : List Entry)
    → came_table naming (change_newest change entries) ≡ came_table naming entries
came-changed naming change same [] = refl
came-changed naming change same (entry ∷ older) =
    ap (λ kept. from_entries (under_names naming (length older + 1) kept ++ came_entries naming older))
    (same entry.act)

-- a record more of an import that goes on
came-more : (naming : Naming) (number : ℕ) (bytes : List ℕ) (kept : Records)
    (rest : List (List ℕ × ℕ)) → IsUnnamed naming bytes kept
    → ◌≡◌ {A = CameTable} (from_entries (under_names naming number (with kept bytes) ++ rest))
    (insert (from_entries (under_names naming number kept ++ rest)) (name_of naming bytes) number)
came-more naming number bytes kept rest unnamed =
    from_entries-insert nat_list_cmp_total exact_bytes (under_names naming number kept ++ rest)
    (under_names naming number (with kept bytes) ++ rest) (name_of naming bytes) number (λ q.
    find-both by_bytes q (under_names naming number (with kept bytes)) rest
    ∙ ap (λ found. else_find found (find by_bytes q rest))
    (lines-with naming number bytes kept unnamed q)
    ∙ elim (is q (name_of naming bytes)) as (λ b.
    else_find (cond b (Some number) (find by_bytes q (under_names naming number kept)))
    (find by_bytes q rest)
    ≡ cond b (Some number) (else_find (find by_bytes q (under_names naming number kept))
    (find by_bytes q rest))) [ true ↦ refl | false ↦ refl ]
    ∙ ap (cond (is q (name_of naming bytes)) (Some number))
    (sym (find-both by_bytes q (under_names naming number kept) rest)))

-- whether an import goes on is seen in its row
pub row-goes : (act : Act) → row_goes_on (act_row act) ≡ goes_on act
row-goes (Ruled place) = refl
row-goes (Importing reading kept) = refl
row-goes (Imported reading ending kept) = refl

came-act : (naming : Naming) (note : Note) (act : Act) (older : List Entry) (bytes : List ℕ)
    → IsUnnamed naming bytes (kept_by act)
    → came_table naming (record { note = note; act = keep_in bytes act } ∷ older)
    ≡ cond (goes_on act)
    (insert (came_table naming (record { note = note; act = act } ∷ older)) (name_of naming bytes)
    (length older + 1))
    (came_table naming (record { note = note; act = act } ∷ older))
came-act naming note (Ruled place) older bytes unnamed = refl
came-act naming note (Importing reading kept) older bytes unnamed =
    came-more naming (length older + 1) bytes kept (came_entries naming older) unnamed
came-act naming note (Imported reading ending kept) older bytes unnamed = refl

came-kept : (naming : Naming) (entries : List Entry) (bytes : List ℕ)
    → ((entry : Entry) (older : List Entry) → entries ≡ entry ∷ older
    → IsUnnamed naming bytes (kept_by entry.act))
    → came_table naming (change_newest (keep_in bytes) entries)
    ≡ came_changed naming (RecordKept bytes) (rows_table entries) (came_table naming entries)
came-kept naming [] bytes unnamed =
    sym (ap (λ found. cond (option_map_or (λ (row : JournalRow). row_goes_on row.act) found false)
    (insert (came_table naming []) (name_of naming bytes) (newest_number (rows_table [])))
    (came_table naming []))
    (fin.get-empty nat_cmp (newest_number (rows_table []))))
came-kept naming (entry ∷ older) bytes unnamed =
    let rows : JournalTable = rows_table (entry ∷ older) in
    let came : CameTable = came_table naming (entry ∷ older) in
    let is : length older + 1 ≡ newest_number rows =
    omega (arith, newest-is (entry ∷ older)) in
    came-act naming entry.note entry.act older bytes (unnamed entry older refl)
    ∙ (λ i. cond (sym (row-goes entry.act) i) (insert came (name_of naming bytes) (is i)) came)
    ∙ sym (ap (λ found. cond (option_map_or (λ (row : JournalRow). row_goes_on row.act) found false)
    (insert came (name_of naming bytes) (newest_number rows)) came) (newest-found entry older))

-- what is not held has no name that the newest entry's records have
unnamed_newest : (naming : Naming) (book : Book) (bytes : List ℕ) → IsJournaled book
    → IsAnswered naming (RecordKept bytes) book
    → (entry : Entry) (older : List Entry) → book.journal ≡ entry ∷ older
    → IsUnnamed naming bytes (kept_by entry.act)
unnamed_newest naming book bytes journaled answered entry older is other there =
    unnamed_kept naming book bytes answered other
    (elim (has book.held other) as (λ b. has book.held other ≡ b → b ≡ true) [
      | true ↦ λ held. refl
      | false ↦ λ out.
          absurd (true≢false (sym there
          ∙ newest-kept entry older other
          (ap (λ entries. times_kept entries other) (sym is) ∙ journaled.held other out)))
    ] refl)

-- the names after an event
pub came_follows : (naming : Naming) (book : Book) (event : Event) → IsJournaled book
    → IsAnswered naming event book
    → came_table naming (entries_after event book.rulings book.journal)
    ≡ came_changed naming event (rows_table book.journal) (came_table naming book.journal)
came_follows naming book (RecordKept bytes) journaled answered =
    came-kept naming book.journal bytes (unnamed_newest naming book bytes journaled answered)
came_follows naming book (PeriodClosed said day) journaled answered =
    came-entry naming said (CloseOf (open_by book.rulings)) book.journal
came_follows naming book (RulingGiven said ruling) journaled answered =
    came-entry naming said (place_of ruling book.rulings) book.journal
came_follows naming book (ImportBegun note) journaled answered =
    came-none naming (record { note = note; act = Importing nothing_read fin.empty }) book.journal refl
came_follows naming book (ImportRead reading) journaled answered =
    came-changed naming (read_on reading) (read-kept reading) book.journal
came_follows naming book (ImportEnded ending) journaled answered =
    came-changed naming (end_with ending) (end-kept ending) book.journal

-- books that calls made have such journals
pub journaled_after : (naming : Naming) (history : List Event) → IsMadeByCalls naming history
    → IsJournaled (book_after history)
journaled_after naming history made =
    subst (AreEntries (book_after history).held) (sym (journal_is history))
    (record {
      held = λ bytes out. each_came_once.none naming history bytes made out;
      once = λ bytes. each_came_once.once naming history bytes made;
    })
