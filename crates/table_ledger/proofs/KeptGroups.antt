-- Records that are kept one after another, and what becomes of the entry that they join.
use Rattle.std.proofs.Common.{◌≡◌, ◌∙◌, ◌+◌, ◌++◌, ℕ, Bool, List, [], ◌∷◌, None, Ok, Err, Option}
use Rattle.std.proofs.Common.{Result, Some, ap, arith, drop, false, if◌then◌else◌, length, nat_cmp, refl}
use Rattle.std.proofs.Common.{subst, sym, true}
use Rattle.book_model.proofs.Std.{insert, nat_cmp-IsAntisymmetric, nat_cmp_total}
use Rattle.book_model.specs.declared.answer.Accepted.{Accepted}
use Rattle.book_model.specs.declared.answer.Accepted.TheVariants.{Kept, Known, Unpriced}
use Rattle.book_model.specs.declared.fault.LedgerFault.{LedgerFault}
use Rattle.book_model.specs.declared.note.Share.{Share}
use Rattle.book_model.specs.declared.note.Stop.{Stop}
use Rattle.book_model.specs.JournalLaws.{goes_on_in}
use Rattle.book_model.specs.Words.{Act, Book, Ending, Entry, Event, ImportBegun, ImportEnded, ImportRead}
use Rattle.book_model.specs.Words.{Imported, Importing, IsAnswered, Naming, Note, PeriodClosed}
use Rattle.book_model.specs.Words.{Reading, RecordKept, Records, Ruled, RulingGiven, accept_answer}
use Rattle.book_model.specs.Words.{accept_event, after, after_all, change_newest, end_with, goes_on}
use Rattle.book_model.specs.Words.{has, keep_in, members, note_shown, nothing_read, read_on}
use Rattle.book_model.specs.Words.{stop_shown, times_kept, told, told_end, with}
use Rattle.book_model.proofs.JournalLemmas.{still-all}
use Rattle.book_model.proofs.Lemmas.{insert-insert, kept_passes, length-alike}
use Rattle.book_model.proofs.SetChanges.{members_with}
use Rattle.book_core.specs.Words.{Accepts, listed}
use Rattle.book_core.proofs.TransitionLemmas.{after_all-append}
use Rattle.table_model.specs.Journaled.{IsJournaled}
use Rattle.table_model.specs.JournalRows.{journal_row}
use Rattle.table_model.proofs.JournalChanges.{newest-kept, one-entry, rows_table}
use Rattle.table_model.proofs.JournalStays.{journaled_stays}
use Rattle.table_ledger.specs.Groups.{begun_entries, begun_entry, begun_event, joined_by}
use Rattle.std.specs.FinMap as fin

-- ---- events that keep records

-- each of these events keeps a record that the books answered so
abbrev pub AreNew : Naming → Book → List Event → Type 0
AreNew naming book [] = Unit {0}
AreNew naming book (RecordKept bytes ∷ older) =
    IsAnswered naming (RecordKept bytes) (after_all older book) × AreNew naming book older
AreNew naming book (event ∷ older) = ⊥

both_new : (naming : Naming) (late early : List Event) (book : Book)
    → AreNew naming (after_all early book) late → AreNew naming book early
    → AreNew naming book (late ++ early)
both_new naming [] early book of_late of_early = of_early
both_new naming (RecordKept bytes ∷ late) early book of_late of_early = (
  subst (IsAnswered naming (RecordKept bytes)) (sym (after_all-append late early book)) of_late.0,
  both_new naming late early book of_late.1 of_early,
)
both_new naming (PeriodClosed said day ∷ late) early book of_late of_early = absurd of_late
both_new naming (RulingGiven said ruling ∷ late) early book of_late of_early = absurd of_late
both_new naming (ImportBegun note ∷ late) early book of_late of_early = absurd of_late
both_new naming (ImportRead reading ∷ late) early book of_late of_early = absurd of_late
both_new naming (ImportEnded ending ∷ late) early book of_late of_early = absurd of_late

one_new : (naming : Naming) (bytes : List ℕ) (book : Book) (answer : Result Accepted LedgerFault)
    → accept_answer naming book bytes ≡ answer
    → AreNew naming book (listed (accept_event bytes answer))
one_new naming bytes book (Ok Kept) is = (is, tt)
one_new naming bytes book (Ok Known) is = tt
one_new naming bytes book (Ok Unpriced) is = tt
one_new naming bytes book (Err fault) is = tt

-- so do the answers to some records
pub accepted_new : (naming : Naming) (records : List (List ℕ)) (answers : List Accepted) (was : Bool)
    (book : Book) (events : List Event) (is : Bool)
    → Accepts naming records answers was book events is → AreNew naming book events
accepted_new naming records [] was book events is accepts =
    subst (AreNew naming book) (sym accepts.none) tt
accepted_new naming [] (answer ∷ later) was book events is accepts = absurd accepts
accepted_new naming (bytes ∷ rest) (answer ∷ later) was book events is accepts =
    subst (AreNew naming book) (sym accepts.all)
    (both_new naming accepts.late accepts.early book
    (accepted_new naming rest later accepts.between (after_all accepts.early book) accepts.late is
    accepts.next)
    (subst (AreNew naming book) (sym accepts.first.makes.1)
    (one_new naming bytes book (accept_answer naming book bytes) refl)))

-- so many more are held
pub held_more : (naming : Naming) (book : Book) (events : List Event) → AreNew naming book events
    → length (members (after_all events book).held) ≡ length (members book.held) + length events
held_more naming book [] new = omega arith
held_more naming book (RecordKept bytes ∷ older) new =
    let before : Book = after_all older book in
    let more : length (members (with before.held bytes)) ≡ length (members before.held) + 1 =
    (let one = length-alike (members_with before.held bytes (kept_passes naming before bytes new.0).is_new)
    in omega (arith, one)) in
    let rest = held_more naming book older new.1 in
    omega (arith, more, rest)
held_more naming book (PeriodClosed said day ∷ older) new = absurd new
held_more naming book (RulingGiven said ruling ∷ older) new = absurd new
held_more naming book (ImportBegun note ∷ older) new = absurd new
held_more naming book (ImportRead reading ∷ older) new = absurd new
held_more naming book (ImportEnded ending ∷ older) new = absurd new

-- ---- what the import says leaves the answers as they are

-- a book that differs in its journal keeps the same
kept_beside : (bytes : List ℕ) (book : Book) (entries : List Entry)
    (answer : Result Accepted LedgerFault)
    → after_all (listed (accept_event bytes answer)) (record book { journal = entries })
    ≡ record (after_all (listed (accept_event bytes answer)) book) {
      journal = (after_all (listed (accept_event bytes answer))
          (record book { journal = entries })).journal;
    }
kept_beside bytes book entries (Ok Kept) = refl
kept_beside bytes book entries (Ok Known) = refl
kept_beside bytes book entries (Ok Unpriced) = refl
kept_beside bytes book entries (Err fault) = refl

left_beside : (bytes : List ℕ) (book : Book) (entries : List Entry) (events : List Event)
    (answer : Result Accepted LedgerFault) → events ≡ listed (accept_event bytes answer)
    → after_all events (record book { journal = entries })
    ≡ record (after_all events book) {
      journal = (after_all events (record book { journal = entries })).journal;
    }
left_beside bytes book entries events answer is =
    subst (λ events. after_all events (record book { journal = entries })
    ≡ record (after_all events book) {
      journal = (after_all events (record book { journal = entries })).journal;
    }) (sym is) (kept_beside bytes book entries answer)

-- records are accepted whatever the journal
pub accepts_beside : (naming : Naming) (records : List (List ℕ)) (answers : List Accepted)
    (was : Bool) (book : Book) (entries : List Entry) (events : List Event) (is : Bool)
    → Accepts naming records answers was (record book { journal = entries }) events is
    → Accepts naming records answers was book events is
accepts_beside naming records [] was book entries events is accepts =
    record { none = accepts.none; same = accepts.same }
accepts_beside naming [] (answer ∷ later) was book entries events is accepts = absurd accepts
accepts_beside naming (bytes ∷ rest) (answer ∷ later) was book entries events is accepts =
    let beside : Book = record book { journal = entries } in
    record {
      between = accepts.between;
      early = accepts.early;
      late = accepts.late;
      first = record { makes = accepts.first.makes; reopens = accepts.first.reopens };
      next = accepts_beside naming rest later accepts.between (after_all accepts.early book)
          (after_all accepts.early beside).journal accepts.late is
          (subst (λ before. Accepts naming rest later accepts.between before accepts.late is)
          (left_beside bytes book entries accepts.early (accept_answer naming book bytes)
          accepts.first.makes.1) accepts.next);
      all = accepts.all;
    }

-- ---- the entry that they join

-- the journal stays one that calls can make
pub journaled_all : (naming : Naming) (book : Book) (events : List Event)
    → AreNew naming book events → IsJournaled book → IsJournaled (after_all events book)
journaled_all naming book [] new are = are
journaled_all naming book (RecordKept bytes ∷ older) new are =
    journaled_stays naming (after_all older book) (RecordKept bytes)
    (journaled_all naming book older new.1 are) new.0
journaled_all naming book (PeriodClosed said day ∷ older) new are = absurd new
journaled_all naming book (RulingGiven said ruling ∷ older) new are = absurd new
journaled_all naming book (ImportBegun note ∷ older) new are = absurd new
journaled_all naming book (ImportRead reading ∷ older) new are = absurd new
journaled_all naming book (ImportEnded ending ∷ older) new are = absurd new

-- The newest entry's import kept so many more.
pub record HasGrown (note : Note) (reading : Reading) (kept : Records) (older : List Entry)
    (more : ℕ) (now : List Entry) : Type 0 where
  pub all : Records
  pub is : now ≡ record { note = note; act = Importing reading all } ∷ older
  pub count : length (members all) ≡ length (members kept) + more

pub grown : (naming : Naming) (book : Book) (note : Note) (reading : Reading) (kept : Records)
    (older : List Entry) (events : List Event) → AreNew naming book events → IsJournaled book
    → book.journal ≡ record { note = note; act = Importing reading kept } ∷ older
    → HasGrown note reading kept older (length events) (after_all events book).journal
grown naming book note reading kept older [] new are is =
    record { all = kept; is = is; count = omega arith }
grown naming book note reading kept older (RecordKept bytes ∷ earlier) new are is =
    let before : Book = after_all earlier book in
    let so_far = grown naming book note reading kept older earlier new.1 are is in
    let journaled = journaled_all naming book earlier new.1 are in
    let none = journaled.held bytes (kept_passes naming before bytes new.0).is_new in
    let entry : Entry = record { note = note; act = Importing reading so_far.all } in
    let apart : has so_far.all bytes ≡ false =
    newest-kept entry older bytes (subst (λ list. times_kept list bytes ≡ 0) so_far.is none) in
    let more : length (members (with so_far.all bytes)) ≡ length (members so_far.all) + 1 =
    (let one = length-alike (members_with so_far.all bytes apart) in omega (arith, one)) in
    let count = so_far.count in
    record {
      all = with so_far.all bytes;
      is = ap (change_newest (keep_in bytes)) so_far.is;
      count = omega (arith, more, count);
    }
grown naming book note reading kept older (PeriodClosed said day ∷ earlier) new are is = absurd new
grown naming book note reading kept older (RulingGiven said ruling ∷ earlier) new are is = absurd new
grown naming book note reading kept older (ImportBegun begun ∷ earlier) new are is = absurd new
grown naming book note reading kept older (ImportRead read ∷ earlier) new are is = absurd new
grown naming book note reading kept older (ImportEnded ending ∷ earlier) new are is = absurd new

-- where they join none, none goes on
none_goes : (entries : List Entry) → joined_by entries ≡ None → goes_on_in entries ≡ false
none_goes [] none = refl
none_goes (entry ∷ older) none =
    elim (goes_on entry.act) as (λ on. (if on then Some (length older + 1) else None) ≡ None
    → on ≡ false) [ true ↦ λ some. cc | false ↦ λ none. refl ] none

pub unjoined : (naming : Naming) (book : Book) (events : List Event) → AreNew naming book events
    → joined_by book.journal ≡ None → (after_all events book).journal ≡ book.journal
unjoined naming book [] new none = refl
unjoined naming book (RecordKept bytes ∷ older) new none =
    ap (change_newest (keep_in bytes)) (unjoined naming book older new.1 none)
    ∙ still-all bytes book.journal (none_goes book.journal none)
unjoined naming book (PeriodClosed said day ∷ older) new none = absurd new
unjoined naming book (RulingGiven said ruling ∷ older) new none = absurd new
unjoined naming book (ImportBegun note ∷ older) new none = absurd new
unjoined naming book (ImportRead reading ∷ older) new none = absurd new
unjoined naming book (ImportEnded ending ∷ older) new none = absurd new

-- then no import reads on or ends
read-still : (reading : Reading) (act : Act) → goes_on act ≡ false → read_on reading act ≡ act
read-still reading (Ruled place) off = refl
read-still reading (Importing before kept) off = cc
read-still reading (Imported before ending kept) off = refl

pub unread : (reading : Reading) (entries : List Entry) → joined_by entries ≡ None
    → change_newest (read_on reading) entries ≡ entries
unread reading [] none = refl
unread reading (entry ∷ older) none =
    ap (λ act. record entry { act = act } ∷ older)
    (read-still reading entry.act (none_goes (entry ∷ older) none))

end-still : (ending : Ending) (act : Act) → goes_on act ≡ false → end_with ending act ≡ act
end-still ending (Ruled place) off = refl
end-still ending (Importing reading kept) off = cc
end-still ending (Imported reading before kept) off = refl

pub unended : (ending : Ending) (entries : List Entry) → joined_by entries ≡ None
    → change_newest (end_with ending) entries ≡ entries
unended ending [] none = refl
unended ending (entry ∷ older) none =
    ap (λ act. record entry { act = act } ∷ older)
    (end-still ending entry.act (none_goes (entry ∷ older) none))

-- ---- what an import says with them

-- it ends, if it says so and all of its records were taken
abbrev pub ended : Option Stop → Bool → Book → Book
ended (Some stop) true left = after (ImportEnded (stop_shown stop)) left
ended stop whole left = left

module _ (note : Note) (begun : Bool) (book : Book) where
  -- the book with the entry that it begins
  abbrev pub begun_with : Book
  begun_with = record book { journal = begun_entry note begun book.journal }

  begun_left : after_all (begun_event note begun) book ≡ begun_with
  begun_left = elim begun as (λ begun. after_all (begun_event note begun) book
      ≡ record book { journal = begun_entry note begun book.journal }) [
        | true ↦ refl
        | false ↦ refl
      ]

  -- the book behind them
  pub told_left : (reading : Reading) (ending : Option Stop) (whole : Bool) (newest : Event)
      (earlier : List Event)
      → after_all (told_end ending whole (told note begun reading (newest ∷ earlier))) book
      ≡ ended ending whole (after (ImportRead reading) (after_all (newest ∷ earlier) begun_with))
  told_left reading ending whole newest earlier = by_end ending whole
    where
      behind : after_all ((newest ∷ earlier) ++ begun_event note begun) book
          ≡ after_all (newest ∷ earlier) begun_with
      behind =
          after_all-append (newest ∷ earlier) (begun_event note begun) book
          ∙ ap (after_all (newest ∷ earlier)) begun_left

      by_end : (ending : Option Stop) (whole : Bool)
          → after_all (told_end ending whole (told note begun reading (newest ∷ earlier))) book
          ≡ ended ending whole (after (ImportRead reading) (after_all (newest ∷ earlier) begun_with))
      by_end None true = ap (after (ImportRead reading)) behind
      by_end None false = ap (after (ImportRead reading)) behind
      by_end (Some stop) false = ap (after (ImportRead reading)) behind
      by_end (Some stop) true =
          ap (λ left. after (ImportEnded (stop_shown stop)) (after (ImportRead reading) left)) behind

-- ---- the row of the entry

-- another entry in the place of the newest, or behind all where the import begins it
put_newest : (entry now : Entry) (older : List Entry) (number : ℕ) → number ≡ length older + 1
    → (entries : List Entry) → entries ≡ entry ∷ older
    → insert (rows_table entries) number (journal_row now) ≡ rows_table (now ∷ older)
put_newest entry now older number its entries is =
    ap (λ list. insert (rows_table list) number (journal_row now)) is
    ∙ ap (λ rows. insert rows number (journal_row now)) (one-entry entry older number its)
    ∙ insert-insert nat_cmp_total nat_cmp-IsAntisymmetric (rows_table older) number
    (journal_row entry) (journal_row now)
    ∙ sym (one-entry now older number its)

put_begun : (entry now : Entry) (older : List Entry) (number : ℕ) → number ≡ length older + 1
    → (note : Note) (begun : Bool) (entries : List Entry)
    → begun_entry note begun entries ≡ entry ∷ older
    → insert (rows_table entries) number (journal_row now) ≡ rows_table (now ∷ older)
put_begun entry now older number its note true entries is =
    put_newest entry now older number its entries is
put_begun entry now older number its note false entries is =
    ap (λ list. insert (rows_table (drop 1 list)) number (journal_row now)) is
    ∙ sym (one-entry now older number its)

pub put_joined : (import : Option Share) (entry now : Entry) (older : List Entry) (number : ℕ)
    → number ≡ length older + 1 → (entries : List Entry)
    → begun_entries import entries ≡ entry ∷ older
    → insert (rows_table entries) number (journal_row now) ≡ rows_table (now ∷ older)
put_joined None entry now older number its entries is =
    put_newest entry now older number its entries is
put_joined (Some share) entry now older number its entries is =
    put_begun entry now older number its (note_shown share.note) share.begun entries is
