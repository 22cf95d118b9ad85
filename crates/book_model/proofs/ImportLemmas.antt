-- An import has one entry, if it kept a record.
use Rattle.std.proofs.Common.{◌≡◌, ℕ, true, List, [], ◌∷◌, ◌++◌, map, Option, Some, None}
use Rattle.std.proofs.Common.{refl, sym, ap, ◌∙◌, is_some, true≢false, append_assoc}
use Rattle.std.proofs.Common.{append-nil}
use Rattle.book_model.specs.Words.{Book, Ending, Entry, Event, ImportBegun}
use Rattle.book_model.specs.Words.{ImportRead, Importing, Note, Portion, Reading, RecordKept}
use Rattle.book_model.specs.Words.{Records}
use Rattle.book_model.specs.Words.{after_all, change_newest, end_with, import_events, read_on, told}
use Rattle.book_model.specs.Words.{keep_in, nothing_read, told_so_far, with_import}
use Rattle.book_model.specs.JournalLaws.{OneEntryAnImport}
use Rattle.book_model.specs.Notes.{with_all, with_ended, with_portion}
use Rattle.std.specs.FinMap as fin

-- the events of records that were kept
abbrev keeps : List (List ℕ) → List Event
keeps kept = map (λ bytes. RecordKept bytes) kept

-- they are kept by the import that goes on
kept_more : (before : Book) (events : List Event) (note : Note) (reading : Reading)
    (records : Records) (older : List Entry) (kept : List (List ℕ))
    → (after_all events before).journal
    ≡ record { note = note; act = Importing reading records } ∷ older
    → (after_all (keeps kept ++ events) before).journal
    ≡ record { note = note; act = Importing reading (with_all kept records) } ∷ older
kept_more before events note reading records older [] is = is
kept_more before events note reading records older (bytes ∷ kept) is =
    ap (change_newest (keep_in bytes)) (kept_more before events note reading records older kept is)

-- a change of an import that has an entry, or none, so far
module _ (before : Book) (note : Note) where
  one_more : (earlier : List Event) (so_far : Option (Reading × Records)) (kept : List (List ℕ))
      (reading : Reading)
      → (after_all earlier before).journal ≡ with_import note so_far before.journal
      → (after_all (told note (is_some so_far) reading (keeps kept) ++ earlier) before).journal
      ≡ with_import note (with_portion kept reading so_far) before.journal
  one_more earlier so_far [] reading is = is
  one_more earlier None (bytes ∷ kept) reading is =
      let begun : List Event = ImportBegun note ∷ earlier in
      ap (λ events. (after_all (ImportRead reading ∷ events) before).journal)
      (append_assoc (keeps (bytes ∷ kept)) (ImportBegun note ∷ []) earlier)
      ∙ ap (change_newest (read_on reading))
      (kept_more before begun note nothing_read fin.empty before.journal (bytes ∷ kept)
      (ap (λ older. record { note = note; act = Importing nothing_read fin.empty } ∷ older) is))
  one_more earlier (Some so_far) (bytes ∷ kept) reading is =
      ap (λ events. (after_all (ImportRead reading ∷ (events ++ earlier)) before).journal)
      (append-nil (keeps (bytes ∷ kept)))
      ∙ ap (change_newest (read_on reading))
      (kept_more before earlier note so_far.0 so_far.1 before.journal (bytes ∷ kept) is)

  grown : (portions : List Portion)
      → (after_all (import_events note portions) before).journal
      ≡ with_import note (told_so_far portions) before.journal
  grown [] = refl
  grown (portion ∷ earlier) =
      one_more (import_events note earlier) (told_so_far earlier) portion.kept portion.reading
      (grown earlier)

-- the end
ended : (note : Note) (ending : Ending) (so_far : Option (Reading × Records)) (journal : List Entry)
    → is_some so_far ≡ true
    → change_newest (end_with ending) (with_import note so_far journal)
    ≡ with_ended note ending so_far journal
ended note ending None journal there = absurd (true≢false (sym there))
ended note ending (Some so_far) journal there = refl

pub one_entry_an_import : OneEntryAnImport
one_entry_an_import = record {
  so_far = λ before note portions. grown before note portions;
  ended = λ before note portions ending there.
      ap (change_newest (end_with ending)) (grown before note portions)
      ∙ ended note ending (told_so_far portions) before.journal there;
}
