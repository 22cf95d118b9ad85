-- Entries of the journal, as they are read of their rows.
use Rattle.std.proofs.Common.{◌≡◌, ◌∙◌, ℕ, ℤ, pos, List, [], ◌∷◌, ◌++◌, Option, None, Some, map}
use Rattle.std.proofs.Common.{Bool, false, true, true≢false, ap, refl, subst, sym}
use Rattle.std.specs.Prelude.{option_map, string_bytes}
use Rattle.std.specs.FinMap.{entries, get}
use Rattle.sqlite_value.specs.Order.{Row}
use Rattle.sqlite_value.specs.declared.value.Value.TheVariants.{Int, Text}
use Rattle.book_model.specs.Journal.{AdoptionOf, AtEnd, AtFrame, AtLedger, AtRead, AtReadLimit}
use Rattle.book_model.specs.Journal.{ChoiceOf, CloseOf, CreditOf, Ending, Note, Place, Reading}
use Rattle.book_model.specs.Journal.{ReplacementOf, TariffOf}
use Rattle.book_model.specs.Words.{ending_shown, note_shown, place_shown, reading_shown}
use Rattle.book_model.specs.Words.{same_bytes}
use Rattle.book_model.specs.declared.entry.Ending.{Ending as StoredEnding}
use Rattle.book_model.specs.declared.note.Note.{Note as StoredNote}
use Rattle.book_model.specs.declared.note.Reading.{Reading as StoredReading}
use Rattle.table_model.specs.Tables.{ImportRow, JournalRow, RowAct, RulingRow, Tables}
use Rattle.tree_rows.specs.Layouts.{Answers}
use Rattle.tree_rows.specs.Rows.{Finds}
use Rattle.tree_rows.proofs.Keyed.{row_found}
use Rattle.tree_tables.specs.EntriesRead.{FindsEntry, SaysAct, SaysEntry, SaysNote, SaysReading}
use Rattle.tree_tables.specs.JournalColumns.{act_columns, act_stored, ending_number, ending_word}
use Rattle.tree_tables.specs.JournalColumns.{entry_stored, import_word, journal_columns}
use Rattle.tree_tables.specs.JournalColumns.{ending_in, place_in, place_number, place_word}
use Rattle.tree_tables.specs.declared.entry_rows.StoredAct.{StoredAct}
use Rattle.tree_tables.specs.declared.entry_rows.StoredAct.TheVariants as stored
use Rattle.tree_tables.specs.declared.entry_rows.StoredEntry.{StoredEntry}
use Rattle.tree_tables.proofs.Layouts.{journal_layout}
use Rattle.tree_tables.proofs.RowsRead.{same_blob, same_count, same_int, same_text}

-- ---- places and endings are known by their words and numbers

pub place_back : (place : Place) → place_in (place_word place) (place_number place) ≡ place
place_back (TariffOf day) = refl
place_back (CloseOf period) = refl
place_back (ChoiceOf number) = refl
place_back AdoptionOf = refl
place_back (ReplacementOf number) = refl
place_back (CreditOf number) = refl

same_place : (one other : Place) → place_word one ≡ place_word other
    → place_number one ≡ place_number other → one ≡ other
same_place one other word number =
    sym (place_back one) ∙ (λ i. place_in (word i) (number i)) ∙ place_back other

pub ending_back : (ending : Option Ending)
    → ending_in (ending_word ending) (ending_number ending) ≡ ending
ending_back None = refl
ending_back (Some AtEnd) = refl
ending_back (Some (AtFrame number)) = refl
ending_back (Some AtRead) = refl
ending_back (Some AtReadLimit) = refl
ending_back (Some (AtLedger number)) = refl

same_ending : (one other : Option Ending) → ending_word one ≡ ending_word other
    → ending_number one ≡ ending_number other → one ≡ other
same_ending one other word number =
    sym (ending_back one) ∙ (λ i. ending_in (word i) (number i)) ∙ ending_back other

-- no ruling has the word of an import
other_word : (place : Place) → same_bytes (place_word place) import_word ≡ false
other_word (TariffOf day) = refl
other_word (CloseOf period) = refl
other_word (ChoiceOf number) = refl
other_word AdoptionOf = refl
other_word (ReplacementOf number) = refl
other_word (CreditOf number) = refl

no_import : (place : Place) → place_word place ≡ import_word → ⊥
no_import place is =
    true≢false (sym (ap (λ word. same_bytes word import_word) is) ∙ other_word place)

-- ---- what is read of a row is what it is made of

note_said : (number : ℕ) (entry : JournalRow) (note : StoredNote)
    → SaysNote (journal_columns (number, entry)) note → note_shown note ≡ entry.note
note_said number entry note says =
    let time = same_count note.time entry.note.time (sym says.time) in
    let person = same_text (string_bytes note.person) entry.note.person (sym says.person) in
    let remark = same_text (string_bytes note.remark) entry.note.remark (sym says.remark) in
    let file = same_text (string_bytes note.file) entry.note.file (sym says.file) in
    λ i. record { time = time i; person = person i; remark = remark i; file = file i }

-- what an import has read
reading_said : (number : ℕ) (note : Note) (found : Reading) (ending : Option Ending) (kept : ℕ)
    (reading : StoredReading)
    → SaysReading (journal_columns (
      number,
      record {
        note = note;
        act = ImportRow found ending kept;
      },
    )) reading
    → reading_shown reading ≡ found
reading_said number note found ending kept reading says =
    let digest = same_blob reading.digest found.digest (sym says.digest) in
    let length = same_count reading.length found.length (sym says.length) in
    let known = same_count reading.known found.known (sym says.known) in
    let unpriced = same_count reading.unpriced found.unpriced (sym says.unpriced) in
    let other = same_count reading.other found.other (sym says.other) in
    let headers = same_count reading.headers found.headers (sym says.headers) in
    let trailers = same_count reading.trailers found.trailers (sym says.trailers) in
    let lost = same_count reading.lost found.lost (sym says.lost) in
    let continued = same_count reading.continued found.continued (sym says.continued) in
    let damaged = same_count reading.damaged found.damaged (sym says.damaged) in
    λ i. record {
      digest = digest i;
      length = length i;
      known = known i;
      unpriced = unpriced i;
      other = other i;
      headers = headers i;
      trailers = trailers i;
      lost = lost i;
      continued = continued i;
      damaged = damaged i;
    }

-- what the entry is about
act_said : (number : ℕ) (note : Note) (act : RowAct) (read : StoredAct)
    → SaysAct (journal_columns (number, record { note = note; act = act })) read
    → act_stored read ≡ act
act_said number note (RulingRow place) (stored.Ruling read) says =
    ap RulingRow (same_place (place_shown read) place
    (same_text (place_word (place_shown read)) (place_word place) (sym says.0))
    (same_int (place_number (place_shown read)) (place_number place) (sym says.1)))
act_said number note (RulingRow place) (stored.Import reading ending kept) says =
    absurd (no_import place (same_text (place_word place) import_word says.word))
act_said number note (ImportRow found ending kept) (stored.Ruling read) says =
    absurd (no_import (place_shown read)
    (same_text (place_word (place_shown read)) import_word (sym says.0)))
act_said number note (ImportRow found ending kept) (stored.Import reading read count) says =
    let as_read = reading_said number note found ending kept reading says.read in
    let ended = same_ending (option_map ending_shown read) ending
    (same_text (ending_word (option_map ending_shown read)) (ending_word ending) (sym says.stop))
    (same_count (ending_number (option_map ending_shown read)) (ending_number ending)
    (sym says.fault)) in
    let counted = same_count count kept (sym says.count) in
    λ i. ImportRow (as_read i) (ended i) (counted i)

-- so the entry that a row says is the one that the row is made of
pub entry_said : (number : ℕ) (entry : JournalRow) (read : StoredEntry)
    → SaysEntry (journal_columns (number, entry)) read → entry_stored read ≡ entry
entry_said number entry read says =
    let note = note_said number entry read.note says.note in
    let act = act_said number entry.note entry.act read.act says.act in
    λ i. record { note = note i; act = act i }

-- An entry is looked up by its number.
module _ (number : ℕ) (tables : Tables) {rows : List Row} {key row : Row} {hit : Bool}
    (held : rows ≡ map journal_columns (entries tables.journal)) (key_is : key ≡ Int (pos number) ∷ [])
    (finds : Finds key rows row hit) where
  -- one that is not found is not there,
  pub entry_missing : hit ≡ false → FindsEntry number tables None
  entry_missing missing =
      sym (subst (Answers journal_layout tables.journal number row) missing
      (row_found journal_layout tables.journal number finds held key_is))

  -- one that is found is there, and the row is its own,
  entry_there : hit ≡ true
      → (found : JournalRow) × (get tables.journal number ≡ Some found)
      × (row ≡ journal_columns (number, found))
  entry_there there =
      subst (Answers journal_layout tables.journal number row) there
      (row_found journal_layout tables.journal number finds held key_is)

  -- and what is read of the row is the entry
  pub entry_found : (read : StoredEntry) → hit ≡ true → SaysEntry row read
      → FindsEntry number tables (Some read)
  entry_found read there says =
      let found = entry_there there in
      ap Some (entry_said number found.0 read
      (subst (λ columns. SaysEntry columns read) found.2 says))
      ∙ sym found.1
