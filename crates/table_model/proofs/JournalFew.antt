-- The journal changes few rows.
use Rattle.std.proofs.Common.{◌≡◌, ◌≢◌, ℕ, suc, ◌+◌, Bool, true, false, List, [], ◌∷◌, length}
use Rattle.std.proofs.Common.{refl, sym, ap, ◌∙◌, Some, arith, cond}
use Rattle.book_model.proofs.Std.{exact_bytes, get, insert, nat_cmp-IsAntisymmetric}
use Rattle.book_model.proofs.Std.{nat_cmp_total, nat_list_cmp_total, option_map_or}
use Rattle.book_model.specs.Words.{Book, Entry, Event, ImportBegun, ImportEnded, ImportRead}
use Rattle.book_model.specs.Words.{Importing}
use Rattle.book_model.specs.Words.{Naming, PeriodClosed, RecordKept, RulingGiven}
use Rattle.book_model.specs.Words.{Act, after, after_all, change_newest, end_with, keep, keep_in}
use Rattle.book_model.specs.Words.{name_of, nothing_read, read_on}
use Rattle.std.specs.Prelude.{if◌then◌else◌}
use Rattle.book_model.proofs.Lemmas.{by_tie}
use Rattle.table_model.specs.Differences.{DifferAt, OfBook, OfChoice, OfClose}
use Rattle.table_model.specs.Differences.{OfCredit, OfDay, OfLine, OfRecord, OfReplaced, OfTariff}
use Rattle.table_model.specs.Differences.{TableKey}
use Rattle.table_model.specs.JournalRowLaws.{JournalChangesFew, OfOneImport}
use Rattle.table_model.specs.JournalRows.{journal_row, newest_number, row_goes_on}
use Rattle.table_model.specs.Tables.{CameTable, JournalRow, JournalTable, Tables}
use Rattle.table_model.specs.Words.{tables_of}
use Rattle.table_model.proofs.DifferLemmas.{at_most_four_differ}
use Rattle.table_model.proofs.JournalChanges.{came_follows, came_table, one-entry, rows_table}
use Rattle.std.specs.FinMap as fin

-- journals whose newest entries alone differ
abbrev NewestDiffers : List Entry → List Entry → Type 0
NewestDiffers [] now = now ≡ []
NewestDiffers (entry ∷ older) now = (own : Entry) × (now ≡ own ∷ older)

-- another row is the same
other_row : (entry : Entry) (older : List Entry) (number : ℕ) → number ≢ length older + 1
    → get (rows_table (entry ∷ older)) number ≡ get (rows_table older) number
other_row entry older number other =
    let own : ℕ = length older + 1 in
    ap (λ rows. get rows number) (one-entry entry older own refl)
    ∙ fin.get-insert nat_cmp_total (rows_table older) own (journal_row entry) number
    ∙ by_tie nat_cmp_total nat_cmp-IsAntisymmetric number own
    (λ b. cond b (Some (journal_row entry)) (get (rows_table older) number))
    (λ b. get (rows_table older) number)
    (λ same. absurd (other same)) (λ apart. refl)

others_same : (was now : List Entry) (number : ℕ) → NewestDiffers was now → number ≢ length was
    → get (rows_table now) number ≡ get (rows_table was) number
others_same [] now number differs other = ap (λ list. get (rows_table list) number) differs
others_same (entry ∷ older) now number differs other =
    let beside : number ≢ length older + 1 = λ same. other (same ∙ omega arith) in
    ap (λ list. get (rows_table list) number) differs.1
    ∙ other_row differs.0 older number beside
    ∙ sym (other_row entry older number beside)

-- a change of the newest
newest_change : (change : Act → Act) (was now : List Entry) → NewestDiffers was now
    → NewestDiffers was (change_newest change now)
newest_change change [] now differs = ap (change_newest change) differs
newest_change change (entry ∷ older) now differs =
    (record differs.0 { act = change differs.0.act }, ap (change_newest change) differs.1)

itself : (entries : List Entry) → NewestDiffers entries entries
itself [] = refl
itself (entry ∷ older) = (entry, refl)

newest_after : (before : Book) (events : List Event) → OfOneImport events
    → NewestDiffers before.journal (after_all events before).journal
newest_after before [] of = itself before.journal
newest_after before (RecordKept bytes ∷ older) of =
    newest_change (keep_in bytes) before.journal (after_all older before).journal
    (newest_after before older of)
newest_after before (ImportRead reading ∷ older) of =
    newest_change (read_on reading) before.journal (after_all older before).journal
    (newest_after before older of)
newest_after before (ImportEnded ending ∷ older) of =
    newest_change (end_with ending) before.journal (after_all older before).journal
    (newest_after before older of)
newest_after before (PeriodClosed said day ∷ older) of = absurd of
newest_after before (RulingGiven said ruling ∷ older) of = absurd of
newest_after before (ImportBegun note ∷ older) of = absurd of

group : (naming : Naming) (before : Book) (events : List Event) (number : ℕ) → OfOneImport events
    → number ≢ length before.journal
    → get (tables_of naming (after_all events before)).journal number
    ≡ get (tables_of naming before).journal number
group naming before events number of other =
    others_same before.journal (after_all events before).journal number
    (newest_after before events of) other

-- tables that differ in their journals too
beside_journal : (places : List TableKey) (one other : Tables) (journal : JournalTable)
    (came : CameTable) → DifferAt places one other
    → DifferAt places one (record other { journal = journal; came = came })
beside_journal places one other journal came differ OfBook apart = differ OfBook apart
beside_journal places one other journal came differ (OfTariff day) apart = differ (OfTariff day) apart
beside_journal places one other journal came differ (OfClose period) apart =
    differ (OfClose period) apart
beside_journal places one other journal came differ (OfChoice number) apart =
    differ (OfChoice number) apart
beside_journal places one other journal came differ (OfCredit number) apart =
    differ (OfCredit number) apart
beside_journal places one other journal came differ (OfReplaced number) apart =
    differ (OfReplaced number) apart
beside_journal places one other journal came differ (OfRecord name) apart =
    differ (OfRecord name) apart
beside_journal places one other journal came differ (OfDay place) apart = differ (OfDay place) apart
beside_journal places one other journal came differ (OfLine place) apart = differ (OfLine place) apart

-- by which entry another record came stays
came_other : (came : CameTable) (on : Bool) (own name : List ℕ) (number : ℕ) → name ≢ own
    → get (if on then insert came own number else came) name ≡ get came name
came_other came false own name number other = refl
came_other came true own name number other =
    fin.get-insert nat_list_cmp_total came own number name
    ∙ by_tie nat_list_cmp_total exact_bytes name own
    (λ b. cond b (Some number) (get came name)) (λ b. get came name)
    (λ same. absurd (other same)) (λ apart. refl)

-- the law
pub journal_changes_few : JournalChangesFew
journal_changes_few = record {
  kept = λ naming book bytes sound kept.
      let few = at_most_four_differ naming book bytes sound kept in
      let now : Tables = tables_of naming (after (RecordKept bytes) book) in (
        few.0,
        few.1,
        beside_journal few.0 (tables_of naming book) (tables_of naming (keep bytes book)) now.journal
            now.came few.2,
      );
  came = λ naming book bytes name journaled kept other.
      let rows : JournalTable = rows_table book.journal in
      ap (λ came. get came name) (came_follows naming book (RecordKept bytes) journaled kept)
      ∙ came_other (came_table naming book.journal)
      (option_map_or (λ (row : JournalRow). row_goes_on row.act) (get rows (newest_number rows)) false)
      (name_of naming bytes) name (newest_number rows) other;
  group = group;
  first = λ naming before note events number of other.
      let begun : Entry = record { note = note; act = Importing nothing_read fin.empty } in
      let beside : number ≢ suc (length before.journal) = λ same. other (same ∙ omega arith) in
      group naming (after (ImportBegun note) before) events number of beside
      ∙ other_row begun before.journal number other;
}
