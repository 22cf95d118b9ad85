-- What came by an entry is held: so a name that has no row came by none.
use Rattle.std.proofs.Common.{◌≡◌, ◌∙◌, ◌+◌, ℕ, List, [], ◌∷◌, None, Some, ap, false, is_some}
use Rattle.std.proofs.Common.{length, refl, sym, true, true≢false}
use Rattle.std.specs.FinMap.{find}
use Rattle.book_model.proofs.Std.{exact_bytes, false_from_ne_true, get, get-from_entries}
use Rattle.book_model.proofs.Std.{nat_list_cmp_total, tells_apart}
use Rattle.book_model.specs.Words.{Book, Entry, IsSound, Naming, Records, by_bytes, has, kept_by}
use Rattle.book_model.specs.Words.{members, name_of}
use Rattle.book_model.proofs.Lemmas.{find-both, find-none, is}
use Rattle.book_model.proofs.MapLemmas.{else_find}
use Rattle.table_model.specs.JournalRows.{came_entries}
use Rattle.table_model.specs.Journaled.{AreEntries, IsJournaled}
use Rattle.table_model.specs.UnderNames.{under_names}
use Rattle.table_model.specs.Words.{RecordTable, tables_of}
use Rattle.table_model.proofs.JournalReading.{first-among, rest-are}
use Rattle.table_model.proofs.LineChanges.{given}
use Rattle.table_model.proofs.LineReading.{held_row}
use Rattle.std.specs.FinMap as fin

module _ (naming : Naming) (held : Records) (name : List ℕ)
    (unnamed : (bytes : List ℕ) → has held bytes ≡ true → is name (name_of naming bytes) ≡ false)
  where
    -- a name that no record has that is held is among none of some entries' names
    none_came : (list : List Entry) → AreEntries held list
        → find by_bytes name (came_entries naming list) ≡ None
    none_came [] are = refl
    none_came (entry ∷ older) are =
        let number : ℕ = length older + 1 in
        let kept : Records = kept_by entry.act in
        let among = first-among held entry older are in
        find-both by_bytes name (under_names naming number kept) (came_entries naming older)
        ∙ ap (λ found. else_find found (find by_bytes name (came_entries naming older)))
        (ap (find by_bytes name) (given naming number (members kept))
        ∙ find-none nat_list_cmp_total exact_bytes (λ bytes. Some (name_of naming bytes, number))
        nat_list_cmp_total name (members kept)
        (λ other within. unnamed other (among other (fin.contains_key-keys kept other ∙ within))))
        ∙ none_came older (rest-are held entry older are)

-- The law.
pub no_row_came : (naming : Naming) (book : Book) (name : List ℕ) → IsSound naming book
    → IsJournaled book → get (tables_of naming book).records name ≡ None
    → get (tables_of naming book).came name ≡ None
no_row_came naming book name sound are none =
    get-from_entries nat_list_cmp_total (came_entries naming book.journal) name
    ∙ none_came naming book.held name (λ bytes there.
    false_from_ne_true (is name (name_of naming bytes)) (λ tied.
    let records : RecordTable = (tables_of naming book).records in
    let row = held_row naming book sound bytes there in
    let same = tells_apart exact_bytes name (name_of naming bytes) tied in
    true≢false (sym (ap is_some (sym none ∙ ap (get records) same ∙ row.2)))))
    book.journal are
