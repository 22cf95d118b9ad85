-- By which entries records came is read back: each name that came has a record.
use Rattle.std.proofs.Common.{◌≡◌, ◌∙◌, ℕ, List, [], ◌∷◌, None, Option, Some, ap, cond, is_some}
use Rattle.std.proofs.Common.{option_map, refl, sym}
use Rattle.std.specs.FinMap.{find}
use Rattle.book_model.proofs.Std.{cons_option, entries, exact_bytes, get, get-entries}
use Rattle.book_model.proofs.Std.{get-from_entries, nat_list_cmp_total, same_map}
use Rattle.book_model.specs.Words.{Book, IsSound, Naming, by_bytes}
use Rattle.book_model.proofs.Lemmas.{by_tie, is}
use Rattle.table_model.specs.Journaled.{IsJournaled}
use Rattle.table_model.specs.Tables.{CameTable}
use Rattle.table_model.specs.Words.{RecordRow, Tables, tables_of}
use Rattle.table_model.proofs.CameHeld.{no_row_came}
use Rattle.table_ledger.specs.TablesRead.{came_among, came_named}

module _ (came : CameTable) (name : List ℕ) where
  -- by which entry the record of the name came, if it has a row
  abbrev there : Option RecordRow → Option ℕ
  there found = cond (is_some found) (get came name) None

  -- by none, if none came under the name
  none_there : (found : Option RecordRow) → get came name ≡ None → there found ≡ get came name
  none_there None none = sym none
  none_there (Some row) none = refl

  -- one row more
  row_more : (own : List ℕ) (row : RecordRow) (rows : List (List ℕ × RecordRow))
      (rest : List (List ℕ × ℕ)) (number : Option ℕ) → get came own ≡ number
      → find by_bytes name rest ≡ there (find by_bytes name rows)
      → find by_bytes name
      (cons_option (option_map {U = List ℕ × ℕ} (λ number. (own, number)) number) rest)
      ≡ there (cond (is name own) (Some row) (find by_bytes name rows))
  row_more own row rows rest None none before =
      before
      ∙ by_tie nat_list_cmp_total exact_bytes name own
      (λ b. there (find by_bytes name rows))
      (λ b. there (cond b (Some row) (find by_bytes name rows)))
      (λ same. none_there (find by_bytes name rows) (ap (get came) same ∙ none))
      (λ apart. refl)
  row_more own row rows rest (Some number) came_is before =
      ap (cond (is name own) (Some number)) before
      ∙ by_tie nat_list_cmp_total exact_bytes name own
      (λ b. cond b (Some number) (there (find by_bytes name rows)))
      (λ b. there (cond b (Some row) (find by_bytes name rows)))
      (λ same. sym (ap (get came) same ∙ came_is))
      (λ apart. refl)

  -- all rows
  rows_found : (rows : List (List ℕ × RecordRow))
      → find by_bytes name (came_named came rows) ≡ there (find by_bytes name rows)
  rows_found [] = refl
  rows_found (entry ∷ rows) =
      row_more entry.0 entry.1 rows (came_named came rows) (get came entry.0) refl (rows_found rows)

module _ (naming : Naming) (book : Book) (sound : IsSound naming book)
    (are : IsJournaled book) where
  abbrev tables : Tables
  tables = tables_of naming book

  -- a name without a row came by none
  by_row : (name : List ℕ) (found : Option RecordRow) → get tables.records name ≡ found
      → there tables.came name found ≡ get tables.came name
  by_row name None none = sym (no_row_came naming book name sound are none)
  by_row name (Some row) is = refl

  -- So the tables of a book say by which entries its records came, and of nothing else.
  pub among_all : came_among tables ≡ tables.came
  among_all =
      same_map nat_list_cmp_total exact_bytes (came_among tables) tables.came (λ name.
      get-from_entries nat_list_cmp_total (came_named tables.came (entries tables.records)) name
      ∙ rows_found tables.came name (entries tables.records)
      ∙ ap (there tables.came name) (sym (get-entries tables.records name))
      ∙ by_row name (get tables.records name) refl)
