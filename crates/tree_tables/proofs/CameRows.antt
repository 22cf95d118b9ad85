-- By which entries records came, in the last column of their rows.
use Rattle.std.proofs.Common.{◌≡◌, ◌≢◌, ◌∙◌, ℕ, List, [], ◌∷◌, ◌++◌, Option, None, Some, Result, Ok}
use Rattle.std.proofs.Common.{Err, IfOk, ap, cond, map, refl, sym}
use Rattle.std.specs.FinMap.{entries, get, get-insert, insert}
use Rattle.std.specs.List.{AllByRecursion}
use Rattle.std.proofs.lemmas.Cmp.{eq_by_cmp_equiv, nat_list_cmp_total}
use Rattle.std.proofs.lemmas.Map.Lookups.{exact_bytes}
use Rattle.sqlite_trees.specs.declared.error.StoreError.{StoreError}
use Rattle.sqlite_value.specs.Order.{Row, column}
use Rattle.book_model.proofs.MapLemmas.{by_tie}
use Rattle.table_model.specs.Tables.{CameTable, RecordRow, RecordTable}
use Rattle.tree_rows.proofs.Maps.{not_none}
use Rattle.tree_tables.proofs.RowsRead.{all_entries, same_count}
use Rattle.tree_tables.specs.Columns.{came_columns, record_columns, record_front, step_value}

-- what is read behind the other columns is what was written there
came_is : (read found : Option ℕ) → step_value read ≡ column (came_columns found) 0 → read ≡ found
came_is None None is = refl
came_is (Some n) (Some m) is = ap Some (same_count n m is)
came_is None (Some m) is = absurd (let e = is in cc)
came_is (Some n) None is = absurd (let e = is in cc)

-- so the number that is read of a record's row is that of its entry
pub came_read : (result : Result (Option ℕ) StoreError) (row : Row)
    → IfOk result (λ number. column row 11 ≡ step_value number)
    → IfOk result (λ number. (came : CameTable) (entry : List ℕ × RecordRow)
    → row ≡ record_columns came entry → number ≡ get came entry.0)
came_read (Err error) row read = tt
came_read (Ok number) row read = λ came entry is.
    came_is number (get came entry.0) (sym read ∙ ap (λ (one : Row). column one 11) is)

-- another record came by the entry that it came by
came_other : (came : CameTable) (own name : List ℕ) (number : ℕ) → name ≢ own
    → get (insert came own number) name ≡ get came name
came_other came own name number other =
    get-insert nat_list_cmp_total came own number name
    ∙ by_tie nat_list_cmp_total exact_bytes name own
    (λ b. cond b (Some number) (get came name)) (λ b. get came name)
    (λ same. absurd (other same)) (λ apart. refl)

-- the one that was put came by its own
pub came_own : (came : CameTable) (own : List ℕ) (number : ℕ)
    → get (insert came own number) own ≡ Some number
came_own came own number =
    get-insert nat_list_cmp_total came own number own
    ∙ ap (λ b. cond b (Some number) (get came own)) ((eq_by_cmp_equiv nat_list_cmp_total).refl own)

-- the rows of some records, which all came by the entries that they came by
rows_alike : (one other : CameTable) (list : List (List ℕ × RecordRow))
    → AllByRecursion (λ entry. get one entry.0 ≡ get other entry.0) list
    → map (record_columns one) list ≡ map (record_columns other) list
rows_alike one other [] alike = refl
rows_alike one other (entry ∷ list) alike =
    let rest = rows_alike one other list alike.1 in
    λ i. (record_front entry ++ came_columns (alike.0 i)) ∷ rest i

-- Where no record has the name, its entry changes no row.
pub came_elsewhere : (records : RecordTable) (came : CameTable) (own : List ℕ) (number : ℕ)
    → get records own ≡ None
    → map (record_columns came) (entries records)
    ≡ map (record_columns (insert came own number)) (entries records)
came_elsewhere records came own number none =
    rows_alike came (insert came own number) (entries records)
    (all_entries nat_list_cmp_total exact_bytes
    (λ (entry : List ℕ × RecordRow). get came entry.0 ≡ get (insert came own number) entry.0)
    records (λ name row there. sym (came_other came own name number (λ same.
    absurd (not_none row (sym there ∙ ap (get records) same ∙ none))))))
