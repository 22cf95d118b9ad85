-- The record with the least name from some bytes on, as the tree of records shows it.
use Rattle.std.proofs.Common.{◌≡◌, ◌∙◌, ℕ, List, [], ◌∷◌, Bool, false, true, None, Some, ap, not}
use Rattle.std.proofs.Common.{subst, sym, unwrap_or}
use Rattle.std.specs.FinMap.{entries, get}
use Rattle.std.specs.Ordering.{is_lt}
use Rattle.sqlite_trees.specs.Tree.{from_key}
use Rattle.sqlite_value.specs.Keys.{plain}
use Rattle.sqlite_value.specs.Order.{Row}
use Rattle.sqlite_value.specs.declared.value.Value.TheVariants.{Blob}
use Rattle.book_model.specs.Words.{by_bytes}
use Rattle.book_model.specs.declared.entry.Arrival.{Arrival}
use Rattle.book_model.proofs.RecordSets.{not_true}
use Rattle.table_model.specs.Tables.{CameTable, RecordRow, Tables}
use Rattle.tree_rows.specs.Layouts.{rows_of}
use Rattle.tree_rows.specs.Rows.{IsFirst}
use Rattle.tree_rows.proofs.FromPart.{FindsFrom, finds_from}
use Rattle.tree_rows.proofs.Maps.{at_key}
use Rattle.tree_tables.specs.Answers.{FindsArrival}
use Rattle.tree_tables.specs.Columns.{record_columns}
use Rattle.tree_tables.proofs.Layouts.{record_layout}

module _ (tables : Tables) (from : List ℕ) where
  -- what the first row shows that is not below the bytes
  abbrev pub ShowsFrom : Row → Bool → Type 0
  ShowsFrom =
      FindsFrom (record_layout tables.came) (Blob from ∷ []) (λ name. by_bytes name from)
      (λ e. at_key (record_layout tables.came) e from) tables.records

  -- a look-up of them
  pub shows_from : {rows : List Row} {key : Row} (row : Row) (there : Bool)
      → rows ≡ rows_of (record_layout tables.came) tables.records → key ≡ Blob from ∷ []
      → IsFirst (from_key plain key rows) row there → ShowsFrom row there
  shows_from {rows} {key} row there held key_is begins =
      finds_from (record_layout tables.came) (Blob from ∷ []) (λ name. by_bytes name from)
      (λ e. at_key (record_layout tables.came) e from) tables.records row there
      (subst (λ one. IsFirst (from_key plain one (rows_of (record_layout tables.came)
      tables.records)) row there)
      key_is (subst (λ some. IsFirst (from_key plain key some) row there) held begins))

  -- where no row is found, there is none
  pub arrival_none : (row : Row) → ShowsFrom row false → FindsArrival from tables None
  arrival_none row missing = λ name row there. ap not (missing name row there)

  -- what is read of a row is the next
  pub arrival_some : (row : Row) (arrival : Arrival) → ShowsFrom row true
      → ((came : CameTable) (entry : List ℕ × RecordRow) → row ≡ record_columns came entry
      → arrival.name ≡ entry.0)
      → ((came : CameTable) (entry : List ℕ × RecordRow) → row ≡ record_columns came entry
      → arrival.entry ≡ unwrap_or (get came entry.0) 0)
      → FindsArrival from tables (Some arrival)
  arrival_some row arrival found named numbered =
      let name = named tables.came (found.0, found.1) found.3 in
      let number = numbered tables.came (found.0, found.1) found.3 in
      record {
        row = found.1;
        there = ap (get tables.records) name ∙ found.2;
        own =
            ap {B = Arrival} (λ entry. record { name = arrival.name; entry = entry })
            (number ∙ ap (λ own. unwrap_or (get tables.came own) 0) (sym name));
        reached = ap (λ own. not (is_lt (by_bytes own from))) name ∙ ap not found.4;
        least = λ other row there high.
            ap (λ own. not (is_lt (by_bytes other own))) name
            ∙ ap not
            (found.5 other row there (not_true (is_lt (by_bytes other from)) high));
      }
