-- What look-ups in trees that hold tables find of them.
use Rattle.std.proofs.Common.{◌≡◌, ◌<◌, ◌-◌, ◌∙◌, ◌&&◌, ◌∷◌, [], ℕ, zero, suc, Bool, true, false}
use Rattle.std.proofs.Common.{not, cond, List, Option, Some, None, length, map, ap, ap₂, arith}
use Rattle.std.proofs.Common.{refl, subst, sym, ◌==◌, ℤ, IfSome, filter, take_while, is_eq}
use Rattle.std.proofs.lemmas.List.Sums.{take_while-cons}
use Rattle.sqlite_trees.specs.Tree.{Trees, from_key}
use Rattle.sqlite_value.specs.Keys.{plain, prefix_cmp}
use Rattle.sqlite_value.specs.Order.{Row}
use Rattle.sqlite_value.specs.declared.value.Value.TheVariants.{Blob}
use Rattle.book_model.proofs.Std.{entries, get, get-entries, option_map_or, eq_by_cmp, tells_apart}
use Rattle.book_model.proofs.Std.{nat_tests, nat_list_eq_equiv, length-map}
use Rattle.book_model.specs.Words.{open_by, same_bytes}
use Rattle.book_model.proofs.Lemmas.{same_bytes-by_cmp}
use Rattle.table_model.specs.Words.{RecordRow, Tables, rows_with}
use Rattle.consistent_tables.specs.Consistent.{AreInTurn, charged_back, is_counted_row, line_at}
use Rattle.consistent_tables.specs.Consistent.{periods_after, ruled}
use Rattle.tree_rows.specs.Indexes.{by_bytes, indexed_by}
use Rattle.tree_rows.specs.Layouts.{Answers}
use Rattle.tree_rows.specs.Rows.{Finds, IsFirst, past_key}
use Rattle.tree_rows.specs.Runs.{has_part, run_of}
use Rattle.tree_rows.proofs.Maps.{none_there}
use Rattle.tree_rows.proofs.IndexOrders.{by_bytes_exact}
use Rattle.tree_rows.proofs.PartIndexes.{part_in_order}
use Rattle.tree_rows.proofs.Runs.{run_named}
use Rattle.tree_rows.proofs.Keyed.{row_found}
use Rattle.tree_tables.specs.Columns.{identity_columns}
use Rattle.tree_tables.specs.Holds.{Holds, identity_index, identity_key}
use Rattle.tree_tables.proofs.FoundNames.{Entry}
use Rattle.tree_tables.proofs.Layouts.{identity_layout, record_layout}
use Rattle.tree_tables.proofs.LineRows.{line_found, line_missing}
use Rattle.book_audit.specs.Records.{GoesBack, HasPast, IsHeld, IsLine, Turns, row_with}
use Rattle.book_audit.specs.Records.Turns.{Stays, Turned}
use Rattle.book_audit.specs.Trees.{FindsTwo}
use Rattle.book_audit.proofs.Rows.Counted.{some_kept}
use Rattle.book_audit.proofs.Rows.Columns.{one_record}

-- what a line turns
turned : {line : Option Bool} {mid before : Bool} → Turns line mid before
    → (before ≡ option_map_or not line mid) × IfSome line (λ plus. plus ≡ mid)
turned (Stays charged) = (refl, tt)
turned (Turned plus) = (refl, refl)

-- Of some rows from a key on, of which the first has it: whether the next one has it too tells
-- whether it is the only one.
two_of : (key : Row) (rows : List Row) (row : Row) (there two : Bool)
    → IsFirst (past_key key rows) row there → two ≡ (there && is_eq (prefix_cmp plain row key))
    → 0 < length (take_while (has_part key) rows)
    → not two ≡ (length (take_while (has_part key) rows) == 1)
two_of key [] row there two first is some = absurd (omega (arith, some))
two_of key (one ∷ rows) row there two first is some = by (has_part key one) refl
  where
    run : (b : Bool) → has_part key one ≡ b → take_while (has_part key) (one ∷ rows)
        ≡ cond b (one ∷ take_while (has_part key) rows) []
    run b own =
        take_while-cons (has_part key) one rows
        ∙ ap (λ (b : Bool). cond b (one ∷ take_while (has_part key) rows) []) own

    next : (rows : List Row) (there : Bool) → IsFirst rows row there
        → two ≡ (there && is_eq (prefix_cmp plain row key))
        → not two ≡ (length (one ∷ take_while (has_part key) rows) == 1)
    next [] true first is = absurd (none_there row first.0 (sym first.1))
    next [] false first is = ap not is
    next (other ∷ rows) false first is = absurd (none_there other rows first)
    next (other ∷ rows) true first is =
        let same : row ≡ other = (let e = first.1 in cc) in
        let own : two ≡ has_part key other = is ∙ ap (λ (r : Row). is_eq (prefix_cmp plain r key)) same in
        elim (has_part key other) as (λ b. has_part key other ≡ b
        → not two ≡ (length (one ∷ take_while (has_part key) (other ∷ rows)) == 1)) [
          | true ↦ λ here.
              let more : take_while (has_part key) (other ∷ rows)
              ≡ other ∷ take_while (has_part key) rows =
              take_while-cons (has_part key) other rows
              ∙ ap (λ (b : Bool). cond b (other ∷ take_while (has_part key) rows) []) here in
              ap not (own ∙ here)
              ∙ sym (ap (λ (rs : List Row). length (one ∷ rs) == 1) more
              ∙ more_than (length (take_while (has_part key) rows)))
          | false ↦ λ here.
              let none : take_while (has_part key) (other ∷ rows) ≡ [] =
              take_while-cons (has_part key) other rows
              ∙ ap (λ (b : Bool). cond b (other ∷ take_while (has_part key) rows) []) here in
              ap not (own ∙ here) ∙ sym (ap (λ (rs : List Row). length (one ∷ rs) == 1) none)
        ] refl
      where
        more_than : (n : ℕ) → (suc (suc n) == 1) ≡ false
        more_than n = grind (arith, nat_tests)

    by : (b : Bool) → has_part key one ≡ b
        → not two ≡ (length (take_while (has_part key) (one ∷ rows)) == 1)
    by false other =
        absurd (let none : 0 < 0 = subst (λ (rs : List Row). 0 < length rs) (run false other) some in
        omega (arith, none))
    by true own =
        next rows there
        (subst (λ (b : Bool). IsFirst (cond b rows (one ∷ rows)) row there) own first) is
        ∙ sym (ap (λ (rs : List Row). length rs == 1) (run true own))

module _ (trees : Trees) (tables : Tables) (holds : Holds trees tables) where
  -- a record by its name
  pub record_looked : (name : List ℕ) (row : Row) (hit : Bool)
      → Finds (Blob name ∷ []) (trees 3) row hit
      → Answers (record_layout tables.came) tables.records name row hit
  record_looked name row hit finds =
      row_found (record_layout tables.came) tables.records name finds holds.records refl

  -- a record whose row is found has the name, and is in the table
  pub entry_looked : (name : List ℕ) (entry : List ℕ × RecordRow)
      → IsHeld (trees 3) name entry → (entry.0 ≡ name) × (get tables.records name ≡ Some entry.1)
  entry_looked name entry held =
      let found = record_looked name (row_with entry held.came) true held.found in
      let same : entry ≡ (name, found.0) =
      one_record entry (name, found.0) held.came (get tables.came name) found.2 in (
        ap (λ (e : List ℕ × RecordRow). e.0) same,
        found.1 ∙ ap (λ (e : List ℕ × RecordRow). Some e.1) (sym same),
      )

  -- a line by its period and its record's name
  pub line_looked : (period : ℕ) (name : List ℕ) (line : Option Bool)
      → IsLine (trees 5) period name line → line ≡ get tables.lines (period, name)
  line_looked period name None is =
      line_missing period name tables holds.lines refl is.finds refl
  line_looked period name (Some plus) is =
      line_found period name tables holds.lines refl is.finds plus refl is.says

  -- whether two records have an identity that one has
  shared_looked : (identity : List ℕ) (row : Row) (two : Bool)
      → FindsTwo (Blob identity ∷ []) (trees 6) row two
      → 0 < length (rows_with identity tables.records)
      → not two ≡ (length (rows_with identity tables.records) == 1)
  shared_looked identity row two looked some =
      let key : Row = Blob identity ∷ [] in
      let sharing : List Entry = rows_with identity tables.records in
      let long : length (run_of key (trees 6)) ≡ length sharing =
      ap (λ (rows : List Row). length (run_of key rows)) holds.identity_index
      ∙ ap length (run_named by_bytes identity_layout (λ name. Blob name ∷ [])
      (λ identity name. refl) identity (identity_index tables.records)
      ∙ ap (map identity_columns) (part_in_order (λ (row : RecordRow). row.identity) identity
      (λ x. eq_by_cmp by_bytes x identity)
      (λ x same. tells_apart by_bytes_exact x identity same) tables.records
      ∙ ap (λ (same : List ℕ → List ℕ → Bool). map (indexed_by identity_key)
      (filter (λ (e : Entry). same e.1.identity identity) (entries tables.records)))
      (sym same_bytes-by_cmp)))
      ∙ length-map (map (indexed_by identity_key) sharing) identity_columns
      ∙ length-map sharing (indexed_by identity_key) in
      two_of key (from_key plain key (trees 6)) row looked.there two looked.behind looked.is
      (subst (λ n. 0 < n) (sym long) some)
      ∙ ap (λ n. n == 1) long

  -- whether a record is alone in its identity
  pub alone_looked : (name : List ℕ) (row : RecordRow) (next : Row) (two : Bool)
      → get tables.records name ≡ Some row → FindsTwo (Blob row.identity ∷ []) (trees 6) next two
      → not two ≡ (length (rows_with row.identity tables.records) == 1)
  alone_looked name row next two there looked =
      shared_looked row.identity next two looked
      (some_kept (λ (one : RecordRow). same_bytes one.identity row.identity) name row
      (entries tables.records) (sym (get-entries tables.records name) ∙ there)
      (nat_list_eq_equiv.refl row.identity))

  -- what its lines say of a record's past is what they say in the tables
  went_back : (name : List ℕ) (last k : ℕ) (now before : Bool)
      → last ≡ open_by (ruled tables) → GoesBack (trees 5) name last k now before
      → (before ≡ charged_back tables name k now) × AreInTurn tables name k now
  went_back name last zero now before same back = (sym back, tt)
  went_back name last (suc k) now before same back =
      let line : Option Bool = back.1 in
      let so_far = went_back name last k now back.0 same back.2 in
      let is : line ≡ line_at tables name (open_by (ruled tables) - k) =
      line_looked (last - k) name line back.3
      ∙ ap (λ n. get tables.lines (n - k, name)) same in
      let step = turned back.4 in (
        step.0 ∙ ap₂ (λ (l : Option Bool) (b : Bool). option_map_or not l b) is so_far.0,
        (
          subst (λ (l : Option Bool). IfSome l (λ plus. plus ≡ charged_back tables name k now)) is
              (subst (λ (b : Bool). IfSome line (λ plus. plus ≡ b)) so_far.0 step.1),
          so_far.1,
        ),
      )

  -- so they say whether the row of its period counts it
  pub past_told : (closes : List ℤ) → closes ≡ (ruled tables).closes
      → (entry : List ℕ × RecordRow) (counted : Bool) → HasPast (trees 5) closes entry counted
      → (counted ≡ is_counted_row tables entry)
      × AreInTurn tables entry.0 (periods_after tables entry.1) entry.1.charged
  past_told closes same entry counted past =
      went_back entry.0 (open_by (ruled tables)) (periods_after tables entry.1) entry.1.charged counted
      refl (subst (λ (days : List ℤ). HasPast (trees 5) days entry counted) same past)
