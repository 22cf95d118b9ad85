-- Details that are read one after another: what the first row from a start on shows.
use Rattle.std.proofs.Common.{◌≡◌, ◌∙◌, ◌++◌, ℕ, List, [], ◌∷◌, Bool, true, false, not, pos}
use Rattle.std.proofs.Common.{Some, None, map, refl, sym, ap, ap₂, subst, true≢false}
use Rattle.std.proofs.Common.{arith}
use Rattle.std.proofs.lemmas.Bool.Decides.{nat_tests}
use Rattle.std.proofs.lemmas.Cmp.{int_cmp_total}
use Rattle.std.specs.Cmp.{nat_cmp_total}
use Rattle.std.specs.Cmp.Lexicographic.{nat_list_cmp_total}
use Rattle.std.specs.FinMap.{contains_key, entries, get, get-entries}
use Rattle.std.specs.Ordering.{int_cmp, is_lt, nat_cmp, ordering_reverse, ordering_then}
use Rattle.std.specs.declared.cmp.Ordering.{Ordering}
use Rattle.std.specs.declared.cmp.Ordering.TheVariants.{Less, Equal, Greater}
use Rattle.sqlite_trees.specs.Tree.{from_key}
use Rattle.sqlite_value.proofs.OrderLemmas.{then-Equal, value_cmp-Blob, value_cmp-Int}
use Rattle.sqlite_value.proofs.OrderLemmas.{value_cmp-Text}
use Rattle.sqlite_value.specs.Keys.{plain, prefix_cmp}
use Rattle.sqlite_value.specs.Order.{Row}
use Rattle.sqlite_value.specs.declared.value.Value.TheVariants.{Blob, Int, Text}
use Rattle.book_model.specs.Words.{by_bytes, by_detail}
use Rattle.book_model.specs.declared.detail.Detail.{Detail}
use Rattle.table_model.specs.Tables.{Tables}
use Rattle.tree_rows.specs.Layouts.{row_of, rows_of}
use Rattle.tree_rows.specs.Rows.{IsFirst}
use Rattle.tree_rows.proofs.FromPart.{FindsFrom, finds_from}
use Rattle.tree_rows.proofs.Indexes.{index_names}
use Rattle.tree_rows.proofs.Maps.{prefix_of}
use Rattle.tree_rows.proofs.Passing.{passed}
use Rattle.tree_tables.specs.Columns.{detail_columns}
use Rattle.tree_tables.specs.Details.{FindsDetail, is_reached, start_columns}
use Rattle.table_model.specs.DetailsRead.{IsDetail, IsLeastDetail}
use Rattle.tree_tables.specs.Holds.{by_work, counted_among, detail_index}
use Rattle.tree_tables.specs.declared.detail_rows.DetailStart.{DetailStart}
use Rattle.tree_tables.specs.declared.detail_rows.DetailStart.TheVariants.{After, Centre, Day, First}
use Rattle.tree_tables.proofs.CountedRows.{detail_named, detail_there, get_counted}
use Rattle.tree_tables.proofs.DetailOrders.{place_first}
use Rattle.tree_tables.proofs.Layouts.{detail_layout, numbers, work_columns}

-- ---- what comes after a detail

-- no bytes come before none
not_before_none : (bytes : List ℕ) → is_lt (by_bytes bytes []) ≡ false
not_before_none [] = refl
not_before_none (byte ∷ bytes) = refl

-- no number comes before 0
not_before_zero : (n : ℕ) → is_lt (nat_cmp n 0) ≡ false
not_before_zero n = grind (arith, nat_tests)

-- where neither of two comparisons says Less, the two together do not
neither_less : (one other : Ordering) → is_lt one ≡ false → is_lt other ≡ false
    → is_lt (ordering_then one other) ≡ false
neither_less Less other not_one not_other = not_one
neither_less Equal other not_one not_other = not_other
neither_less Greater other not_one not_other = refl

-- one of two comparisons says Less where the other does not
pub record Opposed (one other : Ordering) : Type 0 where
  pub so : is_lt one ≡ not (is_lt other)

-- so do two that compare by a first part and by the rest, where the rests do
pub by_first : {low high : Ordering} (one other : Ordering) → one ≡ ordering_reverse other
    → Opposed low high → Opposed (ordering_then one low) (ordering_then other high)
by_first {low} one Less turned rest =
    record { so = ap (λ o. is_lt (ordering_then o low)) turned }
by_first {low} one Equal turned rest =
    record { so = ap (λ o. is_lt (ordering_then o low)) turned ∙ rest.so }
by_first {low} one Greater turned rest =
    record { so = ap (λ o. is_lt (ordering_then o low)) turned }

-- no bytes come between some and the same with a 0 behind them
pub not_between : (bytes other : List ℕ)
    → Opposed (by_bytes other (bytes ++ 0 ∷ [])) (by_bytes bytes other)
not_between [] [] = record { so = refl }
not_between [] (y ∷ other) = record {
  so = neither_less (nat_cmp y 0) (by_bytes other []) (not_before_zero y) (not_before_none other);
}
not_between (x ∷ bytes) [] = record { so = refl }
not_between (x ∷ bytes) (y ∷ other) =
    by_first (nat_cmp y x) (nat_cmp x y) (nat_cmp_total.antisymm y x) (not_between bytes other)

-- how a detail compares with the first columns from a start on
abbrev rank : DetailStart → Detail → Ordering
rank First detail = Equal
rank (Day day) detail = int_cmp detail.priced.day day
rank (Centre day centre) detail =
    ordering_then (int_cmp detail.priced.day day) (by_bytes detail.priced.centre centre)
rank (After last) detail =
    ordering_then (int_cmp detail.priced.day last.priced.day)
    (ordering_then (by_bytes detail.priced.centre last.priced.centre)
    (ordering_then (by_bytes detail.priced.shift last.priced.shift)
    (ordering_then (nat_cmp detail.time last.time)
    (by_bytes detail.name (last.name ++ 0 ∷ [])))))

-- those that do not come before the columns come after the last detail
not_before_after : (last detail : Detail)
    → is_lt (rank (After last) detail) ≡ not (is_lt (by_detail last detail))
not_before_after last detail =
    let both = by_first (int_cmp detail.priced.day last.priced.day)
    (int_cmp last.priced.day detail.priced.day)
    (int_cmp_total.antisymm detail.priced.day last.priced.day)
    (by_first (by_bytes detail.priced.centre last.priced.centre)
    (by_bytes last.priced.centre detail.priced.centre)
    (nat_list_cmp_total.antisymm detail.priced.centre last.priced.centre)
    (by_first (by_bytes detail.priced.shift last.priced.shift)
    (by_bytes last.priced.shift detail.priced.shift)
    (nat_list_cmp_total.antisymm detail.priced.shift last.priced.shift)
    (by_first (nat_cmp detail.time last.time) (nat_cmp last.time detail.time)
    (nat_cmp_total.antisymm detail.time last.time) (not_between last.name detail.name)))) in
    both.so
    ∙ ap (λ o. not (is_lt o)) (place_first (int_cmp last.priced.day detail.priced.day)
    (by_bytes last.priced.centre detail.priced.centre)
    (by_bytes last.priced.shift detail.priced.shift)
    (ordering_then (nat_cmp last.time detail.time) (by_bytes last.name detail.name)))

not_twice : (b : Bool) → b ≡ not (not b)
not_twice true = refl
not_twice false = refl

-- so a detail is from the start on where it is not before the columns
reached_is : (start : DetailStart) (detail : Detail)
    → is_reached start detail ≡ not (is_lt (rank start detail))
reached_is First detail = refl
reached_is (Day day) detail = refl
reached_is (Centre day centre) detail = refl
reached_is (After last) detail =
    not_twice (is_lt (by_detail last detail)) ∙ ap not (sym (not_before_after last detail))

-- what is not so is not
not_so : (b : Bool) → not b ≡ true → b ≡ false
not_so true is = absurd (true≢false (sym is))
not_so false is = refl

-- the columns of a detail after its centre, and after its day
abbrev after_centre : Detail → Row
after_centre detail =
    Text detail.priced.shift ∷ Int (pos detail.time) ∷ Blob detail.name ∷ work_columns detail

abbrev after_day : Detail → Row
after_day detail = Text detail.priced.centre ∷ after_centre detail

-- its row compares so
at_part : (start : DetailStart) (e : Detail × Unit {0})
    → prefix_cmp plain (row_of detail_layout e) (start_columns start) ≡ rank start e.0
at_part First e = refl
at_part (Day day) e =
    prefix_of (Int e.0.priced.day ∷ []) (after_day e.0) (Int day ∷ []) refl
    ∙ (then-Equal _ ∙ value_cmp-Int e.0.priced.day day)
at_part (Centre day centre) e =
    prefix_of (Int e.0.priced.day ∷ Text e.0.priced.centre ∷ []) (after_centre e.0)
    (Int day ∷ Text centre ∷ []) refl
    ∙ ap₂ ordering_then (value_cmp-Int e.0.priced.day day)
    (then-Equal _ ∙ value_cmp-Text e.0.priced.centre centre)
at_part (After last) e =
    prefix_of (Int e.0.priced.day ∷ Text e.0.priced.centre ∷ Text e.0.priced.shift
    ∷ Int (pos e.0.time) ∷ Blob e.0.name ∷ []) (work_columns e.0) (start_columns (After last))
    refl
    ∙ ap₂ ordering_then (value_cmp-Int e.0.priced.day last.priced.day)
    (ap₂ ordering_then (value_cmp-Text e.0.priced.centre last.priced.centre)
    (ap₂ ordering_then (value_cmp-Text e.0.priced.shift last.priced.shift)
    (ap₂ ordering_then (value_cmp-Int (pos e.0.time) (pos last.time)
    ∙ numbers e.0.time last.time)
    (then-Equal _ ∙ value_cmp-Blob e.0.name (last.name ++ 0 ∷ [])))))

-- ---- the details of the tables

-- what the tree has is a detail
is_detail : (tables : Tables) (detail : Detail)
    → get (detail_index tables.counted tables.records) detail ≡ Some tt → IsDetail tables detail
is_detail tables detail there =
    let rows = counted_among tables.counted tables.records in
    let it = index_names detail_named rows detail
    (sym (get-entries (detail_index tables.counted tables.records) detail) ∙ there) in
    let both = passed (contains_key tables.counted detail.name) (get tables.records detail.name)
    it.0 (sym (get_counted tables.counted tables.records detail.name) ∙ it.1) in
    record { row = it.0; held = both.1; counted = both.0; shown = it.2 }

-- and it has each
in_tree : (tables : Tables) (detail : Detail) → IsDetail tables detail
    → get (detail_index tables.counted tables.records) detail ≡ Some tt
in_tree tables detail is =
    ap (get (detail_index tables.counted tables.records)) (sym is.shown)
    ∙ detail_there tables.counted tables.records detail.name is.row is.held is.counted

-- what is not before another by all that details show is not before it as details stand
pub not_before : (place work : Ordering) → is_lt (ordering_then place work) ≡ false
    → is_lt place ≡ false
not_before Less work is = is
not_before Equal work is = refl
not_before Greater work is = refl

-- The first row from a start on was read.
module _ (tables : Tables) (start : DetailStart) {rows : List Row} {key : Row} (row : Row)
    (held : rows ≡ map detail_columns (entries (detail_index tables.counted tables.records)))
    (key_is : key ≡ start_columns start)
  where
    -- what it shows
    shows : (there : Bool) → IsFirst (from_key plain key rows) row there
        → FindsFrom detail_layout (start_columns start) (rank start) (at_part start)
        (detail_index tables.counted tables.records) row there
    shows there begins =
        finds_from detail_layout (start_columns start) (rank start) (at_part start)
        (detail_index tables.counted tables.records) row there
        (subst (λ one. IsFirst (from_key plain one
        (rows_of detail_layout (detail_index tables.counted tables.records))) row there) key_is
        (subst (λ some. IsFirst (from_key plain key some) row there) held begins))

    -- where there is none, no detail is left
    pub detail_none : IsFirst (from_key plain key rows) row false → FindsDetail start tables None
    detail_none begins detail is =
        reached_is start detail ∙ ap not (shows false begins detail tt (in_tree tables detail is))

    -- what is read of it is the next detail
    pub detail_some : (detail : Detail) → IsFirst (from_key plain key rows) row true
        → ((shown : Detail) → row ≡ detail_columns (shown, tt) → detail ≡ shown)
        → FindsDetail start tables (Some detail)
    detail_some detail begins says =
        let it = shows true begins in
        subst (IsLeastDetail (is_reached start) tables) (sym (says it.0 it.3)) (record {
          there = is_detail tables it.0 it.2;
          passes = reached_is start it.0 ∙ ap not it.4;
          least = λ other is reached.
              not_before (by_detail other it.0) (by_work other it.0)
              (it.5 other tt (in_tree tables other is)
              (not_so (is_lt (rank start other)) (sym (reached_is start other) ∙ reached)));
        })
