-- A close moves the charge rows that are dated after its day to the next period, one by one.
use Rattle.std.proofs.Common.{◌≡◌, ◌∷◌, [], ℕ, ℤ, pos, suc, true, false, cond, List, Bool, map}
use Rattle.std.proofs.Common.{Some, None, is_some, refl, sym, ap, ap₂, subst, ◌∙◌}
use Rattle.std.proofs.Common.{arith, true≢false}
use Rattle.std.specs.Prelude.{◌==◌, ◌&&◌, ◌+ℤ◌, int_lt}
use Rattle.std.specs.FinMap.{contains_key, entries, get, insert, remove}
use Rattle.std.specs.Ordering.{int_cmp, is_lt, nat_cmp, ordering_then}
use Rattle.std.specs.declared.cmp.Ordering.{Ordering}
use Rattle.std.specs.declared.cmp.Ordering.TheVariants.{Less, Equal}
use Rattle.std.proofs.lemmas.Bool.{and_parts, eqb-true, false_from_ne_true}
use Rattle.std.proofs.lemmas.Bool.Decides.{nat_tests}
use Rattle.std.proofs.lemmas.Int.{ints}
use Rattle.sqlite_trees.specs.Tree.{from_key, insert_entry, remove_entry}
use Rattle.sqlite_trees.specs.View.{View}
use Rattle.sqlite_value.proofs.OrderLemmas.{then-Equal, value_cmp-Int}
use Rattle.sqlite_value.specs.Keys.{plain, prefix_cmp}
use Rattle.sqlite_value.specs.Order.{Row, column}
use Rattle.sqlite_value.specs.declared.value.Value.TheVariants.{Int, Text}
use Rattle.book_model.specs.Words.{by_key}
use Rattle.book_model.specs.declared.row.ChargeRow.{ChargeRow}
use Rattle.book_model.specs.declared.row.RowKey.{RowKey}
use Rattle.table_model.specs.MapChanges.{moved}
use Rattle.table_model.specs.PeriodRows.{by_period}
use Rattle.table_model.specs.Steps.{move_day_rows}
use Rattle.table_model.specs.RowChanges.{move_on}
use Rattle.table_model.specs.Tables.{DayTable, Tables}
use Rattle.table_model.specs.TablesOf.{row_key}
use Rattle.tree_rows.specs.Changes.{MovesApart}
use Rattle.tree_rows.specs.Layouts.{row_of, rows_of}
use Rattle.tree_rows.specs.Rows.{ChangesRow, IsFirst, IsUnchanged, rows_changed}
use Rattle.tree_rows.proofs.FromPart.{FindsFrom, finds_from}
use Rattle.tree_rows.proofs.Maps.{prefix_of}
use Rattle.tree_rows.proofs.Moving.{moved_done, moved_step, step_apart}
use Rattle.tree_rows.proofs.Taking.{row_moved}
use Rattle.tree_tables.specs.Columns.{day_columns}
use Rattle.tree_tables.specs.Days.{GoneOn, MovesSome, NoneLater, NoneNext, SaysDay}
use Rattle.tree_tables.specs.Holds.{Holds}
use Rattle.tree_tables.specs.Steps.{Changes}
use Rattle.tree_tables.proofs.DayRows.{day_said, placed_drop, placed_put}
use Rattle.tree_tables.proofs.Holding.{has_rows, have_but, holds_rows}
use Rattle.tree_tables.proofs.Layouts.{day_layout, numbers}
use Rattle.tree_tables.proofs.Looking.{held_after_look, only_both, only_looks}

-- equal numbers compare so
tied_number : (m n : ℕ) → (m == n) ≡ true → nat_cmp m n ≡ Equal
tied_number m n is = grind (arith, nat_tests, is)

-- a day after another is not before the next one
pub later_next : (a day : ℤ) → int_lt day a ≡ true → is_lt (int_cmp a (day +ℤ pos 1)) ≡ false
later_next a day later = grind (arith, ints, later)

-- and one that is not before the next one is after
next_later : (a day : ℤ) → is_lt (int_cmp a (day +ℤ pos 1)) ≡ false → int_lt day a ≡ true
next_later a day next = grind (arith, ints, next)

-- a number that comes no earlier, and is another, comes later
number_above : (m n : ℕ) (o : Ordering) → is_lt (ordering_then (nat_cmp m n) o) ≡ false
    → (m == n) ≡ false → nat_cmp n m ≡ Less
number_above m n o high other = grind (arith, nat_tests, high, other)

-- a number is not the next one
not_next : (n : ℕ) → (suc n == n) ≡ false
not_next n = grind (arith, nat_tests)

module _ (n : ℕ) (day : ℤ) where
  -- the row at a place goes to the next period
  abbrev goes : ℕ × RowKey → Bool
  goes k = (k.0 == n) && int_lt day k.1.day

  -- where the places change to that have to
  abbrev change : ℕ × RowKey → ℕ × RowKey
  change = move_on n day

  -- the first columns of rows that go
  abbrev pub later_columns : Row
  later_columns = Int (pos n) ∷ Int (day +ℤ pos 1) ∷ []

  -- how a place compares with them
  abbrev rank : ℕ × RowKey → Ordering
  rank k = ordering_then (nat_cmp k.0 n) (int_cmp k.1.day (day +ℤ pos 1))

  -- a row compares so
  at_part : (e : (ℕ × RowKey) × ChargeRow)
      → prefix_cmp plain (row_of day_layout e) later_columns ≡ rank e.0
  at_part e =
      prefix_of (Int (pos e.0.0) ∷ Int e.0.1.day ∷ [])
      (Text e.0.1.centre ∷ Text e.0.1.shift ∷ Int (pos e.1.count) ∷ Int (pos e.1.cpu)
      ∷ Int (pos e.1.blocks) ∷ Int (pos e.1.amount) ∷ []) later_columns refl
      ∙ ap₂ ordering_then (value_cmp-Int (pos e.0.0) (pos n) ∙ numbers e.0.0 n)
      (then-Equal _ ∙ value_cmp-Int e.0.1.day (day +ℤ pos 1))

  -- a place that is not one of these stays
  stays : (k : ℕ × RowKey) → goes k ≡ false → change k ≡ k
  stays k is = ap (λ b. cond b (suc n, k.1) k) is

  -- one of these changes its number
  goes_on : (k : ℕ × RowKey) → goes k ≡ true → change k ≡ (suc n, k.1)
  goes_on k is = ap (λ b. cond b (suc n, k.1) k) is

  -- a place in the next period stays
  next_stays : (place : RowKey) → change (suc n, place) ≡ (suc n, place)
  next_stays place = stays (suc n, place) (ap (λ b. b && int_lt day place.day) (not_next n))

  -- a row that goes is not below the columns
  goes_high : (k : ℕ × RowKey) → goes k ≡ true → is_lt (rank k) ≡ false
  goes_high k is =
      let parts = and_parts (k.0 == n) (int_lt day k.1.day) is in
      ap (λ o. is_lt (ordering_then o (int_cmp k.1.day (day +ℤ pos 1))))
      (tied_number k.0 n parts.0)
      ∙ later_next k.1.day day parts.1

  -- a row of the period that is not below them goes
  high_goes : (k : ℕ × RowKey) → is_lt (rank k) ≡ false → (k.0 == n) ≡ true → goes k ≡ true
  high_goes k high here =
      ap₂ ◌&&◌ here (next_later k.1.day day
      (sym (ap (λ o. is_lt (ordering_then o (int_cmp k.1.day (day +ℤ pos 1))))
      (tied_number k.0 n here)) ∙ high))

  -- before a row of another period that is not below them come those that go
  goes_before : (k q : ℕ × RowKey) → is_lt (rank k) ≡ false → (k.0 == n) ≡ false
      → goes q ≡ true → is_lt (by_period by_key q k) ≡ true
  goes_before k q high other is =
      let here = (and_parts (q.0 == n) (int_lt day q.1.day) is).0 in
      ap (λ o. is_lt (ordering_then o (by_key q.1 k.1)))
      (ap (λ m. nat_cmp m k.0) (eqb-true q.0 n here)
      ∙ number_above k.0 n (int_cmp k.1.day (day +ℤ pos 1)) high other)

  -- where no row goes any more, all went
  none_goes : (days : DayTable)
      → ((k : ℕ × RowKey) (v : ChargeRow) → get days k ≡ Some v → goes k ≡ true → ⊥)
      → moved change days ≡ days
  none_goes days none =
      moved_done day_layout.total day_layout.exact change days (λ k has.
      elim (get days k) as (λ found. get days k ≡ found → is_some found ≡ true
      → change k ≡ k) [
        | None ↦ λ is no. absurd (true≢false (sym no))
        | Some v ↦ λ is yes. stays k (false_from_ne_true (goes k) (none k v is))
      ] refl has)

  -- what the first row shows that is not below the columns
  abbrev Shows : DayTable → Row → Bool → Type 0
  Shows = FindsFrom day_layout later_columns rank at_part

  -- a look-up of the columns
  shows : (days : DayTable) (rows : List Row) (key row : Row) (there : Bool)
      → IsFirst (from_key plain key rows) row there → rows ≡ map day_columns (entries days)
      → key ≡ later_columns → Shows days row there
  shows days rows key row there begins held key_is =
      finds_from day_layout later_columns rank at_part days row there
      (subst (λ one. IsFirst (from_key plain one (rows_of day_layout days)) row there) key_is
      (subst (λ some. IsFirst (from_key plain key some) row there) held begins))

  -- the number of the period that a row of the table shows
  number_shown : (days : DayTable) (row : Row) (found : Shows days row true)
      → column row 0 ≡ Int (pos found.0.0)
  number_shown days row found = ap (λ r. column r 0) found.3

  -- all went where no row is found
  ends_missing : (days : DayTable) (row : Row) → Shows days row false
      → moved change days ≡ days
  ends_missing days row missing = none_goes days (λ k v there is.
      true≢false (sym (missing k v there) ∙ goes_high k is))

  -- and where the row that is found is of another period
  ends_other : (days : DayTable) (row : Row) → Shows days row true
      → ((m : ℕ) → column row 0 ≡ Int (pos m) → (m == n) ≡ false) → moved change days ≡ days
  ends_other days row found other = none_goes days (λ q w there is.
      true≢false (sym (goes_before found.0 q found.4
      (other found.0.0 (number_shown days row found)) is)
      ∙ found.5 q w there (goes_high q is)))

  -- at first no two rows go to one place, where the next period has none
  starts_apart : (tables : Tables) → NoneNext n tables → MovesApart change tables.days
  starts_apart tables none one other has_one has_other same =
      by_both (goes one) (goes other) refl refl
    where
      by_both : (b c : Bool) → goes one ≡ b → goes other ≡ c → one ≡ other
      by_both true true is as_well =
          let place : one.1 ≡ other.1 =
          ap (λ k. k.1) (sym (goes_on one is) ∙ same ∙ goes_on other as_well) in
          let number : one.0 ≡ other.0 =
          eqb-true one.0 n (and_parts (one.0 == n) (int_lt day one.1.day) is).0
          ∙ sym (eqb-true other.0 n
          (and_parts (other.0 == n) (int_lt day other.1.day) as_well).0) in
          λ i. (number i, place i)
      by_both true false is not_so = absurd (true≢false (sym has_other
          ∙ ap (contains_key tables.days) (sym (sym (goes_on one is) ∙ same
          ∙ stays other not_so)) ∙ none one.1))
      by_both false true not_so is = absurd (true≢false (sym has_one
          ∙ ap (contains_key tables.days) (sym (stays one not_so) ∙ same ∙ goes_on other is)
          ∙ none other.1))
      by_both false false not_one not_other = sym (stays one not_one) ∙ same
          ∙ stays other not_other

  module _ (days : DayTable) (k : ℕ × RowKey) (v : ChargeRow) (there : get days k ≡ Some v)
      (is : goes k ≡ true) (apart : MovesApart change days) where
    -- the next period has no row at the place of a row that goes
    free : get days (suc n, k.1) ≡ None
    free =
        elim (get days (suc n, k.1)) as (λ found. get days (suc n, k.1) ≡ found
        → found ≡ None) [
          | None ↦ λ none. refl
          | Some w ↦ λ some.
              let same : k ≡ (suc n, k.1) =
              apart k (suc n, k.1) (ap is_some there) (ap is_some some)
              (goes_on k is ∙ sym (next_stays k.1)) in
              absurd (true≢false (sym (and_parts (k.0 == n) (int_lt day k.1.day) is).0
              ∙ ap (λ (spot : ℕ × RowKey). spot.0 == n) same ∙ not_next n))
        ] refl

    -- the rows after it went
    abbrev after : DayTable
    after = insert (remove days k) (suc n, k.1) v

    -- and what they are to those of before
    gone_on : GoneOn n day days after
    gone_on = record {
      apart = step_apart day_layout.total day_layout.exact change days k (suc n, k.1) v there
          (goes_on k is) (next_stays k.1) free apart;
      same = moved_step day_layout.total day_layout.exact change days k (suc n, k.1) v there
          (goes_on k is) (next_stays k.1) free apart;
    }

    -- its row is taken, and put under the next period
    rows_after : (rows : List Row) (row columns : Row) → rows ≡ map day_columns (entries days)
        → row ≡ day_columns (k, v) → columns ≡ day_columns ((suc n, k.1), v)
        → rows_changed row columns rows ≡ map day_columns (entries after)
    rows_after rows row columns held row_is columns_is =
        ap₂ (insert_entry plain) columns_is (ap₂ (remove_entry plain) row_is held)
        ∙ row_moved day_layout days k (suc n, k.1) v there free

  -- a look moves nothing
  pub some_looked : {old new : View} → IsUnchanged old new → MovesSome old new n day
  some_looked {old} {new} same = record {
    only = only_looks old same;
    made = λ tables holds apart. (
      tables.days,
      held_after_look old same holds,
      record { apart = apart; same = refl },
    );
  }

  -- rows that went and then others went
  pub some_more : {old mid new : View} → MovesSome old mid n day → MovesSome mid new n day
      → MovesSome old new n day
  some_more {old} one two = record {
    only = only_both old one.only two.only;
    made = λ tables holds apart.
        let first = one.made tables holds apart in
        let second = two.made (record tables { days = first.0 }) first.1 first.2.apart in (
          second.0,
          second.1,
          record { apart = second.2.apart; same = second.2.same ∙ first.2.same },
        );
  }

  -- where all went, the rows are moved
  pub all_moved : {old new : View} → MovesSome old new n day → NoneLater new.trees n day
      → Changes old new (NoneNext n) (move_day_rows n day)
  all_moved {new = new} some ended = record {
    only = some.only;
    made = λ tables holds none.
        let gone = some.made tables holds (starts_apart tables none) in
        subst (λ (days : DayTable). Holds new.trees (record tables { days = days }))
        (sym (ended (record tables { days = gone.0 }) gone.1) ∙ gone.2.same) gone.1;
  }

  module _ (old mid : View) (row : Row) (there : Bool) {key : Row} (same : IsUnchanged old mid)
      (begins : IsFirst (from_key plain key (old.trees 4)) row there)
      (key_is : key ≡ later_columns) where
    -- the rows that a look saw are still there
    seen : (tables : Tables) → Holds mid.trees tables → Shows tables.days row there
    seen tables holds =
        shows tables.days (old.trees 4) key row there begins
        (sym (ap (λ (v : View). v.trees 4) same) ∙ holds.days) key_is

    -- where it found none, no row is dated after the day
    pub none_found : there ≡ false → NoneLater mid.trees n day
    none_found missed tables holds =
        ends_missing tables.days row
        (subst (Shows tables.days row) missed (seen tables holds))

    -- and where it found one of another period
    pub other_found : there ≡ true → ((m : ℕ) → column row 0 ≡ Int (pos m) → (m == n) ≡ false)
        → NoneLater mid.trees n day
    other_found found other tables holds =
        ends_other tables.days row (subst (Shows tables.days row) found (seen tables holds)) other

    -- the row that it found goes to the next period
    pub one_moved : {new : View} (charge : ChargeRow) (columns : Row) → there ≡ true
        → ((m : ℕ) → column row 0 ≡ Int (pos m) → (m == n) ≡ true) → SaysDay row charge
        → columns ≡ day_columns ((suc n, row_key charge), charge)
        → ChangesRow mid new 4 row columns
        → MovesSome mid new n day
    one_moved charge columns found one says columns_is rewrites = record {
      only = rewrites.only;
      made = λ tables holds apart.
          let it = subst (Shows tables.days row) found (seen tables holds) in
          let is = high_goes it.0 it.4 (one it.0.0 (number_shown tables.days row it)) in
          let own = holds.placed it.0 it.1 it.2 in
          let charge_is = day_said charge (it.0, it.1) row own it.3 says in
          let put : columns ≡ day_columns ((suc n, it.0.1), it.1) =
          columns_is
          ∙ ap (λ (c : ChargeRow). day_columns ((suc n, row_key c), c)) charge_is
          ∙ ap (λ (place : RowKey). day_columns ((suc n, place), it.1)) own in (
            after tables.days it.0 it.1 it.2 is apart,
            holds_rows (placed_put (remove tables.days it.0) (suc n, it.0.1) it.1 own
                (placed_drop tables.days it.0 holds.placed))
                (have_but 4 rewrites.others
                (rewrites.rows_now ∙ rows_after tables.days it.0 it.1 it.2 is apart (mid.trees 4)
                row columns holds.days it.3 put) (has_rows holds) refl),
            gone_on tables.days it.0 it.1 it.2 is apart,
          );
    }
