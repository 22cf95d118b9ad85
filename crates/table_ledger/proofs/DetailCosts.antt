-- What the records of some days cost by another tariff, where their details are met one after
-- another: what is summed, and what is still to come. And in the tables of a book these records are
-- those that a period counts.
use Rattle.std.proofs.Common.{◌≡◌, ◌∙◌, inl, inr, ◌+◌, ◌-◌, ◌≤◌, ◌&&◌, ℕ, zero, suc, ℤ, List, []}
use Rattle.std.proofs.Common.{◌∷◌, ◌++◌, Bool, true, false, true≢false, not, cond, Option, Some}
use Rattle.std.proofs.Common.{None, Ok, Err, Vec, length, refl, sym, ap, arith, filter}
use Rattle.std.proofs.Common.{if◌then◌else◌, nat_le, sum_by, ◌==◌, Global, is_lt, lt-ltb}
use Rattle.std.proofs.Math.Bool.{and-true}
use Rattle.std.proofs.lemmas.Bool.{and_from, and_right}
use Rattle.book_model.proofs.Std.{tied_itself, contains_key, entries, get, AllByRecursion}
use Rattle.book_model.proofs.Std.{and_parts, false_from_ne_true, nat_tests, nat_list_cmp_total}
use Rattle.book_model.proofs.Std.{filter_agree, fold-map, sum_by_push}
use Rattle.book_model.specs.Words.{Priced, through_of, Book, Naming, Records, Rulings, Terms}
use Rattle.book_model.specs.Words.{by_detail, charged_of, comes_after, counted_of, has, is_between}
use Rattle.book_model.specs.Words.{is_dated_in, is_day_of, most_cost, name_of, open_by, price_by}
use Rattle.book_model.specs.Words.{rows_of, same_bytes}
use Rattle.book_model.proofs.Lemmas.{counted_at, by_detail_total, has_those, is_itself}
use Rattle.book_model.proofs.Lemmas.{same_bytes-by_cmp, SumsAlike}
use Rattle.book_model.proofs.RecordSets.{tests_swap}
use Rattle.book_model.proofs.RowLemmas.{rows_if_room-alike}
use Rattle.table_model.specs.Words.{row_record, charged_before_lines, counted_rows, first_line}
use Rattle.table_model.specs.Words.{is_row_counted, row_costs, FindsLeast, IsDetail, IsLeastDetail}
use Rattle.table_model.specs.Words.{detail_shown, NamedRow, is_period, IsReadable, RecordRow}
use Rattle.table_model.specs.Words.{Tables, tables_of}
use Rattle.table_model.proofs.CostLemmas.{day-price}
use Rattle.table_model.proofs.CountedHeld.{names_follow}
use Rattle.table_model.proofs.CountedReading.{counted_back, is_record_counted, its_period}
use Rattle.table_model.proofs.CountedReading.{period_after}
use Rattle.table_model.proofs.DetailReading.{in_windows}
use Rattle.table_model.proofs.RecordReading.{every_row}
use Rattle.tree_rows.proofs.IndexOrders.{by_bytes_exact}
use Rattle.tree_rows.proofs.Remaining.{is_less}
use Rattle.tree_tables.proofs.LateSums.{sum_one_less}
use Rattle.tree_tables.proofs.RowsRead.{all_entries}
use Rattle.table_ledger.specs.DetailPrices.{CountsByDay, FindsRowsOfDays, IsNextPriced}
use Rattle.table_ledger.specs.DetailPrices.{is_counted_between}
use Rattle.table_ledger.proofs.Words.{Detail, Full, ChargeRow, seeks, AreRowsOf, AreSumsOf, SumsUp}
use Rattle.table_ledger.specs.declared.detail_prices.DetailPrice.{DetailPrice}
use Rattle.table_ledger.specs.declared.details.Sought.{Sought}
use Rattle.table_ledger.specs.declared.row_sums.RowSums.{RowSums}
use Rattle.table_ledger.proofs.DetailTries.{after_or_named, is_sought_by}
use Rattle.table_ledger.proofs.LateCosts.{none_summed}

-- ---- costs in whatever order

-- costs that are the same ones have the same rows
rows_alike : (xs ys : List Priced) (found : Option (Vec ChargeRow Global)) → SumsAlike xs ys
    → AreRowsOf xs found → AreRowsOf ys found
rows_alike xs ys None alike full = sym (rows_if_room-alike alike) ∙ full
rows_alike xs ys (Some rows) alike are = sym (rows_if_room-alike alike) ∙ are

-- tests that agree on the elements of a list pick the same ones
filter_where : {E : Type 0} (p q : E → Bool) (es : List E) → AllByRecursion (λ e. p e ≡ q e) es
    → filter p es ≡ filter q es
filter_where p q [] all = refl
filter_where p q (e ∷ es) all =
    let rest = filter_where p q es all.1 in
    λ i. cond (all.0 i) (e ∷ rest i) (rest i)

-- ---- which records they are

-- where a period counts what is kept of its days, that is what it counts
pub kept_costs : (number : ℕ) (rulings : Rulings) (terms : Terms) (tables : Tables)
    (close through : Option ℤ) → close ≡ through_of (number - 1) rulings
    → through ≡ through_of number rulings → CountsByDay number rulings tables
    → row_costs terms (filter (is_counted_between close through tables) (entries tables.records))
    ≡ row_costs terms (counted_rows number rulings tables)
kept_costs number rulings terms tables close through close_is through_is keeps =
    let kept : NamedRow → Bool =
    is_counted_between (through_of (number - 1) rulings) (through_of number rulings) tables in
    (λ i. row_costs terms
    (filter (is_counted_between (close_is i) (through_is i) tables) (entries tables.records)))
    ∙ ap (row_costs terms) (sym (filter_where (is_row_counted number rulings tables.lines) kept
    (entries tables.records) (all_entries nat_list_cmp_total by_bytes_exact
    (λ (entry : NamedRow). is_row_counted number rulings tables.lines entry ≡ kept entry)
    tables.records keeps)))

module _ (naming : Naming) (book : Book) (whole : IsReadable naming book) where
  abbrev its_tables : Tables
  its_tables = tables_of naming book

  module _ (k : ℕ) (within : k ≤ length book.rulings.closes) where
    -- the period after so many closes counts what is dated in it, of what is counted at all
    counted_record : (bytes : List ℕ) → has book.held bytes ≡ true
        → is_record_counted naming book (suc k) bytes
        ≡ (is_dated_in book.rulings (suc k) bytes
        && contains_key its_tables.counted (name_of naming bytes))
    counted_record bytes there =
        counted_back naming book whole bytes there k within
        ∙ ap (λ (records : Records). has records bytes)
        (counted_at naming book whole.sound whole.in_order (in_windows naming book whole) k
        (period_after naming book whole k) (its_period naming book whole k within))
        ∙ has_those (is_dated_in book.rulings (suc k)) (counted_of book) bytes
        ∙ ap (λ b. is_dated_in book.rulings (suc k) bytes && b)
        (sym (names_follow.counted naming book bytes whole.sound there))

    -- by its row
    counted_row : CountsByDay (suc k) book.rulings its_tables
    counted_row =
        every_row naming book whole.sound
        (λ (one : NamedRow). is_row_counted (suc k) book.rulings its_tables.lines one
        ≡ (contains_key its_tables.counted one.0
        && is_day_of (suc k) book.rulings one.1.priced.day))
        (λ bytes priced there price.
        let name : List ℕ = name_of naming bytes in
        let dated = day-price book.rulings bytes priced price in
        ap (λ day. is_day_of (suc k) book.rulings day
        && charged_before_lines (first_line its_tables.lines name (suc (suc k))
        (open_by book.rulings - suc k)) (has (charged_of book) bytes)) dated
        ∙ counted_record bytes there
        ∙ ap (λ day. is_day_of (suc k) book.rulings day && contains_key its_tables.counted name)
        (sym dated)
        ∙ tests_swap (is_day_of (suc k) book.rulings priced.day)
        (contains_key its_tables.counted name))

  -- so each period of a book does
  pub keeps_counted : (number : ℕ) → is_period number book.rulings ≡ true
      → CountsByDay number book.rulings its_tables
  keeps_counted zero is = absurd (true≢false (sym is))
  keeps_counted (suc k) is =
      let early : nat_le (suc k) (open_by book.rulings) ≡ true =
      (and_parts (not (suc k == 0)) (nat_le (suc k) (open_by book.rulings)) is).1 in
      let within : k ≤ length book.rulings.closes = grind (arith, nat_tests, early) in
      counted_row k within

-- ---- which of them are still to come

-- a name is itself
same_itself : (name : List ℕ) → same_bytes name name ≡ true
same_itself name =
    ap (λ (same : List ℕ → List ℕ → Bool). same name name) same_bytes-by_cmp ∙ is_itself name

-- what comes after a detail that comes after the last one does
later_comes : (last : Option Detail) (found later : Detail) → comes_after last found ≡ true
    → is_lt (by_detail found later) ≡ true → comes_after last later ≡ true
later_comes None found later one other = refl
later_comes (Some first) found later one other =
    ap is_lt (by_detail_total.trans first found later (is_less (by_detail first found) one)
    (is_less (by_detail found later) other))

-- the details of some days after one, or all
abbrev pub details_after : Option ℤ → Option ℤ → Option Detail → Sought
details_after close through last =
    record { close = close; through = through; centre = None; last = last }

module _ (close through : Option ℤ) where
  -- a record is counted, and its detail is one of them
  abbrev pub is_left : Option Detail → Tables → NamedRow → Bool
  is_left last tables entry =
      contains_key tables.counted entry.0
      && seeks (details_after close through last) (detail_shown entry)

  -- The least of the details is found.
  module _ (last : Option Detail) (tables : Tables) (found : Detail)
      (next : IsLeastDetail (seeks (details_after close through last)) tables found) where
    -- its record was to come,
    it_comes : is_left last tables (found.name, next.there.row) ≡ true
    it_comes =
        and_from (contains_key tables.counted found.name)
        (seeks (details_after close through last) (detail_shown (found.name, next.there.row)))
        next.there.counted
        (ap (seeks (details_after close through last)) next.there.shown ∙ next.passes)

    -- and is no more
    it_passes : is_left (Some found) tables (found.name, next.there.row) ≡ false
    it_passes =
        and_right (contains_key tables.counted found.name)
        (seeks (details_after close through (Some found))
        (detail_shown (found.name, next.there.row)))
        (ap (seeks (details_after close through (Some found))) next.there.shown
        ∙ and_right (is_between close through found.priced.day) (comes_after (Some found) found)
        (ap is_lt (tied_itself by_detail_total found)))

    -- another that was to come still is,
    stays_left : (other : NamedRow) → get tables.records other.0 ≡ Some other.1
        → same_bytes other.0 found.name ≡ false → is_left last tables other ≡ true
        → is_left (Some found) tables other ≡ true
    stays_left other there apart left =
        let shown : Detail = detail_shown other in
        let both = and_parts (contains_key tables.counted other.0)
        (seeks (details_after close through last) shown) left in
        let days = and_parts (is_between close through shown.priced.day) (comes_after last shown)
        both.1 in
        let it : IsDetail tables shown =
        record { row = other.1; held = there; counted = both.0; shown = refl } in
        let after : is_lt (by_detail found shown) ≡ true =
        elim (after_or_named shown found (next.least shown it both.1)) [
          | inl later ↦ later
          | inr named ↦ absurd (true≢false
              (sym (ap (λ (name : List ℕ). same_bytes name found.name) named
              ∙ same_itself found.name) ∙ apart))
        ] in
        and_from (contains_key tables.counted other.0)
        (seeks (details_after close through (Some found)) shown) both.0
        (and_from (is_between close through shown.priced.day) (comes_after (Some found) shown)
        days.0 after)

    -- and what is still to come was
    was_left : (other : NamedRow) → is_left (Some found) tables other ≡ true
        → is_left last tables other ≡ true
    was_left other left =
        let shown : Detail = detail_shown other in
        let both = and_parts (contains_key tables.counted other.0)
        (seeks (details_after close through (Some found)) shown) left in
        let days = and_parts (is_between close through shown.priced.day)
        (comes_after (Some found) shown) both.1 in
        let after = (is_sought_by (details_after close through last) found next.passes).after in
        and_from (contains_key tables.counted other.0)
        (seeks (details_after close through last) shown) both.0
        (and_from (is_between close through shown.priced.day) (comes_after last shown) days.0
        (later_comes last found shown after days.1))

    others_stay : (other : NamedRow) → get tables.records other.0 ≡ Some other.1
        → same_bytes other.0 found.name ≡ false
        → is_left last tables other ≡ is_left (Some found) tables other
    others_stay other there apart =
        elim (is_left (Some found) tables other) as (λ b. is_left (Some found) tables other ≡ b
        → is_left last tables other ≡ b) [
          | true ↦ λ left. was_left other left
          | false ↦ λ passed. false_from_ne_true (is_left last tables other) (λ left.
              true≢false (sym (stays_left other there apart left) ∙ passed))
        ] refl

    -- So a sum over those that are still to come is less by it.
    pub one_less : (f : NamedRow → ℕ)
        → sum_by f (filter (is_left last tables) (entries tables.records))
        ≡ f (found.name, next.there.row)
        + sum_by f (filter (is_left (Some found) tables) (entries tables.records))
    one_less f =
        sum_one_less tables.records f (is_left last tables) (is_left (Some found) tables) found.name
        next.there.row next.there.held it_comes it_passes others_stay

-- ---- the sums

module _ (terms : Terms) (close through : Option ℤ) where
  -- what a record costs
  abbrev cost_of : NamedRow → Priced
  cost_of entry = price_by terms (row_record entry.1)

  -- what those of the days cost
  abbrev all_costs : Tables → List Priced
  all_costs tables =
      row_costs terms (filter (is_counted_between close through tables) (entries tables.records))

  -- a part of what those cost together that are still to come
  abbrev pub to_come : (Priced → ℕ) → Option Detail → Tables → ℕ
  to_come part last tables =
      sum_by (λ (entry : NamedRow). part (cost_of entry))
      (filter (is_left close through last tables) (entries tables.records))

  -- The walk has come so far: what is summed and what is still to come are what all cost.
  pub record SummedTo (last : Option Detail) (sums : RowSums) (tables : Tables) : Type 0 where
    pub costs : List Priced
    pub are : AreSumsOf sums costs
    pub parts : (part : Priced → ℕ)
        → sum_by part costs + to_come part last tables ≡ to_come part None tables

  -- nothing at first
  pub summed_none : (sums : RowSums) (tables : Tables) → AreSumsOf sums []
      → SummedTo None sums tables
  summed_none sums tables are = record {
    costs = [];
    are = are;
    parts = λ part. omega arith;
  }

  -- the same part of what all cost
  kept_part : (tables : Tables) (part : Priced → ℕ)
      → sum_by part (all_costs tables) ≡ to_come part None tables
  kept_part tables part =
      fold-map (λ n (one : Priced). n + part one) cost_of 0
      (filter (is_counted_between close through tables) (entries tables.records))
      ∙ ap (sum_by (λ (entry : NamedRow). part (cost_of entry)))
      (filter_agree (is_counted_between close through tables) (is_left close through None tables)
      (λ entry. ap (λ b. contains_key tables.counted entry.0 && b)
      (sym (and-true (is_between close through entry.1.priced.day)))) (entries tables.records))

  module _ (last : Option Detail) (sums : RowSums) (tables : Tables)
      (so_far : SummedTo last sums tables) where
    -- none is left: the rows are those of all
    pub summed_all : FindsLeast (seeks (details_after close through last)) tables None
        → (rows : Vec ChargeRow Global)
        → ((costs : List Priced) → AreSumsOf sums costs → AreRowsOf costs (Some rows))
        → FindsRowsOfDays terms close through tables (Some rows)
    summed_all none rows answers =
        rows_alike so_far.costs (all_costs tables) (Some rows) (record { sums = all })
        (answers so_far.costs so_far.are)
      where
        passed : (name : List ℕ) (row : RecordRow) → get tables.records name ≡ Some row
            → is_left close through last tables (name, row) ≡ false
        passed name row there =
            elim (contains_key tables.counted name) as (λ b. contains_key tables.counted name ≡ b
            → (b && seeks (details_after close through last) (detail_shown (name, row))) ≡ false) [
              | true ↦ λ counted. none (detail_shown (name, row))
                  (record { row = row; held = there; counted = counted; shown = refl })
              | false ↦ λ uncounted. refl
            ] refl

        all : (part : Priced → ℕ) → sum_by part so_far.costs ≡ sum_by part (all_costs tables)
        all part =
            let left : to_come part last tables ≡ 0 =
            none_summed (is_left close through last tables)
            (λ (entry : NamedRow). part (cost_of entry)) (entries tables.records)
            (all_entries nat_list_cmp_total by_bytes_exact
            (λ (entry : NamedRow). is_left close through last tables entry ≡ false) tables.records
            passed) in
            let parts = so_far.parts part in
            let kept = kept_part tables part in
            omega (arith, left, parts, kept)

    -- The next record is met.
    module _ (next : DetailPrice)
        (finds : IsNextPriced terms (details_after close through last) tables next) where
      -- its price is summed, and it is to come no more
      with_it : (part : Priced → ℕ)
          → sum_by part (so_far.costs ++ next.priced ∷ []) + to_come part (Some next.detail) tables
          ≡ to_come part None tables
      with_it part =
          let row : RecordRow = finds.least.there.row in
          let parts = so_far.parts part in
          let more = sum_by_push part so_far.costs next.priced in
          let own : part next.priced ≡ part (price_by terms (row_record row)) =
          ap part (finds.price row finds.least.there.held) in
          let less : to_come part last tables
          ≡ part (price_by terms (row_record row)) + to_come part (Some next.detail) tables =
          one_less close through last tables next.detail finds.least
          (λ (entry : NamedRow). part (cost_of entry)) in
          omega (arith, parts, more, own, less)

      module _ (more : RowSums) where
        -- the walk goes on
        pub summed_next : ((costs : List Priced) → SumsUp sums costs true
            → SumsUp more (costs ++ next.priced ∷ []) true)
            → SummedTo (Some next.detail) more tables
        summed_next adds = record {
          costs = so_far.costs ++ next.priced ∷ [];
          are = adds so_far.costs so_far.are;
          parts = with_it;
        }

        -- or stops, since with its price all are too dear
        pub summed_dear : ((costs : List Priced) → SumsUp sums costs true
            → SumsUp more (costs ++ next.priced ∷ []) false)
            → FindsRowsOfDays terms close through tables None
        summed_dear adds =
            let all : List Priced = all_costs tables in
            let some = adds so_far.costs so_far.are in
            let parts : sum_by (λ (one : Priced). one.amount) (so_far.costs ++ next.priced ∷ [])
            + to_come (λ (one : Priced). one.amount) (Some next.detail) tables
            ≡ to_come (λ (one : Priced). one.amount) None tables =
            with_it (λ (one : Priced). one.amount) in
            let kept : sum_by (λ (one : Priced). one.amount) all
            ≡ to_come (λ (one : Priced). one.amount) None tables =
            kept_part tables (λ (one : Priced). one.amount) in
            let dear = lt-ltb most_cost (sum_by (λ (one : Priced). one.amount) all)
            (omega (arith, some, parts, kept)) in
            ap (λ dear. if dear then Err Full else Ok (rows_of all)) dear
