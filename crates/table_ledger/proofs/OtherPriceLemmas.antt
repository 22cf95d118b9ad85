-- What records cost by another tariff, one record at a time.
use Rattle.std.proofs.Common.{◌≡◌, ◌∙◌, ℕ, ◌+◌, ◌≤◌, List, [], ◌∷◌, ◌++◌, map, refl, sym, ap, subst}
use Rattle.std.proofs.Common.{true, false, cond, Some, None, arith, length, true≢false, append-nil}
use Rattle.std.proofs.Common.{append_assoc, length-append, filter, sum_by, Vec, Ok, Err}
use Rattle.std.proofs.Common.{if◌then◌else◌, IsSome, is_some, Ordering, Less, Equal, Greater}
use Rattle.std.proofs.Common.{Global, is_eq, le-ltb, lt-ltb}
use Rattle.std.specs.BTreeMap.{insert_entry, is_at}
use Rattle.std.specs.Map.{set_value}
use Rattle.std.proofs.lemmas.Map.{lookup-none}
use Rattle.std.proofs.lemmas.Map.Entries.{none_below_head}
use Rattle.book_model.proofs.Std.{entries, IsStrictlySortedBy, match_ordering, map-append}
use Rattle.book_model.proofs.Std.{filter-append, sum_by-append, sorted_tail}
use Rattle.book_model.specs.Words.{Priced, Terms, by_key, most_cost, price_by, rows_of}
use Rattle.book_model.proofs.Lemmas.{by_key_total}
use Rattle.book_core.proofs.KeyedRowLemmas.{rows_under_keys}
use Rattle.table_model.specs.Tables.{CameTable}
use Rattle.table_model.specs.Words.{Tables, row_record, row_costs, NamedRow}
use Rattle.tree_tables.specs.Passes.{HasRecordsLeft, TakesFirst, TakesNext}
use Rattle.table_ledger.proofs.Words.{lookup, View, Row, Full, ChargeRow, RowKey, record_columns}
use Rattle.table_ledger.proofs.Words.{AreRowsOf, AreSumsOf, SumsUp, costs_of}
use Rattle.table_ledger.specs.OtherPrices.{passes}
use Rattle.table_ledger.specs.declared.count_test.CountTest.{CountTest}
use Rattle.table_ledger.specs.declared.row_sums.RowSums.{RowSums}
use Rattle.std.specs.Map as map_words

-- a row that is written at a key that is found is where the key's row is put
pub row_at_found : (key : RowKey) (row : ChargeRow) (rows : List (RowKey × ChargeRow))
    → IsStrictlySortedBy by_key (map_words.keys_of rows)
    → IsSome (lookup (is_at (by_key key)) rows)
    → set_value (is_at (by_key key)) rows row ≡ insert_entry by_key rows key row
row_at_found key row [] sorted found = absurd (true≢false (sym found))
row_at_found key row (first ∷ rows) sorted found =
    by (by_key key first.0) refl found
    (row_at_found key row rows (sorted_tail by_key first.0 (map_words.keys_of rows) sorted))
  where
    by : (order : Ordering) → by_key key first.0 ≡ order
        → IsSome (cond (is_eq order) (Some first.1) (lookup (is_at (by_key key)) rows))
        → (IsSome (lookup (is_at (by_key key)) rows)
        → set_value (is_at (by_key key)) rows row ≡ insert_entry by_key rows key row)
        → cond (is_eq order) ((first.0, row) ∷ rows)
        (first ∷ set_value (is_at (by_key key)) rows row)
        ≡ match_ordering order ((key, row) ∷ first ∷ rows) ((first.0, row) ∷ rows)
        (first ∷ insert_entry by_key rows key row)
    by Less is found later =
        let none = lookup-none (is_at (by_key key)) rows
        (none_below_head by_key_total key first rows sorted is).1 in
        absurd (true≢false (sym found ∙ ap is_some none))
    by Equal is found later = refl
    by Greater is found later = ap (λ rows. first ∷ rows) (later found)

-- the rows of costs that the books hold are answered
pub rows_summed : {sums : RowSums} (costs : List Priced) (rows : Vec ChargeRow Global)
    → AreSumsOf sums costs
    → rows.items ≡ map (λ (entry : RowKey × ChargeRow). entry.1) sums.rows.entries
    → AreRowsOf costs (Some rows)
rows_summed {sums} costs rows are is =
    let small = are.small in
    let cost = are.cost in
    let room = le-ltb most_cost (sum_by (λ one. one.amount) costs) (omega arith) in
    let own : rows.items ≡ rows_of costs =
    is ∙ ap (map (λ (entry : RowKey × ChargeRow). entry.1)) are.rows ∙ rows_under_keys costs in
    ap (λ dear. if dear then Err Full else Ok (rows_of costs)) room ∙ ap Ok (sym own)

module _ (terms : Terms) (test : CountTest) where
  -- a row that is passed, and is not counted, adds nothing
  pub costs_same : (passed : List NamedRow) (row : NamedRow) → passes test row ≡ false
      → costs_of terms test (passed ++ row ∷ []) ≡ costs_of terms test passed
  costs_same passed row not_counted =
      ap (row_costs terms) (filter-append (passes test) passed (row ∷ [])
      ∙ ap (λ b. filter (passes test) passed ++ cond b (row ∷ []) []) not_counted
      ∙ append-nil (filter (passes test) passed))

  -- one that is counted adds its price
  pub costs_more : (passed : List NamedRow) (row : NamedRow) → passes test row ≡ true
      → costs_of terms test (passed ++ row ∷ [])
      ≡ costs_of terms test passed ++ price_by terms (row_record row.1) ∷ []
  costs_more passed row counted =
      ap (row_costs terms) (filter-append (passes test) passed (row ∷ [])
      ∙ ap (λ b. filter (passes test) passed ++ cond b (row ∷ []) []) counted)
      ∙ map-append (λ (row : NamedRow). price_by terms (row_record row.1))
      (filter (passes test) passed) (row ∷ [])

  -- what rows cost together is no more with others
  costs_within : (passed others : List NamedRow)
      → sum_by (λ one. one.amount) (costs_of terms test passed)
      ≤ sum_by (λ one. one.amount) (costs_of terms test (passed ++ others))
  costs_within passed others =
      let split = ap (row_costs terms) (filter-append (passes test) passed others)
      ∙ map-append (λ (row : NamedRow). price_by terms (row_record row.1))
      (filter (passes test) passed) (filter (passes test) others) in
      let sums = ap (sum_by (λ (one : Priced). one.amount)) split in
      let both = sum_by-append (λ (one : Priced). one.amount) (costs_of terms test passed)
      (costs_of terms test others) in
      omega arith

  -- What a pass knows of tables after so many steps: the sums are those of the rows that it has
  -- passed, and the others are still to come.
  pub record PassedSo (view : View) (sums : RowSums) (steps : ℕ) (tables : Tables) : Type 0 where
    pub passed : List NamedRow
    pub left : List NamedRow
    pub many : length passed ≡ steps
    pub whole : passed ++ left ≡ entries tables.records
    pub to_come : HasRecordsLeft tables.came view left
    pub sums_are : AreSumsOf sums (costs_of terms test passed)

  -- The next row is the first of those that are still to come.
  module _ (old new : View) (sums : RowSums) (steps : ℕ) (tables : Tables) (row : Row)
      (so_far : PassedSo old sums steps tables) (takes : TakesNext old new row true) where
    abbrev it : TakesFirst tables.came so_far.left new row true
    it = takes tables.came so_far.left so_far.to_come

    abbrev entry : NamedRow
    entry = it.0

    abbrev others : List NamedRow
    others = it.1

    -- those that are passed, it and the others are all
    whole : so_far.passed ++ (entry ∷ others) ≡ entries tables.records
    whole = ap (λ left. so_far.passed ++ left) (sym it.2) ∙ so_far.whole

    -- those that are passed with it, and the others, are all
    with_it : (so_far.passed ++ entry ∷ []) ++ others ≡ entries tables.records
    with_it = append_assoc so_far.passed (entry ∷ []) others ∙ whole

    module _ (more : RowSums) where
      -- the pass goes on
      pub passed_on : ((passed : List NamedRow) (came : CameTable) (one : NamedRow)
          → row ≡ record_columns came one → SumsUp sums (costs_of terms test passed) true
          → SumsUp more (costs_of terms test (passed ++ one ∷ [])) true)
          → PassedSo new more (steps + 1) tables
      passed_on adds = record {
        passed = so_far.passed ++ entry ∷ [];
        left = others;
        many = length-append so_far.passed (entry ∷ []) ∙ ap (λ n. n + 1) so_far.many;
        whole = with_it;
        to_come = it.4;
        sums_are = adds so_far.passed tables.came entry it.3 so_far.sums_are;
      }

      -- or stops, since with the next record all are too dear
      pub passed_dear : ((passed : List NamedRow) (came : CameTable) (one : NamedRow)
          → row ≡ record_columns came one → SumsUp sums (costs_of terms test passed) true
          → SumsUp more (costs_of terms test (passed ++ one ∷ [])) false)
          → AreRowsOf (costs_of terms test (entries tables.records)) None
      passed_dear adds =
          let some = adds so_far.passed tables.came entry it.3 so_far.sums_are in
          let within = costs_within (so_far.passed ++ entry ∷ []) others in
          let all = ap (λ rows. sum_by (λ (one : Priced). one.amount) (costs_of terms test rows))
          with_it in
          let costs : List Priced = costs_of terms test (entries tables.records) in
          let dear = lt-ltb most_cost (sum_by (λ (one : Priced). one.amount) costs)
          (omega (arith, some, within, all)) in
          ap (λ dear. if dear then Err Full else Ok (rows_of costs)) dear

  -- no record is left: the rows are those of all
  pub passed_all : (old new : View) (sums : RowSums) (steps : ℕ) (tables : Tables) (row : Row)
      (rows : Vec ChargeRow Global) → TakesNext old new row false
      → PassedSo old sums steps tables
      → ((costs : List Priced) → AreSumsOf sums costs → AreRowsOf costs (Some rows))
      → AreRowsOf (costs_of terms test (entries tables.records)) (Some rows)
  passed_all old new sums steps tables row rows takes so_far answers =
      subst (λ all. AreRowsOf (costs_of terms test all) (Some rows))
      (sym (append-nil so_far.passed)
      ∙ ap (λ left. so_far.passed ++ left) (sym (takes tables.came so_far.left so_far.to_come).0)
      ∙ so_far.whole)
      (answers (costs_of terms test so_far.passed) so_far.sums_are)
