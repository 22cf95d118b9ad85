-- Sound trees hold tables: those of their rows.
use Rattle.std.proofs.Common.{◌≡◌, ◌∙◌, ◌∷◌, [], ℕ, zero, suc, ℤ, pos, List, Bool, true, false}
use Rattle.std.proofs.Common.{Option, Some, None, map, length, take, cond, ap, ap₂, refl, subst}
use Rattle.std.proofs.Common.{sym, ◌⊎◌, inl, inr, arith, is_some, is_eq, Ordering, Less, Equal}
use Rattle.std.proofs.Common.{Greater}
use Rattle.std.specs.FinMap.{find}
use Rattle.sqlite_trees.specs.Tree.{IsAscending, Trees}
use Rattle.sqlite_trees.proofs.ListLemmas.{all-map, all_weaker, ascending-map, ascending_from_map}
use Rattle.sqlite_trees.proofs.ListLemmas.{ascending_weaker}
use Rattle.sqlite_value.specs.Order.{Row, row_cmp, value_cmp}
use Rattle.sqlite_value.specs.declared.value.Value.TheVariants.{Blob, Int}
use Rattle.book_model.proofs.Std.{FinMap, contains_key, entries, entries_sorted, from_entries, get}
use Rattle.book_model.proofs.Std.{get-entries, get-from_entries, nat_list_cmp_total, AllByRecursion}
use Rattle.book_model.proofs.Std.{eq_by_cmp, ordering_then, eq_by_cmp_equiv, length-map}
use Rattle.book_model.proofs.Std.{recursion_from_All, map-map, same_Some}
use Rattle.book_model.specs.Words.{by_bytes, detail_with, rows_of as charge_rows}
use Rattle.book_model.specs.declared.detail.Detail.{Detail}
use Rattle.book_model.specs.declared.row.ChargeRow.{ChargeRow}
use Rattle.book_model.specs.declared.row.RowKey.{RowKey}
use Rattle.table_model.specs.Words.{row_record, detail_shown, ChoiceRow, ChoiceTable, CountedTable}
use Rattle.table_model.specs.Words.{DayTable, RecordRow, RecordTable, Tables, close_entries}
use Rattle.table_model.specs.Words.{row_key, tariff_entries, under_numbers}
use Rattle.table_model.specs.Tables.{CameTable}
use Rattle.table_model.proofs.UnderNumbers.{entries-numbers}
use Rattle.table_model.proofs.Finding.{get_one}
use Rattle.consistent_tables.specs.DueRows.{due_entry}
use Rattle.tree_rows.specs.Indexes.{IsKeyOf, index_answer}
use Rattle.tree_rows.specs.Layouts.{Layout, row_of, rows_of}
use Rattle.tree_rows.proofs.IndexOrders.{by_bytes_exact}
use Rattle.tree_rows.proofs.Indexes.{indexed}
use Rattle.tree_rows.proofs.IndexLists.{index_names_all}
use Rattle.tree_rows.proofs.Keyed.{row_found}
use Rattle.table_model.specs.TablesOf.{replaced_row}
use Rattle.tree_tables.specs.Columns.{choice_columns, closed_columns, credit_columns}
use Rattle.tree_tables.specs.Columns.{detail_columns, replaced_columns}
use Rattle.tree_tables.specs.JournalColumns.{journal_columns}
use Rattle.tree_tables.specs.Holds.{AreUnderOwnKeys, Holds, by_shown, choice_name_index}
use Rattle.tree_tables.specs.Holds.{choice_name_key, counted_among, detail_index, identity_index}
use Rattle.tree_tables.specs.Holds.{marks}
use Rattle.tree_tables.proofs.ChoiceRows.{chosen_named}
use Rattle.tree_tables.proofs.CountedRows.{detail_named, get_counted}
use Rattle.tree_tables.proofs.DetailOrders.{by_shown_exact, by_shown_total}
use Rattle.tree_tables.proofs.Layouts.{choice_layout, choice_name_layout, day_layout, detail_layout}
use Rattle.tree_tables.proofs.Layouts.{detail_order, identity_layout, line_layout, mark_layout}
use Rattle.tree_tables.proofs.Layouts.{record_layout, tariff_layout}
use Rattle.tree_tables.proofs.RecordIndexes.{identity_named, mark_named}
use Rattle.book_audit.specs.ChoiceRows.{IsMade, Made, said}
use Rattle.book_audit.specs.Details.{ShowsCounted}
use Rattle.book_audit.specs.Entries.{IsEntry}
use Rattle.book_audit.specs.Records.{IsRight, Told, counted_prices, told_row}
use Rattle.book_audit.specs.SoundTrees.{AreSound}
use Rattle.book_audit.specs.Trees.{HasKey}
use Rattle.book_audit.specs.Walks.{AreRising, AreWide, IsWide, key_in}
use Rattle.book_audit.specs.declared.audited.Counts.{Counts as Numbers}
use Rattle.book_audit.specs.declared.finding.Tree.TheVariants.{ChoiceNames, Days, Details}
use Rattle.book_audit.specs.declared.finding.Tree.TheVariants.{Identities, Lines, Marks, Records}
use Rattle.book_audit.specs.declared.finding.Tree.TheVariants.{Tariffs}
use Rattle.book_audit.specs.declared.rulings.Rulings.{Rulings}
use Rattle.book_audit.specs.declared.finding.Tree.{Tree}
use Rattle.book_audit.proofs.Held.Maps.{entries_kept, entries_rise, index_rows, rows_again, rows_at}
use Rattle.book_audit.proofs.Held.Maps.{rows_kept}
use Rattle.book_audit.proofs.Held.Pigeonhole.{IsOneOf, all_of_them, each_is_one, no_more, of_one}
use Rattle.book_audit.proofs.Rows.Came.{NamesRise, came_pairs, each_came, same_rows}
use Rattle.book_audit.proofs.Rows.Columns.{long_numbers, one_record, row_is}

-- ---- the entries of the indexes, as their rows say

-- the keys of a tree's rows, if each row has one
keys_in : {Q : Type 0} {P : Q → Q → Ordering} (layout : Layout Q (Unit {0}) P) (tree : Tree)
    → ((row : Row) → IsEntry tree row → IsWide tree row
    → (q : Q) × (row ≡ row_of layout (q, tt)))
    → (rows : List Row) → AllByRecursion (IsEntry tree) rows → AreWide tree rows
    → (keys : List Q) × (rows ≡ rows_at layout keys)
keys_in layout tree key_of [] each wide = ([], refl)
keys_in layout tree key_of (row ∷ rows) each wide =
    let one = key_of row each.0 wide.0 in
    let more = keys_in layout tree key_of rows each.1 wide.1 in
    (one.0 ∷ more.0, ap₂ (λ (r : Row) (rs : List Row). r ∷ rs) one.1 more.1)

-- of identities, marks and choices
identity_of : (row : Row) → IsEntry Identities row → IsWide Identities row
    → (q : List ℕ × List ℕ) × (row ≡ row_of identity_layout (q, tt))
identity_of row its wide = (
  (its.0.0, its.1.0),
  row_is row (Blob its.0.0 ∷ Blob its.1.0 ∷ []) wide (its.0.1, (its.1.1, tt)),
)

mark_of : (row : Row) → IsEntry Marks row → IsWide Marks row
    → (q : ℕ × (List ℕ × List ℕ)) × (row ≡ row_of mark_layout (q, tt))
mark_of row its wide = (
  (its.0.0, (its.1.0, its.2.0)),
  row_is row (Int (pos its.0.0) ∷ Blob its.1.0 ∷ Blob its.2.0 ∷ []) wide
      (its.0.1, (its.1.1, (its.2.1, tt))),
)

choice_name_of : (row : Row) → IsEntry ChoiceNames row → IsWide ChoiceNames row
    → (q : List ℕ × ℕ) × (row ≡ row_of choice_name_layout (q, tt))
choice_name_of row its wide = (
  (its.0.0, its.1.0),
  row_is row (Blob its.0.0 ∷ Int (pos its.1.0) ∷ []) wide (its.0.1, (its.1.1, tt)),
)

-- ---- choices

-- each choice is found by the name of its record
abbrev IsNamed : List Row → ℕ × ChoiceRow → Type 0
IsNamed names choice = HasKey (choice_name_layout.key (choice_name_key choice)) names

all_named : (trees : Trees) (rulings : Rulings) (n : ℕ) (made : List Made)
    → AllByRecursion (IsMade trees rulings.rule) (under_numbers n made)
    → AllByRecursion (IsNamed (trees 9)) (under_numbers n (said made))
all_named trees rulings n [] each = tt
all_named trees rulings n (one ∷ made) each =
    (each.0.named, all_named trees rulings (suc n) made each.1)

-- ---- charge rows

all_placed : (closes : List ℤ) (rows : List ChargeRow)
    → AllByRecursion (λ (e : (ℕ × RowKey) × ChargeRow). row_key e.1 ≡ e.0.1) (map (due_entry closes) rows)
all_placed closes [] = tt
all_placed closes (row ∷ rows) = (refl, all_placed closes rows)

-- ---- details

-- rows whose first columns rise rise
pub first_less : (n : ℕ) (a b : Row) → row_cmp (take n a) (take n b) ≡ Less → row_cmp a b ≡ Less
first_less zero a b less = absurd (let e = less in cc)
first_less (suc n) [] [] less = absurd (let e = less in cc)
first_less (suc n) [] (y ∷ b) less = refl
first_less (suc n) (x ∷ a) [] less = absurd (let e = less in cc)
first_less (suc n) (x ∷ a) (y ∷ b) less =
    elim (value_cmp x y) as (λ o. ordering_then o (row_cmp (take n a) (take n b)) ≡ Less
    → ordering_then o (row_cmp a b) ≡ Less) [
      | Less ↦ λ less. refl
      | Equal ↦ λ less. first_less n a b less
      | Greater ↦ λ less. absurd (let e = less in cc)
    ] less

-- a key that is found is one of those
pub one_found : {Q : Type 0} (P : Q → Q → Ordering) → ((x y : Q) → P x y ≡ Equal → x ≡ y) → (q : Q)
    (es : List (Q × Unit {0})) → find P q es ≡ Some tt
    → IsOneOf q (map (λ (e : Q × Unit {0}). e.0) es)
one_found {Q = Q} P exact q [] there = absurd (let e = there in cc)
one_found {Q = Q} P exact q (e ∷ es) there =
    elim (P q e.0) as (λ o. P q e.0 ≡ o → cond (is_eq o) (Some e.1) (find P q es) ≡ Some tt
    → (q ≡ e.0) ⊎ IsOneOf q (map (λ (e : Q × Unit {0}). e.0) es)) [
      | Less ↦ λ at later. inr (one_found P exact q es later)
      | Equal ↦ λ at it. inl (exact q e.0 at)
      | Greater ↦ λ at later. inr (one_found P exact q es later)
    ] refl there

-- the names in details
abbrev pub names_shown : List Detail → List (List ℕ × Unit {0})
names_shown shown = map (λ (d : Detail). (d.name, tt)) shown

-- a name that is found there is that of one
pub name_shown : (name : List ℕ) (shown : List Detail) → find by_bytes name (names_shown shown) ≡ Some tt
    → (d : Detail) × IsOneOf d shown × (d.name ≡ name)
name_shown name [] there = absurd (let e = there in cc)
name_shown name (d ∷ shown) there =
    elim (by_bytes name d.name) as (λ o. by_bytes name d.name ≡ o
    → cond (is_eq o) (Some tt) (find by_bytes name (names_shown shown)) ≡ Some tt
    → (other : Detail) × IsOneOf other (d ∷ shown) × (other.name ≡ name)) [
      | Less ↦ λ at later. let it = name_shown name shown later in (it.0, inr it.1, it.2)
      | Equal ↦ λ at it. (d, inl refl, sym (by_bytes_exact name d.name at))
      | Greater ↦ λ at later. let it = name_shown name shown later in (it.0, inr it.1, it.2)
    ] refl there

-- and the name of each is found
pub shown_name : (shown : List Detail) (d : Detail) → IsOneOf d shown
    → find by_bytes d.name (names_shown shown) ≡ Some tt
shown_name [] d one = absurd one
shown_name (e ∷ shown) d (inl is) =
    ap (λ b. cond b (Some tt) (find by_bytes d.name (names_shown shown)))
    (ap (λ (x : Detail). eq_by_cmp by_bytes d.name x.name) (sym is)
    ∙ (eq_by_cmp_equiv nat_list_cmp_total).refl d.name)
shown_name (e ∷ shown) d (inr later) =
    ap (cond (eq_by_cmp by_bytes d.name e.name) (Some tt)) (shown_name shown d later)
    ∙ either (eq_by_cmp by_bytes d.name e.name)
  where
    either : (b : Bool) → cond b (Some tt) (Some (tt {0})) ≡ Some (tt {0})
    either true = refl
    either false = refl

-- what is there only where a test is passed
pub both_there : (b : Bool) (found : Option RecordRow) (row : RecordRow) → cond b found None ≡ Some row
    → (b ≡ true) × (found ≡ Some row)
both_there true found row is = (refl, is)
both_there false found row is = absurd (let e = is in cc)

pub some_unit : (found : Option (Unit {0})) → is_some found ≡ true → found ≡ Some tt
some_unit None is = absurd (let e = is in cc)
some_unit (Some it) is = refl

-- the row of what is shown
abbrev pub shown_row : Detail → Row
shown_row one = detail_columns (one, tt)

-- ---- the tables

module _ (trees : Trees) (numbers : Numbers) (sound : AreSound trees numbers) where
  abbrev pub told_all : List Told
  told_all = sound.records.entries

  abbrev es : List (List ℕ × RecordRow)
  es = map (λ (told : Told). told.0) told_all

  -- by which entries records came
  abbrev came : CameTable
  came = from_entries (came_pairs told_all)

  pub names_rise : NamesRise told_all
  names_rise =
      ascending_weaker
      (λ (a : Told) (b : Told). row_cmp (key_in Records (told_row a)) (key_in Records (told_row b)) ≡ Less)
      (λ (a : Told) (b : Told). by_bytes a.0.0 b.0.0 ≡ Less)
      (λ a b less. sym ((record_layout came).ordered a.0.0 b.0.0) ∙ less) told_all
      (ascending_from_map (λ (a : Row) (b : Row). row_cmp (key_in Records a) (key_in Records b) ≡ Less)
      told_row told_all (subst (AreRising Records) sound.records.all sound.records.rising))

  each_found : AllByRecursion (λ (told : Told). get came told.0.0 ≡ told.2) told_all
  each_found =
      all_weaker (λ (told : Told). find by_bytes told.0.0 (came_pairs told_all) ≡ told.2)
      (λ (told : Told). get came told.0.0 ≡ told.2)
      (λ told is. get-from_entries nat_list_cmp_total (came_pairs told_all) told.0.0 ∙ is) told_all
      (each_came told_all names_rise)

  records_are : trees 3 ≡ map (row_of (record_layout came)) es
  records_are =
      sound.records.all ∙ same_rows came told_all each_found
      ∙ sym (map-map (row_of (record_layout came)) (λ (told : Told). told.0) told_all)

  abbrev records : RecordTable
  records = from_entries es

  pub records_in_order : entries records ≡ map (λ (told : Told). told.0) told_all
  records_in_order =
      entries_kept (record_layout came) Records (λ k. refl) es
      (subst (AreRising Records) records_are sound.records.rising)

  pub right_of : (name : List ℕ) (row : RecordRow) → get records name ≡ Some row
      → IsRight trees sound.rulings (name, row)
  right_of name row there =
      get_one (record_layout came).total (record_layout came).exact
      (λ (name : List ℕ) (row : RecordRow). IsRight trees sound.rulings (name, row)) es
      (all-map (IsRight trees sound.rulings) (λ (told : Told). told.0) told_all
      sound.records.are.right) name row there

  pub so_many : numbers.records ≡ length (entries records)
  so_many =
      sound.records.are.counted ∙ sym (length-map told_all (λ (told : Told). told.0))
      ∙ ap length (sym records_in_order)

  identity_rows : trees 6 ≡ rows_of identity_layout (identity_index records)
  identity_rows =
      let keys = keys_in identity_layout Identities identity_of (trees 6) sound.identities.each
      sound.identities.wide in
      index_rows identity_layout identity_named records Identities (λ q. refl) keys.0 keys.1
      sound.identities.rising (λ name row there. (right_of name row there).marked.found.identity)
      (sym sound.identities.are ∙ so_many)

  mark_rows : trees 7 ≡ rows_of mark_layout (marks records)
  mark_rows =
      let keys = keys_in mark_layout Marks mark_of (trees 7) sound.marks.each sound.marks.wide in
      index_rows mark_layout mark_named records Marks (λ q. refl) keys.0 keys.1 sound.marks.rising
      (λ name row there. (right_of name row there).marked.found.mark) (sym sound.marks.are ∙ so_many)

  abbrev pub made : List Made
  made = sound.ruled.choices.made

  abbrev choices : ChoiceTable
  choices = from_entries (under_numbers 1 (said made))

  choices_in_order : entries choices ≡ under_numbers 1 (said made)
  choices_in_order = entries-numbers (said made)

  named_of : (number : ℕ) (row : ChoiceRow) → get choices number ≡ Some row
      → IsNamed (trees 9) (number, row)
  named_of number row there =
      get_one choice_layout.total choice_layout.exact
      (λ (number : ℕ) (row : ChoiceRow). IsNamed (trees 9) (number, row)) (under_numbers 1 (said made))
      (all_named trees sound.rulings 1 made sound.ruled.choices.are.each) number row there

  choice_name_rows : trees 9 ≡ rows_of choice_name_layout (choice_name_index choices)
  choice_name_rows =
      let names = sound.ruled.choice_names in
      let keys = keys_in choice_name_layout ChoiceNames choice_name_of (trees 9) names.each names.wide in
      index_rows choice_name_layout chosen_named choices ChoiceNames (λ q. refl) keys.0 keys.1
      names.rising named_of
      (sym names.are ∙ sound.ruled.choices.are.counted
      ∙ sym (length-map made (λ (one : Made). one.1)) ∙ sym (long_numbers 1 (said made))
      ∙ ap length (sym choices_in_order))

  -- the charge rows
  abbrev pub due : List ((ℕ × RowKey) × ChargeRow)
  due = map (due_entry sound.rulings.closes.items) (charge_rows (counted_prices told_all))

  abbrev days : DayTable
  days = from_entries due

  placed : AreUnderOwnKeys days
  placed key row there =
      get_one day_layout.total day_layout.exact
      (λ (key : ℕ × RowKey) (row : ChargeRow). row_key row ≡ key.1) due
      (all_placed sound.rulings.closes.items (charge_rows (counted_prices told_all))) key row there

  -- the details
  abbrev pub shown : List Detail
  shown = sound.details.shown

  abbrev counted : CountedTable
  counted = from_entries (names_shown shown)

  shown_rises : IsAscending (λ (a : Detail) (b : Detail). by_shown a b ≡ Less) shown
  shown_rises =
      ascending_weaker
      (λ (a : Detail) (b : Detail). row_cmp (key_in Details (shown_row a)) (key_in Details (shown_row b)) ≡ Less)
      (λ (a : Detail) (b : Detail). by_shown a b ≡ Less)
      (λ a b less. sym (detail_order a b) ∙ first_less 5 (shown_row a) (shown_row b) less) shown
      (ascending_from_map (λ (a : Row) (b : Row). row_cmp (key_in Details a) (key_in Details b) ≡ Less)
      shown_row shown (subst (AreRising Details) sound.details.are sound.details.rising))

  -- what is shown of a name is what its record's row says
  pub is_shown : (d : Detail) → IsOneOf d shown
      → (row : RecordRow) × (get records d.name ≡ Some row) × (d ≡ detail_shown (d.name, row))
  is_shown d one =
      let shows = of_one (ShowsCounted trees sound.rulings.closes.items) shown sound.details.each d one in
      let at = row_found (record_layout came) records d.name shows.held.found
      (rows_kept (record_layout came) Records (λ k. refl) es records_are sound.records.rising) refl in (
        at.0,
        at.1,
        shows.is ∙ ap (λ (e : List ℕ × RecordRow). detail_with d.name (row_record e.1) e.1.priced)
            (one_record shows.entry (d.name, at.0) shows.held.came (get came d.name) at.2),
      )

  abbrev index_shown : FinMap by_shown (Unit {0})
  index_shown = detail_index counted records

  abbrev keys_shown : List Detail
  keys_shown = map (λ (e : Detail × Unit {0}). e.0) (entries index_shown)

  -- each detail of the index is shown
  is_one : (q : Detail) → IsKeyOf detail_shown (λ (d : Detail). d.name) (counted_among counted records) q
      → IsOneOf q shown
  is_one q is =
      let both = both_there (contains_key counted q.name) (get records q.name) is.0
      (sym (get_counted counted records q.name) ∙ is.1) in
      let named = name_shown q.name shown
      (sym (get-from_entries nat_list_cmp_total (names_shown shown) q.name)
      ∙ some_unit (get counted q.name) both.0) in
      let it = is_shown named.0 named.1 in
      let same : it.0 ≡ is.0 =
      same_Some it.0 is.0 (sym it.1 ∙ ap (get records) named.2 ∙ both.1) in
      subst (λ (d : Detail). IsOneOf d shown)
      (it.2 ∙ (λ i. detail_shown (named.2 i, same i)) ∙ is.2) named.1

  -- and each that is shown is one of the index
  one_shown : (d : Detail) → IsOneOf d shown → IsOneOf d keys_shown
  one_shown d one =
      let it = is_shown d one in
      one_found by_shown by_shown_exact d (entries index_shown)
      (sym (get-entries index_shown d)
      ∙ indexed detail_named (counted_among counted records) d
      ∙ ap (index_answer by_shown detail_shown d.name d) (get_counted counted records d.name
      ∙ ap (λ b. cond b (get records d.name) None) (ap is_some (get-from_entries nat_list_cmp_total
      (names_shown shown) d.name ∙ shown_name shown d one)) ∙ it.1)
      ∙ ap (λ (x : Detail). cond (eq_by_cmp by_shown d x) (Some tt) None) (sym it.2)
      ∙ ap (λ b. cond b (Some tt) None) ((eq_by_cmp_equiv by_shown_total).refl d))

  detail_rows : trees 10 ≡ rows_of detail_layout index_shown
  detail_rows =
      let up = ascending-map (λ (a : Detail) (b : Detail). by_shown a b ≡ Less)
      (λ (e : Detail × Unit {0}). e.0) (entries index_shown)
      (entries_rise by_shown (entries index_shown) (entries_sorted index_shown)) in
      let each = all_weaker
      (IsKeyOf detail_shown (λ (d : Detail). d.name) (counted_among counted records))
      (λ (q : Detail). IsOneOf q shown) is_one keys_shown
      (recursion_from_All
      (IsKeyOf detail_shown (λ (d : Detail). d.name) (counted_among counted records)) keys_shown
      (index_names_all detail_named (counted_among counted records))) in
      let fewer = no_more by_shown_total shown keys_shown up shown_rises each in
      let others = no_more by_shown_total keys_shown shown shown_rises up
      (each_is_one keys_shown shown one_shown) in
      let same : keys_shown ≡ shown =
      all_of_them by_shown_total shown keys_shown up shown_rises each (omega (arith, fewer, others)) in
      sound.details.are ∙ ap (rows_at detail_layout) (sym same)
      ∙ sym (rows_again detail_layout (entries index_shown))

  -- the tables whose rows the trees have
  abbrev pub tables_held : Tables
  tables_held = record {
    book = record {
      rule = sound.ruled.book.is.rule;
      adopted = sound.ruled.book.is.adopted;
      held = sound.rulings.held;
      amount = sound.rulings.amount;
    };
    tariffs = from_entries (tariff_entries sound.ruled.tariffs.accepted);
    closes = from_entries (close_entries 1 sound.rulings.closes.items);
    choices = choices;
    credits = from_entries (under_numbers 1 sound.ruled.kept.credits.credits);
    replaced = from_entries
        (under_numbers 1 (map replaced_row sound.ruled.kept.replaced.replaced));
    records = records;
    days = days;
    lines = from_entries sound.lines.lines;
    counted = counted;
    journal = from_entries (under_numbers 1 sound.entered.entries);
    came = came;
  }

  pub trees_hold : Holds trees tables_held
  trees_hold = record {
    book = sound.ruled.book.one ∙ ap (λ (r : Row). r ∷ []) sound.ruled.book.is.are;
    tariffs = rows_kept tariff_layout Tariffs (λ k. refl)
        (tariff_entries sound.ruled.tariffs.accepted) sound.ruled.tariffs.are
        sound.ruled.tariffs.rising;
    closes = sound.ruled.closes.are
        ∙ ap (map closed_columns) (sym (entries-numbers sound.rulings.closes.items));
    records = rows_kept (record_layout came) Records (λ k. refl) es records_are
        sound.records.rising;
    days = rows_kept day_layout Days (λ k. refl) due sound.days sound.rising;
    placed = placed;
    lines = rows_kept line_layout Lines (λ k. refl) sound.lines.lines sound.lines.are
        sound.lines.rising;
    identity_index = identity_rows;
    marks = mark_rows;
    choices = sound.ruled.choices.rows ∙ ap (map choice_columns) (sym choices_in_order);
    choice_name_index = choice_name_rows;
    details = detail_rows;
    credits = sound.ruled.kept.credits.are
        ∙ ap (map credit_columns) (sym (entries-numbers sound.ruled.kept.credits.credits));
    replaced = sound.ruled.kept.replaced.are
        ∙ ap (map replaced_columns)
        (sym (entries-numbers (map replaced_row sound.ruled.kept.replaced.replaced)));
    journal = sound.entered.are
        ∙ ap (map journal_columns) (sym (entries-numbers sound.entered.entries));
  }
