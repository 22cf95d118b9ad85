-- The lines, the charge rows and the details of sound trees are those of the records that are counted.
use Rattle.std.proofs.Common.{◌≡◌, ◌∙◌, ◌++◌, ◌<◌, ◌≤◌, ◌∷◌, [], inl, inr, ℕ, ℤ, List, Bool, true}
use Rattle.std.proofs.Common.{false, Option, Some, None, IsSome, ap, ap₂, arith, cond, drop, length}
use Rattle.std.proofs.Common.{map, pos, refl, subst, sum_by, sym, true≢false, ◌&&◌, filter, is_eq}
use Rattle.std.proofs.Common.{is_lt, Ordering, Less, Equal, Greater}
use Rattle.std.specs.FinMap.{find}
use Rattle.sqlite_trees.specs.Tree.{Trees, from_key}
use Rattle.sqlite_trees.proofs.ListLemmas.{all_weaker}
use Rattle.sqlite_value.specs.Keys.{plain, prefix_cmp}
use Rattle.sqlite_value.specs.Order.{Row, row_cmp, value_cmp}
use Rattle.sqlite_value.specs.declared.value.Value.{Value}
use Rattle.sqlite_value.specs.declared.value.Value.TheVariants.{Blob, Int, Text}
use Rattle.sqlite_value.proofs.OrderLemmas.{value_cmp-Blob}
use Rattle.book_model.proofs.Std.{nat_list_cmp_total, entries, from_entries, get, get-entries}
use Rattle.book_model.proofs.Std.{get-from_entries, same_map, values, ordering_then}
use Rattle.book_model.specs.Words.{Priced, by_bytes, by_key, most_held, rows_of as charge_rows}
use Rattle.book_model.specs.declared.detail.Detail.{Detail}
use Rattle.table_model.specs.Words.{detail_shown, by_period, RecordRow, Tables}
use Rattle.table_model.proofs.Finding.{get_one}
use Rattle.consistent_tables.specs.Consistent.{IsOwnLine, counted_entries, is_counted_row, ruled}
use Rattle.consistent_tables.specs.DueRows.{due_entry, period_from}
use Rattle.tree_rows.specs.Rows.{IsFirst}
use Rattle.tree_rows.proofs.IndexOrders.{by_bytes_exact}
use Rattle.tree_rows.proofs.Maps.{head_is, prefix_of}
use Rattle.tree_tables.proofs.Layouts.{line_layout}
use Rattle.book_audit.specs.Lines.{IsLateLine}
use Rattle.book_audit.specs.Details.{ShowsCounted}
use Rattle.book_audit.specs.Records.{HasPast, TellsRight, Told, detail_key, spot_of}
use Rattle.book_audit.specs.SoundTrees.{AreSound}
use Rattle.book_audit.specs.Trees.{HasKey}
use Rattle.book_audit.specs.declared.audited.Counts.{Counts as Numbers}
use Rattle.book_audit.specs.declared.finding.DetailKey.{DetailKey}
use Rattle.book_audit.proofs.Rows.Counted.{name_counted, named, prices_are, sum_told, sum_values}
use Rattle.book_audit.proofs.Held.Pigeonhole.{IsOneOf, of_one}
use Rattle.book_audit.proofs.Sound.Records.{past_is}
use Rattle.book_audit.proofs.Sound.Rulings.{closes_said, days, open_is}
use Rattle.book_audit.proofs.Sound.Tables.{name_shown, names_shown, records_in_order, shown}
use Rattle.book_audit.proofs.Sound.Tables.{shown_name, shown_row, so_many, tables_held, told_all}
use Rattle.book_audit.proofs.Sound.Tables.{trees_hold}
use Rattle.book_audit.proofs.Held.Looks.{entry_looked}

-- ---- details

-- a row of details that has a key is one of what is shown
key_shown : (key : Row) (ds : List Detail) (row : Row) (more : List Row)
    → from_key plain key (map shown_row ds) ≡ row ∷ more → is_eq (prefix_cmp plain row key) ≡ true
    → (d : Detail) × IsOneOf d ds × (is_eq (prefix_cmp plain (shown_row d) key) ≡ true)
key_shown key [] row more begins is = absurd (let e = begins in cc)
key_shown key (d ∷ ds) row more begins is =
    elim (is_lt (prefix_cmp plain (shown_row d) key)) as (λ b.
    cond b (from_key plain key (map shown_row ds)) (shown_row d ∷ map shown_row ds) ≡ row ∷ more
    → (one : Detail) × IsOneOf one (d ∷ ds) × (is_eq (prefix_cmp plain (shown_row one) key) ≡ true)) [
      | true ↦ λ later. let it = key_shown key ds row more later is in (it.0, inr it.1, it.2)
      | false ↦ λ it. (
        d,
        inl refl,
        ap (λ (r : Row). is_eq (prefix_cmp plain r key))
            (head_is (shown_row d) row (map shown_row ds) more it) ∙ is,
      )
    ] begins

has_shown : (key : Row) (ds : List Detail) → HasKey key (map shown_row ds)
    → (d : Detail) × IsOneOf d ds × (is_eq (prefix_cmp plain (shown_row d) key) ≡ true)
has_shown key ds has = by has.finds.there has.finds.first has.finds.is
  where
    by : (there : Bool) → IsFirst (from_key plain key (map shown_row ds)) has.row there
        → true ≡ (there && is_eq (prefix_cmp plain has.row key))
        → (d : Detail) × IsOneOf d ds × (is_eq (prefix_cmp plain (shown_row d) key) ≡ true)
    by true begins is = key_shown key ds has.row begins.0 begins.1 (sym is)
    by false begins is = absurd (true≢false is)

-- rows that tie have values at their ends that do
tie_first : (o : Ordering) → is_eq (ordering_then o Equal) ≡ true → o ≡ Equal
tie_first Less tie = absurd (let e = tie in cc)
tie_first Equal tie = refl
tie_first Greater tie = absurd (let e = tie in cc)

ends_tie : (a b : Row) (x y : Value) → length a ≡ length b
    → is_eq (row_cmp (a ++ x ∷ []) (b ++ y ∷ [])) ≡ true → value_cmp x y ≡ Equal
ends_tie [] [] x y long tie = tie_first (value_cmp x y) tie
ends_tie [] (v ∷ b) x y long tie = absurd (omega (arith, long))
ends_tie (u ∷ a) [] x y long tie = absurd (omega (arith, long))
ends_tie (u ∷ a) (v ∷ b) x y long tie =
    elim (value_cmp u v) as (λ o. is_eq (ordering_then o (row_cmp (a ++ x ∷ []) (b ++ y ∷ []))) ≡ true
    → value_cmp x y ≡ Equal) [
      | Less ↦ λ tie. absurd (let e = tie in cc)
      | Equal ↦ λ tie. ends_tie a b x y (omega (arith, long)) tie
      | Greater ↦ λ tie. absurd (let e = tie in cc)
    ] tie

-- so what is shown at the place of a record has its name
same_name : (d : Detail) (spot : DetailKey)
    → is_eq (prefix_cmp plain (shown_row d) (detail_key spot)) ≡ true → d.name ≡ spot.name
same_name d spot tie =
    let own : DetailKey = spot_of d in
    let a : Row = Int own.place.day ∷ Text own.place.centre ∷ Text own.place.shift ∷ Int (pos own.time) ∷ [] in
    let b : Row = Int spot.place.day ∷ Text spot.place.centre ∷ Text spot.place.shift ∷ Int (pos spot.time) ∷ [] in
    by_bytes_exact d.name spot.name
    (sym (value_cmp-Blob d.name spot.name)
    ∙ ends_tie a b (Blob d.name) (Blob spot.name) refl
    (sym (ap is_eq (prefix_of (detail_key own) (drop 5 (shown_row d)) (detail_key spot) refl)) ∙ tie))

-- ---- the names of what is counted

-- the entries of records, and the one of a name among them that is counted
abbrev entries_told : List Told → List (List ℕ × RecordRow)
entries_told told = map (λ (one : Told). one.0) told

abbrev FindsCounted : (List ℕ × RecordRow → Bool) → List Told → List ℕ → Type 0
FindsCounted counts told name =
    (one : Told) × IsOneOf one told × (counts one.0 ≡ true) × (one.0.0 ≡ name)

later_counted : (counts : List ℕ × RecordRow → Bool) (first : Told) (told : List Told) (name : List ℕ)
    → FindsCounted counts told name → FindsCounted counts (first ∷ told) name
later_counted counts first told name it = (it.0, inr it.1, it.2, it.3)

-- a name that is found there is that of a record that is counted
counted_named : (counts : List ℕ × RecordRow → Bool) (told : List Told) (name : List ℕ)
    → find by_bytes name (map named (filter counts (entries_told told))) ≡ Some tt
    → FindsCounted counts told name
counted_named counts [] name there = absurd (let e = there in cc)
counted_named counts (one ∷ told) name there =
    by (counts one.0) refl (λ at. later_counted counts one told name (counted_named counts told name at)) there
  where
    first : counts one.0 ≡ true
        → (find by_bytes name (map named (filter counts (entries_told told))) ≡ Some tt
        → FindsCounted counts (one ∷ told) name) → (o : Ordering) → by_bytes name one.0.0 ≡ o
        → cond (is_eq o) (Some tt) (find by_bytes name (map named (filter counts (entries_told told))))
        ≡ Some tt → FindsCounted counts (one ∷ told) name
    first is later Less tie at = later at
    first is later Equal tie at = (one, inl refl, is, sym (by_bytes_exact name one.0.0 tie))
    first is later Greater tie at = later at

    by : (b : Bool) → counts one.0 ≡ b
        → (find by_bytes name (map named (filter counts (entries_told told))) ≡ Some tt
        → FindsCounted counts (one ∷ told) name)
        → find by_bytes name (map named (cond b (one.0 ∷ filter counts (entries_told told))
        (filter counts (entries_told told)))) ≡ Some tt → FindsCounted counts (one ∷ told) name
    by true is later at = first is later (by_bytes name one.0.0) refl at
    by false isnt later at = later at

-- what is found in both or in neither is the same
same_found : (one other : Option (Unit {0})) → (one ≡ Some tt → other ≡ Some tt)
    → (other ≡ Some tt → one ≡ Some tt) → one ≡ other
same_found None None there back = refl
same_found None (Some it) there back = back refl
same_found (Some it) other there back = sym (there refl)

-- ---- the tables

module _ (trees : Trees) (numbers : Numbers) (sound : AreSound trees numbers) where
  abbrev tables : Tables
  tables = tables_held trees numbers sound

  abbrev closes : List ℤ
  closes = days trees numbers sound

  abbrev told_here : List Told
  told_here = told_all trees numbers sound

  abbrev counts : List ℕ × RecordRow → Bool
  counts = is_counted_row tables

  -- what is told of a record is what the tables say
  is_told : (one : Told) → TellsRight trees closes one → one.1 ≡ counts one.0
  is_told one is = (past_is trees numbers sound one.0.0 one.0.1 one.1 is.past).0

  counted_are : counted_entries tables ≡ filter counts (entries_told told_here)
  counted_are = ap (filter counts) (records_in_order trees numbers sound)

  pub days_are : tables.days ≡ from_entries {R = by_period by_key} (map (due_entry (ruled tables).closes)
      (charge_rows (map (λ (entry : List ℕ × RecordRow). entry.1.priced) (counted_entries tables))))
  days_are =
      ap₂ (λ (all : List ℤ) (prices : List Priced).
      from_entries {R = by_period by_key} (map (due_entry all) (charge_rows prices)))
      (sym (closes_said trees numbers sound))
      (prices_are counts told_here
      (all_weaker (TellsRight trees closes) (λ (one : Told). one.1 ≡ counts one.0) is_told told_here
      sound.records.are.past)
      ∙ ap (map (λ (entry : List ℕ × RecordRow). entry.1.priced)) (sym counted_are))

  -- ---- details

  -- what is shown is counted
  shown_counted : (d : Detail) → IsOneOf d (shown trees numbers sound)
      → (row : RecordRow) × (get tables.records d.name ≡ Some row) × (counts (d.name, row) ≡ true)
  shown_counted d one =
      let shows = of_one (ShowsCounted trees closes) (shown trees numbers sound) sound.details.each d one in
      let row : RecordRow = shows.entry.1 in
      let at = entry_looked trees tables (trees_hold trees numbers sound) d.name shows.entry shows.held in
      let past : HasPast (trees 5) closes (d.name, row) true =
      subst (λ (name : List ℕ). HasPast (trees 5) closes (name, row) true) at.0 shows.counted in
      (row, at.1, sym (past_is trees numbers sound d.name row true past).0)

  -- and what is counted is shown
  counted_shown : (one : Told) → IsOneOf one told_here → counts one.0 ≡ true
      → find by_bytes one.0.0 (names_shown (shown trees numbers sound)) ≡ Some tt
  counted_shown one is counted =
      let told = of_one (TellsRight trees closes) told_here sound.records.are.past one is in
      let spot : DetailKey = spot_of (detail_shown one.0) in
      let has : HasKey (detail_key spot) (map shown_row (shown trees numbers sound)) =
      subst (HasKey (detail_key spot)) sound.details.are (told.shown (is_told one told ∙ counted)) in
      let it = has_shown (detail_key spot) (shown trees numbers sound) has in
      subst (λ (name : List ℕ). find by_bytes name (names_shown (shown trees numbers sound)) ≡ Some tt)
      (same_name it.0 spot it.2) (shown_name (shown trees numbers sound) it.0 it.1)

  names_found : (name : List ℕ)
      → find by_bytes name (names_shown (shown trees numbers sound))
      ≡ find by_bytes name (map named (counted_entries tables))
  names_found name =
      same_found (find by_bytes name (names_shown (shown trees numbers sound)))
      (find by_bytes name (map named (counted_entries tables)))
      (λ there.
      let one = name_shown name (shown trees numbers sound) there in
      let it = shown_counted one.0 one.1 in
      subst (λ (own : List ℕ). find by_bytes own (map named (counted_entries tables)) ≡ Some tt) one.2
      (name_counted counts (entries tables.records) one.0.name it.0
      (sym (get-entries tables.records one.0.name) ∙ it.1) it.2))
      (λ there.
      let one = counted_named counts told_here name
      (sym (ap (λ (es : List (List ℕ × RecordRow)). find by_bytes name (map named es)) counted_are) ∙ there) in
      subst (λ (own : List ℕ). find by_bytes own (names_shown (shown trees numbers sound)) ≡ Some tt) one.3
      (counted_shown one.0 one.1 one.2))

  pub names_are : tables.counted ≡ from_entries {R = by_bytes} (map named (counted_entries tables))
  names_are =
      same_map nat_list_cmp_total by_bytes_exact tables.counted
      (from_entries {R = by_bytes} (map named (counted_entries tables))) (λ name.
      get-from_entries nat_list_cmp_total (names_shown (shown trees numbers sound)) name ∙ names_found name
      ∙ sym (get-from_entries nat_list_cmp_total (map named (counted_entries tables)) name))

  -- ---- lines

  late_line : (period : ℕ) (name : List ℕ) (plus : Bool) → get tables.lines (period, name) ≡ Some plus
      → IsOwnLine tables period name
  late_line period name plus there =
      let late = get_one line_layout.total line_layout.exact
      (λ (place : ℕ × List ℕ) (plus : Bool). IsLateLine (trees 3) closes (place, plus))
      sound.lines.lines sound.lines.each (period, name) plus there in
      let at = entry_looked trees tables (trees_hold trees numbers sound) name late.entry late.held in
      record {
        row = late.entry.1;
        held = at.1;
        after = subst (λ (all : List ℤ). period_from 1 all late.entry.1.priced.day < period)
            (sym (closes_said trees numbers sound)) late.after;
        begun = subst (λ n. period ≤ n) (sym (open_is trees numbers sound)) late.begun;
      }

  pub own_line : (period : ℕ) (name : List ℕ) → IsSome (get tables.lines (period, name))
      → IsOwnLine tables period name
  own_line period name = by (get tables.lines (period, name)) refl
    where
      by : (found : Option Bool) → get tables.lines (period, name) ≡ found → IsSome found
          → IsOwnLine tables period name
      by None at some = absurd (true≢false (sym some))
      by (Some plus) at some = late_line period name plus at

  -- ---- numbers

  pub held_are : tables.book.held ≡ length (entries tables.records)
  held_are = sym sound.held ∙ so_many trees numbers sound

  pub held_few : tables.book.held ≤ most_held
  held_few = subst (λ n. n ≤ most_held) sound.held sound.records.few

  pub amount_is : tables.book.amount ≡ sum_by (λ (row : RecordRow). row.priced.amount) (values tables.records)
  amount_is =
      sound.records.are.summed ∙ sum_told told_here
      ∙ ap (sum_by (λ (e : List ℕ × RecordRow). e.1.priced.amount))
      (sym (records_in_order trees numbers sound))
      ∙ sym (sum_values (entries tables.records))
