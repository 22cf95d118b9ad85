-- The next record that is not charged, by identity and name, as the tree of marks shows it.
use Rattle.std.proofs.Common.{◌≡◌, ◌∙◌, ◌++◌, ◌&&◌, ℕ, List, [], ◌∷◌, Bool, true, false, true≢false}
use Rattle.std.proofs.Common.{not, Option, Some, None, Ok, pos, refl, sym, ap, ap₂, subst}
use Rattle.std.specs.FinMap.{get, get-entries}
use Rattle.std.specs.Option.{option_map}
use Rattle.std.specs.Ordering.{is_lt, nat_cmp, ordering_then}
use Rattle.std.specs.declared.cmp.Ordering.{Ordering}
use Rattle.std.proofs.lemmas.Bool.{false_from_ne_true}
use Rattle.std.proofs.lemmas.Cmp.{nat_list_cmp_total}
use Rattle.sqlite_trees.specs.Tree.{from_key}
use Rattle.sqlite_trees.specs.View.{IsClean}
use Rattle.sqlite_trees.specs.declared.store.Store.{Ghosts}
use Rattle.sqlite_value.proofs.OrderLemmas.{then-Equal, value_cmp-Blob, value_cmp-Int}
use Rattle.sqlite_value.specs.Keys.{plain, prefix_cmp}
use Rattle.sqlite_value.specs.Order.{Row, column}
use Rattle.sqlite_value.specs.declared.value.Value.TheVariants.{Blob, Int}
use Rattle.book_model.proofs.RecordSets.{first_of, not_true, second_of}
use Rattle.table_model.specs.Tables.{RecordRow, RecordTable, Tables}
use Rattle.tree_rows.specs.Indexes.{IsKeyOf, by_both, by_bytes, by_mark}
use Rattle.tree_rows.specs.Layouts.{row_of, rows_of}
use Rattle.tree_rows.specs.Rows.{IsFirst, IsUnchanged}
use Rattle.tree_rows.proofs.Calls.{Quiet}
use Rattle.tree_rows.proofs.FromPart.{FindsFrom, finds_from}
use Rattle.tree_rows.proofs.Indexes.{index_has, index_names}
use Rattle.tree_rows.proofs.Maps.{prefix_of}
use Rattle.tree_rows.proofs.Taking.{some_is}
use Rattle.tree_tables.specs.Answers.{FindsRecord}
use Rattle.tree_tables.specs.Columns.{flag}
use Rattle.tree_tables.specs.Holds.{mark_key, marks}
use Rattle.tree_tables.specs.LateRecords.{FindsUnchargedLeft, IsNextUncharged, SaysUnchargedName}
use Rattle.tree_tables.specs.LateRecords.{comes_next, is_uncharged_left, mark_start}
use Rattle.tree_tables.specs.States.{state}
use Rattle.tree_tables.specs.Steps.{Looks}
use Rattle.tree_tables.specs.Stored.{stored_entry}
use Rattle.tree_tables.specs.declared.late_records.LateRecord.{LateRecord}
use Rattle.tree_tables.specs.declared.stored_record.StoredRecord.{StoredRecord}
use Rattle.tree_tables.proofs.ChargedRows.{Key}
use Rattle.tree_tables.proofs.FoundNames.{Entry}
use Rattle.tree_tables.proofs.IdentityLooks.{unflagged}
use Rattle.tree_tables.proofs.Layouts.{mark_layout, numbers}
use Rattle.tree_tables.proofs.Looking.{looks_found}
use Rattle.tree_tables.proofs.NextDetail.{by_first, not_between}
use Rattle.tree_tables.proofs.RecordIndexes.{mark_named}
use Rattle.tree_tables.proofs.RecordLists.{mark_rows}
use Rattle.tree_tables.proofs.RowsRead.{same_blob, same_count}

-- what is not false is true
not_false : (b : Bool) → not b ≡ false → b ≡ true
not_false true is = refl
not_false false is = absurd (true≢false is)

-- a record that is still to come is not charged, and comes next
uncharged_of : (last : Option LateRecord) (e : Entry) → is_uncharged_left last e ≡ true
    → e.1.charged ≡ false
uncharged_of last e left =
    not_true e.1.charged (first_of (not e.1.charged) (comes_next last e) left)

comes_of : (last : Option LateRecord) (e : Entry) → is_uncharged_left last e ≡ true
    → comes_next last e ≡ true
comes_of last e left = second_of (not e.1.charged) (comes_next last e) left

-- how a key compares with the first columns of the marks of those that are still to come
abbrev rank : Option LateRecord → Key → Ordering
rank None key = nat_cmp key.0 (flag false)
rank (Some late) key =
    ordering_then (nat_cmp key.0 (flag false))
    (ordering_then (by_bytes key.1.0 late.stored.identity.items)
    (by_bytes key.1.1 (late.stored.name ++ 0 ∷ [])))

-- its row compares so
at_part : (last : Option LateRecord) (e : Key × Unit {0})
    → prefix_cmp plain (row_of mark_layout e) (mark_start last) ≡ rank last e.0
at_part None e =
    prefix_of (Int (pos e.0.0) ∷ []) (Blob e.0.1.0 ∷ Blob e.0.1.1 ∷ []) (mark_start None) refl
    ∙ (then-Equal _ ∙ (value_cmp-Int (pos e.0.0) (pos (flag false)) ∙ numbers e.0.0 (flag false)))
at_part (Some late) e =
    prefix_of (Int (pos e.0.0) ∷ Blob e.0.1.0 ∷ Blob e.0.1.1 ∷ []) [] (mark_start (Some late)) refl
    ∙ ap₂ ordering_then
    (value_cmp-Int (pos e.0.0) (pos (flag false)) ∙ numbers e.0.0 (flag false))
    (ap₂ ordering_then (value_cmp-Blob e.0.1.0 late.stored.identity.items)
    (then-Equal _ ∙ value_cmp-Blob e.0.1.1 (late.stored.name ++ 0 ∷ [])))

-- the key of a record that is not charged is not below them, where the record comes next
rank_of : (last : Option LateRecord) (e : Entry) → e.1.charged ≡ false
    → is_lt (rank last (mark_key e)) ≡ not (comes_next last e)
rank_of None e uncharged = ap (λ charged. is_lt (nat_cmp (flag charged) (flag false))) uncharged
rank_of (Some late) e uncharged =
    let identity = late.stored.identity.items in
    let name = late.stored.name in
    ap (λ charged. is_lt (ordering_then (nat_cmp (flag charged) (flag false))
    (ordering_then (by_bytes e.1.identity identity) (by_bytes e.0 (name ++ 0 ∷ []))))) uncharged
    ∙ (by_first (by_bytes e.1.identity identity) (by_bytes identity e.1.identity)
    (nat_list_cmp_total.antisymm e.1.identity identity) (not_between name e.0)).so

-- the name is that of the next record
abbrev pub NamesUncharged : Option LateRecord → Tables → List ℕ → Type 0
NamesUncharged last tables name = (row : RecordRow) × IsNextUncharged last tables (name, row)

-- The first row from the columns on was read.
module _ (last : Option LateRecord) (tables : Tables) {rows : List Row} {key : Row} (row : Row)
    (held : rows ≡ mark_rows tables.records) (key_is : key ≡ mark_start last)
  where
    abbrev records : RecordTable
    records = tables.records

    -- what it shows
    abbrev Shows : Bool → Type 0
    Shows = FindsFrom mark_layout (mark_start last) (rank last) (at_part last) (marks records) row

    shows : (there : Bool) → IsFirst (from_key plain key rows) row there → Shows there
    shows there begins =
        finds_from mark_layout (mark_start last) (rank last) (at_part last) (marks records) row there
        (subst (λ one. IsFirst (from_key plain one (rows_of mark_layout (marks records))) row there)
        key_is (subst (λ some. IsFirst (from_key plain key some) row there) held begins))

    -- the tree has the key of each record
    key_there : (e : Entry) → get records e.0 ≡ Some e.1 → get (marks records) (mark_key e) ≡ Some tt
    key_there e there = index_has mark_named records e.0 e.1 there

    -- that of one which is still to come is not below the columns
    key_high : (e : Entry) → is_uncharged_left last e ≡ true
        → is_lt (rank last (mark_key e)) ≡ false
    key_high e left = rank_of last e (uncharged_of last e left) ∙ ap not (comes_of last e left)

    -- where there is no row, none is to come
    pub uncharged_none : IsFirst (from_key plain key rows) row false
        → FindsUnchargedLeft last tables None
    uncharged_none begins = λ e there.
        false_from_ne_true (is_uncharged_left last e) (λ left.
        true≢false (sym (shows false begins (mark_key e) tt (key_there e there)) ∙ key_high e left))

    module _ (begins : IsFirst (from_key plain key rows) row true) where
      abbrev found : Shows true
      found = shows true begins

      -- the key that is found
      abbrev mark : Key
      mark = found.0

      -- is that of a record
      its_record : IsKeyOf mark_key (λ (q : Key). q.1.1) records mark
      its_record =
          index_names mark_named records mark (sym (get-entries (marks records) mark) ∙ found.2)

      abbrev its : Entry
      its = (mark.1.1, its_record.0)

      -- the name in its row
      name_is : column row 2 ≡ Blob mark.1.1
      name_is = ap (λ (r : Row). column r 2) found.3

      -- what the row says of the mark
      same_mark : (n : ℕ) → column row 0 ≡ Int (pos n) → mark.0 ≡ n
      same_mark n says =
          same_count mark.0 n (sym (ap (λ (r : Row). column r 0) found.3) ∙ says)

      -- the keys of records that are still to come are not below it
      key_least : (e : Entry) → get records e.0 ≡ Some e.1 → is_uncharged_left last e ≡ true
          → is_lt (by_mark (mark_key e) mark) ≡ false
      key_least e there left = found.5 (mark_key e) tt (key_there e there) (key_high e left)

      -- where it is that of a charged record, none is to come
      pub uncharged_past : column row 0 ≡ Int (pos (flag true))
          → FindsUnchargedLeft last tables None
      uncharged_past says = λ e there.
          false_from_ne_true (is_uncharged_left last e) (λ left.
          true≢false (sym (λ i. is_lt (ordering_then
          (nat_cmp (flag (uncharged_of last e left i)) (same_mark (flag true) says i))
          (by_both (mark_key e).1 mark.1)))
          ∙ key_least e there left))

      -- else its record is the next
      is_next : column row 0 ≡ Int (pos (flag false)) → IsNextUncharged last tables its
      is_next says =
          let mark_is = same_mark (flag false) says in
          let uncharged : its.1.charged ≡ false =
          unflagged its.1.charged (ap (λ (k : Key). k.0) its_record.2 ∙ mark_is) in
          let high : not (comes_next last its) ≡ false =
          sym (rank_of last its uncharged)
          ∙ ap (λ (k : Key). is_lt (rank last k)) its_record.2 ∙ found.4 in
          record {
            there = its_record.1;
            comes = ap (λ charged. not charged && comes_next last its) uncharged
                ∙ not_false (comes_next last its) high;
            least = λ other there left.
                sym (λ i. is_lt (ordering_then
                (nat_cmp (flag (uncharged_of last other left i)) (mark_is i))
                (ordering_then (by_bytes other.1.identity
                ((sym (ap (λ (k : Key). k.1.0) its_record.2)) i)) (by_bytes other.0 mark.1.1))))
                ∙ key_least other there left;
          }

      -- and is named in the row
      pub names_next : (name : List ℕ) → SaysUnchargedName row (Some name)
          → NamesUncharged last tables name
      names_next name says =
          subst (NamesUncharged last tables) (same_blob mark.1.1 name (sym name_is ∙ says.1))
          (its_record.0, is_next says.0)

module _ (last : Option LateRecord) (tables : Tables) (name : List ℕ)
    (next : NamesUncharged last tables name) where
  -- the record of the name is the next one
  pub uncharged_some : (stored : StoredRecord) → FindsRecord name tables (Some stored)
      → FindsUnchargedLeft last tables (Some stored)
  uncharged_some stored found =
      subst (IsNextUncharged last tables)
      (sym (some_is (stored_entry stored) (name, next.0)
      (found ∙ ap (option_map (λ (row : RecordRow). (name, row))) next.1.there))) next.1

-- a look at the marks that has found one and read its name
pub uncharged_looked : {S : Type 0} (ghosts : Ghosts S) (old new : S) (last : Option LateRecord)
    (key row : Row) (name : List ℕ) → Quiet ghosts old new
    → (IsClean (ghosts.view new) → IsUnchanged (ghosts.view old) (ghosts.view new))
    → key ≡ mark_start last
    → (IsClean (ghosts.view new)
    → IsFirst (from_key plain key ((ghosts.view old).trees 7)) row true)
    → SaysUnchargedName row (Some name)
    → Looks (Ok name) (state ghosts old) (state ghosts new) (NamesUncharged last)
uncharged_looked ghosts old new last key row name call same key_is found says =
    looks_found ghosts call same (λ clean tables holds.
    names_next last tables row holds.marks key_is (found clean) name says)
