-- The rows of a map that begin with a part of a key are those of the entries with keys that do.
use Rattle.std.proofs.Common.{◌≡◌, ℕ, List, [], ◌∷◌, ◌++◌, map, Bool, true, false, cond, pos, ◌==◌}
use Rattle.std.proofs.Common.{◌&&◌, Some, length, refl, reverse, sym, ap, subst, ◌∙◌}
use Rattle.std.proofs.Common.{append_assoc, arith}
use Rattle.std.specs.Prelude.{filter, take_while, T}
use Rattle.std.specs.Cmp.{IsTotalOrder, unsigned_tied}
use Rattle.std.specs.Cmp.Lexicographic.{slice_cmp}
use Rattle.std.proofs.lemmas.Bool.Decides.{nat_tests}
use Rattle.std.proofs.lemmas.Cmp.{nat_cmp_total, nat_list_cmp_total}
use Rattle.std.proofs.lemmas.List.Elements.{filter_agree}
use Rattle.std.proofs.lemmas.List.Sums.{take_while-cons}
use Rattle.std.proofs.lemmas.Option.{same_Some}
use Rattle.std.specs.FinMap.{FinMap, entries, entries_sorted, is_sorted}
use Rattle.std.specs.FinMap.Entries.{below_all}
use Rattle.std.specs.Ordering.{is_lt, is_eq, nat_cmp, int_cmp, ordering_then, ordering_reverse}
use Rattle.std.specs.declared.cmp.Ordering.{Ordering}
use Rattle.std.specs.declared.cmp.Ordering.TheVariants.{Less, Equal, Greater}
use Rattle.sqlite_trees.specs.Tree.{from_key, order_of, sought, up_to_key}
use Rattle.sqlite_trees.specs.View.{Advances, View, with_cursor}
use Rattle.sqlite_trees.specs.declared.store.Direction.TheVariants.{Backward, Forward}
use Rattle.sqlite_trees.specs.declared.store.Shape.{Shape}
use Rattle.sqlite_trees.specs.declared.store.Shape.TheVariants.{Index}
use Rattle.sqlite_value.proofs.OrderLemmas.{value_cmp-Blob, value_cmp-Int, then-Equal}
use Rattle.sqlite_value.specs.declared.value.Value.{Value}
use Rattle.sqlite_value.specs.declared.value.Value.TheVariants.{Int, Blob}
use Rattle.sqlite_value.specs.Keys.{plain, prefix_cmp, first_key}
use Rattle.sqlite_value.specs.Order.{Row, row_cmp, value_cmp}
use Rattle.tree_rows.specs.Layouts.{Layout, row_of, rows_of}
use Rattle.tree_rows.specs.Rows.{Finds, IsFirst}
use Rattle.tree_rows.specs.Runs.{has_part, run_of}
use Rattle.tree_rows.proofs.Maps.{first, second, less, prefix_of}

-- each row is not below the key of no columns
pub from_no_part : (rows : List Row) → from_key plain [] rows ≡ rows
from_no_part [] = refl
from_no_part (row ∷ rows) = refl

-- each row begins with no columns
all_begin : (rows : List Row) → take_while (has_part []) rows ≡ rows
all_begin [] = refl
all_begin (row ∷ rows) =
    take_while-cons (has_part []) row rows ∙ ap (λ more. row ∷ more) (all_begin rows)

-- and not above it
up_to_no_part : (rows : List Row) → up_to_key plain [] rows ≡ rows
up_to_no_part [] = refl
up_to_no_part (row ∷ rows) = ap (λ more. row ∷ more) (up_to_no_part rows)

-- so a cursor that is placed at it has all rows left
pub all_sought : (old new : View) (cursor tree : ℕ) (key : Row) → key ≡ []
    → old.shape tree ≡ Index plain
    → new ≡ with_cursor old cursor (sought (order_of (old.shape tree)) Forward key (old.trees tree))
    → new.cursors cursor ≡ Some (old.trees tree)
all_sought old new cursor tree key whole shape placed =
    ap (λ (v : View). v.cursors cursor) placed
    ∙ ap (λ b. cond b (Some left) (old.cursors cursor)) (same cursor)
    ∙ ap (λ (s : Shape). Some (sought (order_of s) Forward key (old.trees tree))) shape
    ∙ ap (λ part. Some (from_key plain part (old.trees tree))) whole
    ∙ ap Some (from_no_part (old.trees tree))
  where
    left : List Row
    left = sought (order_of (old.shape tree)) Forward key (old.trees tree)

    same : (n : ℕ) → (n == n) ≡ true
    same n = grind (arith, nat_tests)

-- and a walk back from it begins with the last row of all
pub last_sought : (old mid new : View) (cursor tree : ℕ) (key row : Row) (there : Bool) → key ≡ []
    → old.shape tree ≡ Index plain
    → mid ≡ with_cursor old cursor (sought (order_of (old.shape tree)) Backward key
    (old.trees tree))
    → Advances mid new cursor row there → IsFirst (reverse (old.trees tree)) row there
last_sought old mid new cursor tree key row there whole shape placed it =
    by there (ap (λ (v : View). v.cursors cursor) placed ∙ given (cursor == cursor) (same cursor)
    ∙ ap (λ (s : Shape). Some (sought (order_of s) Backward key (old.trees tree))) shape
    ∙ ap (λ part. Some (reverse (up_to_key plain part (old.trees tree)))) whole
    ∙ ap (λ rows. Some (reverse rows)) (up_to_no_part (old.trees tree))) it
  where
    left : List Row
    left = sought (order_of (old.shape tree)) Backward key (old.trees tree)

    same : (n : ℕ) → (n == n) ≡ true
    same n = grind (arith, nat_tests)

    given : (b : Bool) → b ≡ true → cond b (Some left) (old.cursors cursor) ≡ Some left
    given b is = ap (λ b. cond b (Some left) (old.cursors cursor)) is

    by : (there : Bool) → mid.cursors cursor ≡ Some (reverse (old.trees tree))
        → Advances mid new cursor row there → IsFirst (reverse (old.trees tree)) row there
    by true stands it = (it.0, same_Some _ _ (sym stands ∙ it.1))
    by false stands it = same_Some _ _ (sym stands ∙ it.0)

-- the rows that begin with no columns are all rows
pub run_whole : (rows : List Row) → run_of [] rows ≡ rows
run_whole rows = ap (take_while (has_part [])) (from_no_part rows) ∙ all_begin rows

module _ {K V : Type 0} {R : K → K → Ordering} (layout : Layout K V R) where
  module _ (part : Row) (rank : K → Ordering)
      (at : (e : K × V) → prefix_cmp plain (row_of layout e) part ≡ rank e.0)
      (falls : (k l : K) → R k l ≡ Less → rank l ≡ Less → rank k ≡ Less)
      (rises : (k l : K) → R k l ≡ Less → rank k ≡ Greater → rank l ≡ Greater) where
    -- the entry's key begins with the part
    abbrev begins : K × V → Bool
    begins e = is_eq (rank e.0)

    -- the entries that do, where the first one is known
    kept : (e : K × V) (es : List (K × V)) (o : Ordering) → rank e.0 ≡ o
        → filter begins (e ∷ es) ≡ cond (is_eq o) (e ∷ filter begins es) (filter begins es)
    kept e es o is =
        ap (λ b. cond b (e ∷ filter begins es) (filter begins es)) (ap is_eq is)

    -- the rows that do, one after the other, where the first one is known
    taken : (e : K × V) (es : List (K × V)) (o : Ordering) → rank e.0 ≡ o
        → take_while (has_part part) (map (row_of layout) (e ∷ es))
        ≡ cond (is_eq o)
        (row_of layout e ∷ take_while (has_part part) (map (row_of layout) es)) []
    taken e es o is =
        take_while-cons (has_part part) (row_of layout e) (map (row_of layout) es)
        ∙ ap (λ b. cond b
        (row_of layout e ∷ take_while (has_part part) (map (row_of layout) es)) [])
        (ap is_eq (at e ∙ is))

    -- after a key that is above the part, none begins so
    none_behind : (k : K) (es : List (K × V)) → rank k ≡ Greater → T (below_all R k es)
        → filter begins es ≡ []
    none_behind k [] is below = refl
    none_behind k (e ∷ es) is below =
        kept e es Greater (rises k e.0 (less (R k e.0) (first _ _ below)) is)
        ∙ none_behind k es is (second _ _ below)

    -- after a key that is not below the part, those that begin so come first
    front : (k : K) (es : List (K × V)) → (rank k ≡ Less → ⊥) → T (below_all R k es)
        → T (is_sorted R es)
        → take_while (has_part part) (map (row_of layout) es)
        ≡ map (row_of layout) (filter begins es)
    front k [] from below sorted = refl
    front k (e ∷ es) from below sorted =
        elim (rank e.0) as (λ o. rank e.0 ≡ o
        → take_while (has_part part) (map (row_of layout) (e ∷ es))
        ≡ map (row_of layout) (filter begins (e ∷ es))) [
          | Less ↦ λ is. absurd (from (falls k e.0 (less (R k e.0) (first _ _ below)) is))
          | Equal ↦ λ is. taken e es Equal is
              ∙ ap (λ more. row_of layout e ∷ more) (front k es from (second _ _ below)
              (second _ _ sorted))
              ∙ sym (ap (map (row_of layout)) (kept e es Equal is))
          | Greater ↦ λ is. taken e es Greater is
              ∙ sym (ap (map (row_of layout)) (kept e es Greater is
              ∙ none_behind e.0 es is (first _ _ sorted)))
        ] refl

    -- the rows from the first of entries
    from_first : (e : K × V) (es : List (K × V)) (o : Ordering) → rank e.0 ≡ o
        → run_of part (map (row_of layout) (e ∷ es))
        ≡ cond (is_lt o) (run_of part (map (row_of layout) es))
        (take_while (has_part part) (map (row_of layout) (e ∷ es)))
    from_first e es o is =
        ap (λ b. take_while (has_part part) (cond b
        (from_key plain part (map (row_of layout) es)) (map (row_of layout) (e ∷ es))))
        (ap is_lt (at e ∙ is)) ∙ by (is_lt o)
      where
        by : (b : Bool)
            → take_while (has_part part) (cond b
            (from_key plain part (map (row_of layout) es)) (map (row_of layout) (e ∷ es)))
            ≡ cond b (run_of part (map (row_of layout) es))
            (take_while (has_part part) (map (row_of layout) (e ∷ es)))
        by true = refl
        by false = refl

    runs : (es : List (K × V)) → T (is_sorted R es)
        → run_of part (map (row_of layout) es) ≡ map (row_of layout) (filter begins es)
    runs [] sorted = refl
    runs (e ∷ es) sorted =
        elim (rank e.0) as (λ o. rank e.0 ≡ o
        → run_of part (map (row_of layout) (e ∷ es))
        ≡ map (row_of layout) (filter begins (e ∷ es))) [
          | Less ↦ λ is. from_first e es Less is
              ∙ runs es (second _ _ sorted)
              ∙ sym (ap (map (row_of layout)) (kept e es Less is))
          | Equal ↦ λ is. from_first e es Equal is
              ∙ taken e es Equal is
              ∙ ap (λ more. row_of layout e ∷ more) (front e.0 es (not_less e.0 is)
              (first _ _ sorted) (second _ _ sorted))
              ∙ sym (ap (map (row_of layout)) (kept e es Equal is))
          | Greater ↦ λ is. from_first e es Greater is
              ∙ taken e es Greater is
              ∙ sym (ap (map (row_of layout)) (kept e es Greater is
              ∙ none_behind e.0 es is (first _ _ sorted)))
        ] refl
      where
        not_less : (k : K) → rank k ≡ Equal → rank k ≡ Less → ⊥
        not_less k is below = absurd (cc)

    -- the rows of a map that begin with the part are those of the entries with keys that do
    pub run_is : (m : FinMap R V) → run_of part (rows_of layout m)
        ≡ map (row_of layout) (filter (λ (e : K × V). is_eq (rank e.0)) (entries m))
    run_is m = runs (entries m) (entries_sorted m)

module _ {A : Type 0} {C : A → A → Ordering} (total : IsTotalOrder C) where
  -- below one that is below
  falls_then : (a b c : A) (more : Ordering) → ordering_then (C a b) more ≡ Less → C b c ≡ Less
      → C a c ≡ Less
  falls_then a b c more below is =
      elim (C a b) as (λ o. C a b ≡ o → ordering_then o more ≡ Less → C a c ≡ Less) [
        | Less ↦ λ o below. total.trans a b c o is
        | Equal ↦ λ o below. total.congr a b c o ∙ is
        | Greater ↦ λ o below. absurd (cc)
      ] refl below

  -- above one that is above
  rises_then : (a b c : A) (more : Ordering) → ordering_then (C a b) more ≡ Less → C a c ≡ Greater
      → C b c ≡ Greater
  rises_then a b c more below is =
      let turned : C c a ≡ Less = total.antisymm c a ∙ ap ordering_reverse is in
      elim (C a b) as (λ o. C a b ≡ o → ordering_then o more ≡ Less → C b c ≡ Greater) [
        | Less ↦ λ o below. total.antisymm b c
            ∙ ap ordering_reverse (total.trans c a b turned o)
        | Equal ↦ λ o below. sym (total.congr a b c o) ∙ is
        | Greater ↦ λ o below. absurd (cc)
      ] refl below

-- Keys have a first part, by which they are compared first, and it is in their first column.
module _ {K V A : Type 0} {R : K → K → Ordering} {C : A → A → Ordering} (total : IsTotalOrder C)
    (layout : Layout K V R) (head : K → A) (value : A → Value) (rest : K → Row)
    (more : K → K → Ordering)
    (by_head : (k l : K) → R k l ≡ ordering_then (C (head k) (head l)) (more k l))
    (by_value : (a b : A) → value_cmp (value a) (value b) ≡ C a b)
    (is : (k : K) → layout.key k ≡ value (head k) ∷ rest k) where
  -- a row against a first column
  at_first : (a : A) (e : K × V)
      → prefix_cmp plain (row_of layout e) (value a ∷ []) ≡ C (head e.0) a
  unfolding first_key
  at_first a e =
      ap (λ (key : Row). prefix_cmp plain (key ++ layout.rest e.0 e.1) (value a ∷ [])) (is e.0)
      ∙ then-Equal (value_cmp (value (head e.0)) (value a)) ∙ by_value (head e.0) a

  -- the rows that begin with a first part are those of the entries with keys that have it
  pub run_by_first : (a : A) (m : FinMap R V) → run_of (value a ∷ []) (rows_of layout m)
      ≡ map (row_of layout) (filter (λ (e : K × V). is_eq (C (head e.0) a)) (entries m))
  run_by_first a = run_is layout (value a ∷ []) (λ k. C (head k) a) (at_first a)
      (λ k l below. falls_then total (head k) (head l) a (more k l) (sym (by_head k l) ∙ below))
      (λ k l below. rises_then total (head k) (head l) a (more k l) (sym (by_head k l) ∙ below))

-- Keys have a prefix, by which they are compared first, and it is in their first columns.
module _ {K V A : Type 0} {R : K → K → Ordering} {C : A → A → Ordering} (total : IsTotalOrder C)
    (layout : Layout K V R) (head : K → A) (front : A → Row) (rest : K → Row)
    (more : K → K → Ordering)
    (by_head : (k l : K) → R k l ≡ ordering_then (C (head k) (head l)) (more k l))
    (by_front : (a b : A) → row_cmp (front a) (front b) ≡ C a b)
    (alike : (a b : A) → length (front a) ≡ length (front b))
    (is : (k : K) → layout.key k ≡ front (head k) ++ rest k) where
  -- a row against first columns
  at_front : (a : A) (e : K × V)
      → prefix_cmp plain (row_of layout e) (front a) ≡ C (head e.0) a
  at_front a e =
      ap (λ (key : Row). prefix_cmp plain (key ++ layout.rest e.0 e.1) (front a)) (is e.0)
      ∙ ap (λ row. prefix_cmp plain row (front a))
      (append_assoc (front (head e.0)) (rest e.0) (layout.rest e.0 e.1))
      ∙ prefix_of (front (head e.0)) (rest e.0 ++ layout.rest e.0 e.1) (front a)
      (alike (head e.0) a)
      ∙ by_front (head e.0) a

  -- the rows that begin with a prefix are those of the entries with keys that have it
  pub run_by_front : (a : A) (m : FinMap R V) → run_of (front a) (rows_of layout m)
      ≡ map (row_of layout) (filter (λ (e : K × V). is_eq (C (head e.0) a)) (entries m))
  run_by_front a = run_is layout (front a) (λ k. C (head k) a) (at_front a)
      (λ k l below. falls_then total (head k) (head l) a (more k l) (sym (by_head k l) ∙ below))
      (λ k l below. rises_then total (head k) (head l) a (more k l) (sym (by_head k l) ∙ below))

-- a look-up of a key shows the first of the rows that begin with it, where one does
pub finds_run : (key row : Row) (rows : List Row) (hit : Bool) → Finds key rows row hit
    → IsFirst (run_of key rows) row hit
finds_run key row rows hit finds =
    by finds.there finds.first finds.is
  where
    begins : Bool
    begins = is_eq (prefix_cmp plain row key)

    taken_first : (b : Bool) (later : List Row)
        → IsFirst (cond b (row ∷ take_while (has_part key) later) []) row b
    taken_first true later = (take_while (has_part key) later, refl)
    taken_first false later = refl

    by : (there : Bool) → IsFirst (from_key plain key rows) row there → hit ≡ (there && begins)
        → IsFirst (run_of key rows) row hit
    by true first is =
        subst (IsFirst (run_of key rows) row) (sym is)
        (subst (λ run. IsFirst run row begins)
        (sym (ap (take_while (has_part key)) first.1
        ∙ take_while-cons (has_part key) row first.0)) (taken_first begins first.0))
    by false first is =
        subst (IsFirst (run_of key rows) row) (sym is) (ap (take_while (has_part key)) first)

-- numbers that are not negative compare in their columns as they do elsewhere
numbers_compare : (a b : ℕ) → value_cmp (Int (pos a)) (Int (pos b)) ≡ nat_cmp a b
numbers_compare a b = value_cmp-Int (pos a) (pos b) ∙ same
  where
    same : int_cmp (pos a) (pos b) ≡ nat_cmp a b
    same = grind (arith, nat_tests)

-- Of keys that are a number and more, the rows that begin with the number are those of the
-- entries with keys that have it.
pub run_numbered : {M V : Type 0} (S : M → M → Ordering)
    (layout : Layout (ℕ × M) V
    (λ one other. ordering_then (nat_cmp one.0 other.0) (S one.1 other.1)))
    (rest : M → Row)
    → ((n : ℕ) (more : M) → layout.key (n, more) ≡ Int (pos n) ∷ rest more)
    → (n : ℕ) (m : FinMap (λ (one other : ℕ × M).
    ordering_then (nat_cmp one.0 other.0) (S one.1 other.1)) V)
    → run_of (Int (pos n) ∷ []) (rows_of layout m)
    ≡ map (row_of layout) (filter (λ (e : (ℕ × M) × V). e.0.0 == n) (entries m))
run_numbered {M} {V} S layout rest is n m =
    run_by_first nat_cmp_total layout (λ key. key.0) (λ k. Int (pos k)) (λ key. rest key.1)
    (λ one other. S one.1 other.1) (λ k l. refl) numbers_compare (λ k. is k.0 k.1) n m
    ∙ ap (map (row_of layout)) (filter_agree (λ (e : (ℕ × M) × V). is_eq (nat_cmp e.0.0 n))
    (λ e. e.0.0 == n) (λ e. unsigned_tied e.0.0 n) (entries m))

-- Of keys that are a name and more, the rows that begin with the name are those of the entries
-- with keys that have it.
pub run_named : {M V : Type 0} (S : M → M → Ordering)
    (layout : Layout (List ℕ × M) V
    (λ one other. ordering_then (slice_cmp nat_cmp one.0 other.0) (S one.1 other.1)))
    (rest : M → Row)
    → ((name : List ℕ) (more : M) → layout.key (name, more) ≡ Blob name ∷ rest more)
    → (name : List ℕ) (m : FinMap (λ (one other : List ℕ × M).
    ordering_then (slice_cmp nat_cmp one.0 other.0) (S one.1 other.1)) V)
    → run_of (Blob name ∷ []) (rows_of layout m)
    ≡ map (row_of layout) (filter (λ (e : (List ℕ × M) × V).
    is_eq (slice_cmp nat_cmp e.0.0 name)) (entries m))
run_named S layout rest is =
    run_by_first nat_list_cmp_total layout (λ key. key.0) Blob (λ key. rest key.1)
    (λ one other. S one.1 other.1) (λ k l. refl) value_cmp-Blob (λ k. is k.0 k.1)
