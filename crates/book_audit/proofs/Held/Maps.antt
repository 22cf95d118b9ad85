-- Rows of entries that rise by their keys are those of a map. And those of a tree that finds the rows
-- of a table are those of its index, where each row is found there, and there are as many entries.
use Rattle.std.proofs.Common.{◌≡◌, ◌∙◌, ◌++◌, ◌∷◌, [], List, map, length, take, ap, ap₂, refl}
use Rattle.std.proofs.Common.{subst, sym, T, is_lt, Ordering, Less, Bool, true, false, Some, cond}
use Rattle.std.proofs.Common.{true≢false, ◌⊎◌, inl, inr, ◌&&◌, filter, is_eq, Equal, Greater}
use Rattle.std.specs.FinMap.Entries.{below_all}
use Rattle.sqlite_trees.specs.Tree.{IsAscending, from_key}
use Rattle.sqlite_trees.proofs.ListLemmas.{all_weaker, ascending-map, ascending_from_map}
use Rattle.sqlite_trees.proofs.ListLemmas.{ascending_weaker, map-map}
use Rattle.sqlite_value.specs.Order.{Row, row_cmp}
use Rattle.sqlite_value.specs.Keys.{plain, prefix_cmp}
use Rattle.book_model.proofs.Std.{entries, from_entries, is_sorted, FinMap, entries_sorted, get}
use Rattle.book_model.proofs.Std.{AllByRecursion, length-map, recursion_from_All}
use Rattle.book_model.proofs.Std.{length_permutation}
use Rattle.book_model.proofs.Lemmas.{entries-sorted}
use Rattle.tree_rows.specs.Layouts.{Layout, row_of, rows_of}
use Rattle.tree_rows.specs.Indexes.{IsIndexKey, IsKeyOf, index_of}
use Rattle.tree_rows.specs.Rows.{IsFirst}
use Rattle.tree_rows.proofs.IndexLists.{both, index_names_all, index_permutes}
use Rattle.tree_rows.proofs.Maps.{at_key, first, head_is, less, second}
use Rattle.book_audit.specs.Walks.{AreRising, key_in, key_width}
use Rattle.book_audit.specs.declared.finding.Tree.{Tree}
use Rattle.book_audit.specs.Trees.{HasKey}
use Rattle.book_audit.proofs.Held.Pigeonhole.{IsOneOf, all_of_them}

-- the first columns, as many as there are of one part
take_own : (a more : Row) → take (length a) (a ++ more) ≡ a
take_own [] more = refl
take_own (x ∷ a) more = ap (λ r. x ∷ r) (take_own a more)

-- entries whose keys rise are sorted
module _ {K V : Type 0} (R : K → K → Ordering) where
  all_below : (k : K) (es : List (K × V)) → AllByRecursion (λ (b : K × V). R k b.0 ≡ Less) es
      → T (below_all R k es)
  all_below k [] below = tt
  all_below k (e ∷ es) below =
      both (is_lt (R k e.0)) (below_all R k es) (subst (λ o. T (is_lt o)) (sym below.0) tt)
      (all_below k es below.1)

  pub sorted : (es : List (K × V)) → IsAscending (λ (a : K × V) (b : K × V). R a.0 b.0 ≡ Less) es
      → T (is_sorted R es)
  sorted [] up = tt
  sorted (e ∷ es) up =
      both (below_all R e.0 es) (is_sorted R es) (all_below e.0 es up.0) (sorted es up.1)

module _ {K V : Type 0} {R : K → K → Ordering} (layout : Layout K V R) where
  module _ (tree : Tree) (wide : (k : K) → length (layout.key k) ≡ key_width tree) where
    -- the key of an entry's row
    own_key : (e : K × V) → key_in tree (row_of layout e) ≡ layout.key e.0
    own_key e =
        ap (λ n. take n (row_of layout e)) (sym (wide e.0))
        ∙ take_own (layout.key e.0) (layout.rest e.0 e.1)

    -- where the keys of rows rise, those of the entries do
    pub keys_rise : (es : List (K × V)) → AreRising tree (map (row_of layout) es)
        → IsAscending (λ (a : K × V) (b : K × V). R a.0 b.0 ≡ Less) es
    keys_rise es rising =
        ascending_weaker
        (λ (a : K × V) (b : K × V). row_cmp (key_in tree (row_of layout a)) (key_in tree (row_of layout b)) ≡ Less)
        (λ (a : K × V) (b : K × V). R a.0 b.0 ≡ Less)
        (λ a b less. sym (layout.ordered a.0 b.0) ∙ sym (ap₂ row_cmp (own_key a) (own_key b)) ∙ less)
        es
        (ascending_from_map (λ (a : Row) (b : Row). row_cmp (key_in tree a) (key_in tree b) ≡ Less)
        (row_of layout) es rising)

    -- the entries are those of their map, in its order
    pub entries_kept : (es : List (K × V)) → AreRising tree (map (row_of layout) es)
        → entries (from_entries {R = R} es) ≡ es
    entries_kept es rising =
        entries-sorted layout.total layout.exact es (sorted R es (keys_rise es rising))

    -- and so are the rows
    pub rows_kept : (es : List (K × V)) {rows : List Row} → rows ≡ map (row_of layout) es
        → AreRising tree rows → rows ≡ rows_of layout (from_entries {R = R} es)
    rows_kept es are rising =
        are ∙ ap (map (row_of layout)) (sym (entries_kept es (subst (AreRising tree) are rising)))

-- a test that all pass leaves all
pub all_pass : {X : Type 0} (xs : List X) → filter (λ (x : X). true) xs ≡ xs
all_pass [] = refl
all_pass (x ∷ xs) = ap (λ more. x ∷ more) (all_pass xs)

-- the keys of sorted entries rise
entries_below : {Q V : Type 0} (P : Q → Q → Ordering) (q : Q) (es : List (Q × V))
    → T (below_all P q es) → AllByRecursion (λ (e : Q × V). P q e.0 ≡ Less) es
entries_below P q [] below = tt
entries_below P q (e ∷ es) below =
    (less (P q e.0) (first _ _ below), entries_below P q es (second _ _ below))

pub entries_rise : {Q V : Type 0} (P : Q → Q → Ordering) (es : List (Q × V)) → T (is_sorted P es)
    → IsAscending (λ (a : Q × V) (b : Q × V). P a.0 b.0 ≡ Less) es
entries_rise P [] rising = tt
entries_rise P (e ∷ es) rising =
    (entries_below P e.0 es (first _ _ rising), entries_rise P es (second _ _ rising))

-- an index has as many keys as its map
index_many : {K V Q : Type 0} {R : K → K → Ordering} {P : Q → Q → Ordering} {key : K × V → Q}
    {name : Q → K} (index : IsIndexKey R P key name) (m : FinMap R V)
    → length (map (λ (e : Q × Unit {0}). e.0) (entries (index_of {P = P} key m))) ≡ length (entries m)
index_many {K = K} {V = V} {Q = Q} {P = P} {key = key} index m =
    let keys : List Q = map (λ (e : Q × Unit {0}). e.0) (entries (index_of {P = P} key m)) in
    ap length (sym (all_pass keys))
    ∙ sym (length_permutation (filter (λ (q : Q). true) keys)
    (map key (filter (λ (e : K × V). true) (entries m)))
    (index_permutes index (λ (q : Q). true) m))
    ∙ length-map (filter (λ (e : K × V). true) (entries m)) key ∙ ap length (all_pass (entries m))

module _ {Q : Type 0} {P : Q → Q → Ordering} (layout : Layout Q (Unit {0}) P) where
  -- the rows of keys
  abbrev pub rows_at : List Q → List Row
  rows_at qs = map (λ (q : Q). row_of layout (q, tt)) qs

  -- the rows of entries are those of their keys
  pub rows_again : (es : List (Q × Unit {0}))
      → map (row_of layout) es ≡ rows_at (map (λ (e : Q × Unit {0}). e.0) es)
  rows_again es =
      sym (map-map (λ (q : Q). row_of layout (q, tt)) (λ (e : Q × Unit {0}). e.0) es)

  -- the row that has a key is that of the key
  found_one : (qs : List Q) (x : Q) (row : Row) (more : List Row)
      → from_key plain (layout.key x) (rows_at qs) ≡ row ∷ more
      → is_eq (prefix_cmp plain row (layout.key x)) ≡ true → IsOneOf x qs
  found_one [] x row more begins is = absurd (let e = begins in cc)
  found_one (q ∷ qs) x row more begins is =
      let own : Row = row_of layout (q, tt) in
      elim (prefix_cmp plain own (layout.key x)) as (λ o. prefix_cmp plain own (layout.key x) ≡ o
      → cond (is_lt o) (from_key plain (layout.key x) (rows_at qs)) (own ∷ rows_at qs) ≡ row ∷ more
      → (x ≡ q) ⊎ IsOneOf x qs) [
        | Less ↦ λ at later. inr (found_one qs x row more later is)
        | Equal ↦ λ at it. inl (sym (layout.exact q x (sym (at_key layout (q, tt) x) ∙ at)))
        | Greater ↦ λ at it.
            let wrong : false ≡ true = sym (ap is_eq at)
            ∙ ap (λ (r : Row). is_eq (prefix_cmp plain r (layout.key x))) (head_is own row (rows_at qs) more it)
            ∙ is in
            absurd (true≢false (sym wrong))
      ] refl begins

  -- a look-up that finds a key finds it among those of the rows
  has_one : (qs : List Q) (x : Q) → HasKey (layout.key x) (rows_at qs) → IsOneOf x qs
  has_one qs x has = by_first has.finds.there has.finds.first has.finds.is
    where
      by_first : (there : Bool) → IsFirst (from_key plain (layout.key x) (rows_at qs)) has.row there
          → true ≡ (there && is_eq (prefix_cmp plain has.row (layout.key x))) → IsOneOf x qs
      by_first true begins is = found_one qs x has.row begins.0 begins.1 (sym is)
      by_first false begins is = absurd (true≢false is)

  -- where the keys of rows rise, these do
  keys_up : (tree : Tree) → ((q : Q) → length (layout.key q) ≡ key_width tree) → (qs : List Q)
      → AreRising tree (rows_at qs) → IsAscending (λ (a : Q) (b : Q). P a b ≡ Less) qs
  keys_up tree wide qs rising =
      ascending_from_map (λ (a : Q × Unit {0}) (b : Q × Unit {0}). P a.0 b.0 ≡ Less)
      (λ (q : Q). (q, tt)) qs
      (keys_rise layout tree wide (map (λ (q : Q). (q, tt)) qs)
      (subst (AreRising tree) (sym (map-map (row_of layout) (λ (q : Q). (q, tt)) qs)) rising))

  module _ {K V : Type 0} {R : K → K → Ordering} {key : K × V → Q} {name : Q → K}
      (index : IsIndexKey R P key name) (m : FinMap R V) (tree : Tree)
      (wide : (q : Q) → length (layout.key q) ≡ key_width tree) (qs : List Q) {rows : List Row}
      (are : rows ≡ rows_at qs) (rising : AreRising tree rows)
      (each : (k : K) (v : V) → get m k ≡ Some v → HasKey (layout.key (key (k, v))) rows)
      (long : length rows ≡ length (entries m)) where
    abbrev own_entries : List (Q × Unit {0})
    own_entries = entries (index_of {P = P} key m)

    abbrev own_keys : List Q
    own_keys = map (λ (e : Q × Unit {0}). e.0) own_entries

    -- each entry of the index is one of the tree
    each_one : AllByRecursion (λ (q : Q). IsOneOf q qs) own_keys
    each_one =
        all_weaker (IsKeyOf key name m) (λ (q : Q). IsOneOf q qs)
        (λ q is. subst (λ (x : Q). IsOneOf x qs) is.2
        (has_one qs (key (name q, is.0)) (subst (HasKey (layout.key (key (name q, is.0)))) are
        (each (name q) is.0 is.1)))) own_keys
        (recursion_from_All (IsKeyOf key name m) own_keys (index_names_all index m))

    -- there are as many
    as_many : length own_keys ≡ length qs
    as_many =
        index_many index m ∙ sym long ∙ ap length are
        ∙ length-map qs (λ (q : Q). row_of layout (q, tt))

    -- so the rows of the tree are those of the index
    pub index_rows : rows ≡ rows_of layout (index_of {P = P} key m)
    index_rows =
        let up = ascending-map (λ (a : Q) (b : Q). P a b ≡ Less) (λ (e : Q × Unit {0}). e.0)
        own_entries (entries_rise P own_entries (entries_sorted (index_of {P = P} key m))) in
        are ∙ sym (rows_again own_entries ∙ ap rows_at (all_of_them layout.total qs own_keys up
        (keys_up tree wide qs (subst (AreRising tree) are rising)) each_one as_many))
