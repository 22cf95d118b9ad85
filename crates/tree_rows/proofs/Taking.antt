-- What becomes of the rows of a map where the row of a key is taken, or gets another value or key.
use Rattle.std.proofs.Common.{◌≡◌, List, [], ◌∷◌, map, Bool, true, false, not, cond}
use Rattle.std.proofs.Common.{Option, Some, None, refl, sym, ap, ap₂, subst, ◌∙◌, true≢false}
use Rattle.std.specs.Prelude.{filter, T}
use Rattle.std.specs.Cmp.{tied_itself}
use Rattle.std.specs.FinMap.{FinMap, get, insert, remove, entries, entries_sorted}
use Rattle.std.specs.FinMap.{get-entries, get-insert, get-remove, same_map, find, is_sorted}
use Rattle.std.specs.FinMap.Entries.{below_all, same_entries, is_sorted-where_key}
use Rattle.std.specs.FinMap.Entries.{find-where_key}
use Rattle.std.proofs.lemmas.Cmp.{eq_by_cmp_equiv, alike_right}
use Rattle.std.specs.Ordering.{is_eq, eq_by_cmp, ordering_then}
use Rattle.std.specs.declared.cmp.Ordering.{Ordering}
use Rattle.std.specs.declared.cmp.Ordering.TheVariants.{Less, Equal, Greater}
use Rattle.sqlite_trees.specs.Tree.{insert_entry, remove_entry}
use Rattle.sqlite_value.proofs.KeyLemmas.{entry_cmp_total}
use Rattle.sqlite_value.specs.Keys.{plain, entry_cmp}
use Rattle.tree_rows.specs.Layouts.{Layout, row_of, rows_of}
use Rattle.tree_rows.proofs.Maps.{at_row, turned, inserted, not_none, first, second, less}

-- one answer has one value
pub some_is : {A : Type 0} (x y : A) → Some x ≡ Some y → x ≡ y
some_is x y e = cc

flipped : {A : Type 0} (b : Bool) (x y : A) → cond (not b) x y ≡ cond b y x
flipped true x y = refl
flipped false x y = refl

twice : {A : Type 0} (b : Bool) (x y z : A) → cond b x (cond b y z) ≡ cond b x z
twice true x y z = refl
twice false x y z = refl

-- what is under a free key and is not kept is nothing
none_twice : {A : Type 0} (b : Bool) (found : Option A) → found ≡ None → cond b None found ≡ None
none_twice true found is = refl
none_twice false found is = is

-- a key is not found after itself
pub find_above : {K V : Type 0} (R : K → K → Ordering) (k : K) (es : List (K × V))
    → T (below_all R k es) → find R k es ≡ None
find_above R k [] below = refl
find_above R k (e ∷ es) below =
    ap (λ o. cond (is_eq o) (Some e.1) (find R k es)) (less (R k e.0) (first _ _ below))
    ∙ find_above R k es (second _ _ below)

module _ {K V : Type 0} {R : K → K → Ordering} (layout : Layout K V R) where
  -- the test by which a tree takes a row, on the row of an entry
  stays : K → V → K × V → Bool
  stays k v e = not (is_eq (entry_cmp plain (row_of layout e) (row_of layout (k, v))))

  -- the test by which a map takes a key
  abbrev other_key : K → K × V → Bool
  other_key k e = not (eq_by_cmp R k e.0)

  -- the row of another key stays
  stays_apart : (k : K) (v : V) (e : K × V) (o : Ordering) → R k e.0 ≡ o → is_eq o ≡ false
      → stays k v e ≡ true
  unfolding stays
  stays_apart k v e Less is apart =
      ap (λ o. not (is_eq o)) (at_row layout e k v
      ∙ ap (λ o. ordering_then o (entry_cmp plain (layout.rest e.0 e.1) (layout.rest k v)))
      (turned layout k e Less is))
  stays_apart k v e Equal is apart = absurd (true≢false apart)
  stays_apart k v e Greater is apart =
      ap (λ o. not (is_eq o)) (at_row layout e k v
      ∙ ap (λ o. ordering_then o (entry_cmp plain (layout.rest e.0 e.1) (layout.rest k v)))
      (turned layout k e Greater is))

  -- the very row is taken
  goes : (k : K) (v : V) → stays k v (k, v) ≡ false
  unfolding stays
  goes k v =
      ap (λ o. not (is_eq o)) (tied_itself (entry_cmp_total plain) (row_of layout (k, v)))

  abbrev Takes : K → V → List (K × V) → Type 0
  Takes k v es =
      remove_entry plain (row_of layout (k, v)) (map (row_of layout) es)
      ≡ map (row_of layout) (filter (other_key k) es)

  -- a first entry that stays, or that goes
  takes_first : (b : Bool) (k : K) (v : V) (e : K × V) (es : List (K × V)) → stays k v e ≡ b
      → other_key k e ≡ b → Takes k v es → Takes k v (e ∷ es)
  unfolding stays
  takes_first b k v e es row key later =
      ap (λ b. cond b (row_of layout e ∷ remove_entry plain (row_of layout (k, v))
      (map (row_of layout) es)) (remove_entry plain (row_of layout (k, v))
      (map (row_of layout) es))) row
      ∙ by b
      ∙ sym (ap (λ b. map (row_of layout) (cond b (e ∷ filter (other_key k) es)
      (filter (other_key k) es))) key)
    where
      by : (b : Bool)
          → cond b (row_of layout e ∷ remove_entry plain (row_of layout (k, v))
          (map (row_of layout) es)) (remove_entry plain (row_of layout (k, v))
          (map (row_of layout) es))
          ≡ map (row_of layout) (cond b (e ∷ filter (other_key k) es) (filter (other_key k) es))
      by true = ap (λ rows. row_of layout e ∷ rows) later
      by false = later

  -- where no entry has the key, all stay
  takes_none : (k : K) (v : V) (es : List (K × V)) → find R k es ≡ None → Takes k v es
  takes_none k v [] none = refl
  takes_none k v (e ∷ es) none =
      elim (R k e.0) as (λ o. R k e.0 ≡ o → Takes k v (e ∷ es)) [
        | Less ↦ λ is. takes_first true k v e es (stays_apart k v e Less is refl)
            (ap (λ o. not (is_eq o)) is) (takes_none k v es (beyond Less is refl))
        | Equal ↦ λ is. absurd (not_none e.1
            (sym (ap (λ o. cond (is_eq o) (Some e.1) (find R k es)) is) ∙ none))
        | Greater ↦ λ is. takes_first true k v e es (stays_apart k v e Greater is refl)
            (ap (λ o. not (is_eq o)) is) (takes_none k v es (beyond Greater is refl))
      ] refl
    where
      beyond : (o : Ordering) → R k e.0 ≡ o → is_eq o ≡ false → find R k es ≡ None
      beyond o is apart =
          sym (ap (λ b. cond b (Some e.1) (find R k es)) (ap is_eq is ∙ apart)) ∙ none

  takes_one : (k : K) (v : V) (es : List (K × V)) → T (is_sorted R es) → find R k es ≡ Some v
      → Takes k v es
  takes_one k v [] sorted some = refl
  takes_one k v (e ∷ es) sorted some =
      elim (R k e.0) as (λ o. R k e.0 ≡ o → Takes k v (e ∷ es)) [
        | Less ↦ λ is. takes_first true k v e es (stays_apart k v e Less is refl)
            (ap (λ o. not (is_eq o)) is) (takes_one k v es (second _ _ sorted)
            (beyond Less is refl))
        | Equal ↦ λ is. here is
        | Greater ↦ λ is. takes_first true k v e es (stays_apart k v e Greater is refl)
            (ap (λ o. not (is_eq o)) is) (takes_one k v es (second _ _ sorted)
            (beyond Greater is refl))
      ] refl
    where
      beyond : (o : Ordering) → R k e.0 ≡ o → is_eq o ≡ false → find R k es ≡ Some v
      beyond o is apart =
          sym (ap (λ b. cond b (Some e.1) (find R k es)) (ap is_eq is ∙ apart)) ∙ some

      here : R k e.0 ≡ Equal → Takes k v (e ∷ es)
      here is =
          let same : e.0 ≡ k = sym (layout.exact k e.0 is) in
          let value : e.1 ≡ v = some_is e.1 v
          (sym (ap (λ o. cond (is_eq o) (Some e.1) (find R k es)) is) ∙ some) in
          let row : stays k v e ≡ false =
          ap₂ (λ x u. stays x u e) (sym same) (sym value) ∙ goes e.0 e.1 in
          let none : find R k es ≡ None =
          find_above R k es (subst (λ x. T (below_all R x es)) same (first _ _ sorted)) in
          takes_first false k v e es row (ap (λ o. not (is_eq o)) is) (takes_none k v es none)

  -- the entries of a map without a key
  entries_removed : (m : FinMap R V) (k : K)
      → entries (remove m k) ≡ filter (other_key k) (entries m)
  entries_removed m k =
      let others : K → Bool = λ x. not (eq_by_cmp R k x) in
      same_entries R layout.total layout.exact (entries (remove m k))
      (filter (other_key k) (entries m)) (entries_sorted (remove m k))
      (is_sorted-where_key R others (entries m) (entries_sorted m))
      (λ q. sym (get-entries (remove m k) q) ∙ get-remove layout.total m k q
      ∙ ap (cond (eq_by_cmp R q k) None) (get-entries m q)
      ∙ sym (find-where_key R others q
      (λ x t. ap (λ r. not (is_eq r)) (sym (alike_right layout.total q x k t))) (entries m)
      ∙ flipped (eq_by_cmp R k q) _ _
      ∙ ap (λ b. cond b None (find R q (entries m)))
      ((eq_by_cmp_equiv layout.total).symm k q)))

  -- the rows of a map without the row of a key are those of the map without the key
  pub removed : (m : FinMap R V) (k : K) (v : V) → get m k ≡ Some v
      → remove_entry plain (row_of layout (k, v)) (rows_of layout m) ≡ rows_of layout (remove m k)
  removed m k v some =
      takes_one k v (entries m) (entries_sorted m) (sym (get-entries m k) ∙ some)
      ∙ ap (map (row_of layout)) (sym (entries_removed m k))

  -- the row of a key is taken, and another is put in its place: the key has another value
  pub changed : (m : FinMap R V) (k : K) (v w : V) → get m k ≡ Some v
      → insert_entry plain (row_of layout (k, w))
      (remove_entry plain (row_of layout (k, v)) (rows_of layout m))
      ≡ rows_of layout (insert m k w)
  changed m k v w some =
      ap (insert_entry plain (row_of layout (k, w))) (removed m k v some)
      ∙ inserted layout (remove m k) k w gone ∙ ap (rows_of layout) same
    where
      gone : get (remove m k) k ≡ None
      gone =
          get-remove layout.total m k k
          ∙ ap (λ o. cond (is_eq o) None (get m k)) (tied_itself layout.total k)

      same : insert (remove m k) k w ≡ insert m k w
      same = same_map layout.total layout.exact (insert (remove m k) k w) (insert m k w) (λ q.
          get-insert layout.total (remove m k) k w q
          ∙ ap (cond (eq_by_cmp R q k) (Some w)) (get-remove layout.total m k q)
          ∙ twice (eq_by_cmp R q k) (Some w) None (get m q)
          ∙ sym (get-insert layout.total m k w q))

  -- the row of a key is taken, and put under a new one
  pub row_moved : (m : FinMap R V) (k l : K) (v : V) → get m k ≡ Some v → get m l ≡ None
      → insert_entry plain (row_of layout (l, v))
      (remove_entry plain (row_of layout (k, v)) (rows_of layout m))
      ≡ rows_of layout (insert (remove m k) l v)
  row_moved m k l v there free =
      ap (insert_entry plain (row_of layout (l, v))) (removed m k v there)
      ∙ inserted layout (remove m k) l v gone
    where
      gone : get (remove m k) l ≡ None
      gone =
          get-remove layout.total m k l ∙ none_twice (eq_by_cmp R l k) (get m l) free
