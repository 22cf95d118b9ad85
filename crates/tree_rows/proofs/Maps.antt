-- What look-ups and edits of a sorted tree are to the map that it holds.
use Rattle.std.proofs.Common.{◌≡◌, List, [], ◌∷◌, ◌++◌, length, map, Bool, true, false}
use Rattle.std.proofs.Common.{cond, Some, None, refl, sym, ap, ap₂, subst, ◌∙◌}
use Rattle.std.proofs.Common.{arith, ◌&&◌}
use Rattle.std.specs.Prelude.{T}
use Rattle.std.specs.FinMap.Entries.{below_all}
use Rattle.std.specs.Cmp.{IsTotalOrder}
use Rattle.std.specs.FinMap.{FinMap, get, insert, entries, entries_sorted, entries-insert}
use Rattle.std.specs.FinMap.{get-entries, find, put, is_sorted}
use Rattle.std.specs.Ordering.{is_lt, is_eq, ordering_then, ordering_reverse}
use Rattle.std.specs.declared.cmp.Ordering.{Ordering}
use Rattle.std.specs.declared.cmp.Ordering.TheVariants.{Less, Equal, Greater}
use Rattle.sqlite_trees.specs.Tree.{from_key, insert_entry}
use Rattle.sqlite_value.specs.Keys.{plain, entry_cmp, prefix_cmp, first_key}
use Rattle.sqlite_value.specs.Order.{Row, row_cmp}
use Rattle.tree_rows.specs.Layouts.{Layout, row_of, rows_of, Answers}
use Rattle.tree_rows.specs.Rows.{IsFirst}

-- over a key of as many columns, a row compares by its first columns
pub prefix_of : (a more b : Row) → length a ≡ length b
    → prefix_cmp plain (a ++ more) b ≡ row_cmp a b
unfolding first_key
prefix_of [] more [] long = refl
prefix_of [] more (y ∷ b) long = absurd (omega (arith, long))
prefix_of (x ∷ a) more [] long = absurd (omega (arith, long))
prefix_of (x ∷ a) more (y ∷ b) long =
    ap (ordering_then _) (prefix_of a more b (omega (arith, long)))

-- of three comparisons, one after the other, it does not matter which two are taken together
pub then_assoc : (a b c : Ordering)
    → ordering_then a (ordering_then b c) ≡ ordering_then (ordering_then a b) c
then_assoc Less b c = refl
then_assoc Equal b c = refl
then_assoc Greater b c = refl

-- two rows with keys of as many columns compare by their keys first
pub entry_of : (a p b q : Row) → length a ≡ length b
    → entry_cmp plain (a ++ p) (b ++ q) ≡ ordering_then (row_cmp a b) (entry_cmp plain p q)
unfolding first_key
entry_of [] p [] q long = refl
entry_of [] p (y ∷ b) q long = absurd (omega (arith, long))
entry_of (x ∷ a) p [] q long = absurd (omega (arith, long))
entry_of (x ∷ a) p (y ∷ b) q long =
    ap (ordering_then _) (entry_of a p b q (omega (arith, long)))
    ∙ then_assoc _ (row_cmp a b) (entry_cmp plain p q)

pub not_none : {A : Type 0} (x : A) → Some x ≡ None → ⊥
not_none x e = absurd (cc)

-- both of two tests that are passed together
pub first : (a b : Bool) → T (a && b) → T a
first true b p = tt
first false b p = p

pub second : (a b : Bool) → T (a && b) → T b
second true b p = p
second false b p = absurd p

pub less : (o : Ordering) → T (is_lt o) → o ≡ Less
less Less p = refl
less Equal p = absurd p
less Greater p = absurd p

-- a key below each key of a list is not found in it
pub find_below : {K V : Type 0} (R : K → K → Ordering) → IsTotalOrder R
    → (k x : K) (es : List (K × V)) → R k x ≡ Less → T (below_all R x es) → find R k es ≡ None
find_below R o k x [] is below = refl
find_below R o k x (e ∷ es) is below =
    ap (λ r. cond (is_eq r) (Some e.1) (find R k es)) (o.trans k x e.0 is (less _
    (first _ _ below))) ∙ find_below R o k x es is (second _ _ below)

-- a list with a head is not empty
pub none_there : {A : Type 0} (x : A) (xs : List A) → x ∷ xs ≡ [] → ⊥
none_there x xs e = absurd (cc)

-- one list has one head
pub head_is : (x y : Row) (xs ys : List Row) → x ∷ xs ≡ y ∷ ys → x ≡ y
head_is x y xs ys e = cc

-- what is read at the head of rows that are there
pub begins_with : (x : Row) (xs : List Row) (row : Row) (there : Bool) → IsFirst (x ∷ xs) row there
    → (there ≡ true) × (row ≡ x)
begins_with x xs row true first = (refl, sym (head_is x row xs first.0 first.1))
begins_with x xs row false first = absurd (none_there x xs first)

module _ {K V : Type 0} {R : K → K → Ordering} (layout : Layout K V R) where
  -- a row against a key
  pub at_key : (e : K × V) (k : K) → prefix_cmp plain (row_of layout e) (layout.key k) ≡ R e.0 k
  at_key e k = prefix_of (layout.key e.0) (layout.rest e.0 e.1) (layout.key k) (layout.alike e.0 k)
      ∙ layout.ordered e.0 k

  -- a row against another
  pub at_row : (e : K × V) (k : K) (v : V)
      → entry_cmp plain (row_of layout e) (row_of layout (k, v))
      ≡ ordering_then (R e.0 k) (entry_cmp plain (layout.rest e.0 e.1) (layout.rest k v))
  at_row e k v =
      entry_of (layout.key e.0) (layout.rest e.0 e.1) (layout.key k) (layout.rest k v)
      (layout.alike e.0 k)
      ∙ ap (λ o. ordering_then o (entry_cmp plain (layout.rest e.0 e.1) (layout.rest k v)))
      (layout.ordered e.0 k)

  -- the key asked the other way round
  pub turned : (k : K) (e : K × V) (o : Ordering) → R k e.0 ≡ o → R e.0 k ≡ ordering_reverse o
  turned k e o is = layout.total.antisymm e.0 k ∙ ap ordering_reverse is

  -- a row with a new key goes where the map puts its entry
  insert_new : (k : K) (v : V) (es : List (K × V)) → find R k es ≡ None
      → insert_entry plain (row_of layout (k, v)) (map (row_of layout) es)
      ≡ map (row_of layout) (put R k v es)
  insert_new k v [] none = refl
  insert_new k v (e ∷ es) none =
      elim (R k e.0) as (λ o. R k e.0 ≡ o
      → insert_entry plain (row_of layout (k, v)) (map (row_of layout) (e ∷ es))
      ≡ map (row_of layout) (put R k v (e ∷ es))) [
        | Less ↦ λ is.
            let row : entry_cmp plain (row_of layout e) (row_of layout (k, v)) ≡ Greater =
            at_row e k v ∙ ap (λ o. ordering_then o (entry_cmp plain (layout.rest e.0 e.1)
            (layout.rest k v))) (turned k e Less is) in
            rw (row, is) refl
        | Equal ↦ λ is. absurd (not_none e.1 (sym (ap (λ o. cond (is_eq o) (Some e.1)
            (find R k es)) is) ∙ none))
        | Greater ↦ λ is.
            let row : entry_cmp plain (row_of layout e) (row_of layout (k, v)) ≡ Less =
            at_row e k v ∙ ap (λ o. ordering_then o (entry_cmp plain (layout.rest e.0 e.1)
            (layout.rest k v))) (turned k e Greater is) in
            let later : find R k es ≡ None =
            sym (ap (λ o. cond (is_eq o) (Some e.1) (find R k es)) is) ∙ none in
            rw (row, is) (ap (λ rows. row_of layout e ∷ rows) (insert_new k v es later))
      ] refl

  -- the rows of a map and a new entry are those of the map with it
  pub inserted : (m : FinMap R V) (k : K) (v : V) → get m k ≡ None
      → insert_entry plain (row_of layout (k, v)) (rows_of layout m) ≡ rows_of layout (insert m k v)
  inserted m k v none =
      insert_new k v (entries m) (sym (get-entries m k) ∙ none)
      ∙ ap (map (row_of layout)) (sym (entries-insert layout.total m k v))

  -- what is answered of a list, before it is one of a map
  Says : List (K × V) → K → Row → Bool → Type 0
  Says es k row true = (v : V) × (find R k es ≡ Some v) × (row ≡ row_of layout (k, v))
  Says es k row false = find R k es ≡ None

  -- what is answered of the entries after the first holds of all, where the first has another key
  says_later : (e : K × V) (es : List (K × V)) (k : K) (row : Row) (hit : Bool)
      → find R k (e ∷ es) ≡ find R k es → Says es k row hit → Says (e ∷ es) k row hit
  unfolding Says
  says_later e es k row true same says = (says.0, same ∙ says.1, says.2)
  says_later e es k row false same says = same ∙ says

  -- a look-up that stops at this row gives it
  from_here : (e : K × V) (es : List (K × V)) (k : K) (row : Row) (there : Bool)
      → IsFirst (from_key plain (layout.key k) (map (row_of layout) (e ∷ es))) row there
      → (o : Ordering) → prefix_cmp plain (row_of layout e) (layout.key k) ≡ o
      → is_lt o ≡ false → (there ≡ true) × (row ≡ row_of layout e)
  from_here e es k row there begins o at stops =
      begins_with (row_of layout e) (map (row_of layout) es) row there
      (subst (λ (b : Bool). IsFirst (cond b (from_key plain (layout.key k) (map
      (row_of layout) es)) (map (row_of layout) (e ∷ es))) row there) (ap is_lt at
      ∙ stops) begins)

  -- so it finds the key where that row has it
  heard : (e : K × V) (es : List (K × V)) (k : K) (row : Row) (there hit : Bool)
      → IsFirst (from_key plain (layout.key k) (map (row_of layout) (e ∷ es))) row there
      → hit ≡ (there && is_eq (prefix_cmp plain row (layout.key k)))
      → (o : Ordering) → prefix_cmp plain (row_of layout e) (layout.key k) ≡ o
      → is_lt o ≡ false → hit ≡ is_eq o
  heard e es k row there hit begins is o at stops =
      let starts = from_here e es k row there begins o at stops in
      is ∙ ap₂ (λ t (r : Row). t && is_eq (prefix_cmp plain r
      (layout.key k))) starts.0 starts.1 ∙ ap is_eq at

  -- what a look-up answers of the rows of sorted entries
  first_says : (k : K) (es : List (K × V)) → T (is_sorted R es) → (row : Row) (there hit : Bool)
      → IsFirst (from_key plain (layout.key k) (map (row_of layout) es)) row there
      → hit ≡ (there && is_eq (prefix_cmp plain row (layout.key k))) → Says es k row hit
  unfolding Says
  first_says k [] sorted row true hit first is = absurd (none_there row first.0 (sym first.1))
  first_says k [] sorted row false hit first is = subst (λ h. Says [] k row h) (sym is) refl
  first_says k (e ∷ es) sorted row there hit begins is =
      elim (R k e.0) as (λ o. R k e.0 ≡ o → Says (e ∷ es) k row hit) [
        | Less ↦ λ o.
            let at : prefix_cmp plain (row_of layout e) (layout.key k) ≡ Greater = at_key e k
            ∙ turned k e Less o in
            let none : find R k (e ∷ es) ≡ None =
            ap (λ r. cond (is_eq r) (Some e.1) (find R k es)) o
            ∙ find_below R layout.total k e.0 es o (first _ _ sorted) in
            let hit_is : hit ≡ false = heard e es k row there hit begins is Greater at refl in
            subst (λ h. Says (e ∷ es) k row h) (sym hit_is) none
        | Equal ↦ λ o.
            let at : prefix_cmp plain (row_of layout e) (layout.key k) ≡ Equal = at_key e k
            ∙ turned k e Equal o in
            let hit_is : hit ≡ true = heard e es k row there hit begins is Equal at refl in
            let here : find R k (e ∷ es) ≡ Some e.1 =
            ap (λ r. cond (is_eq r) (Some e.1) (find R k es)) o in
            let same : e.0 ≡ k = sym (layout.exact k e.0 o) in
            let starts = from_here e es k row there begins Equal at refl in
            let row_is : row ≡ row_of layout (k, e.1) = starts.1
            ∙ ap (λ (x : K). row_of layout (x, e.1)) same in
            subst (λ h. Says (e ∷ es) k row h) (sym hit_is) (e.1, here, row_is)
        | Greater ↦ λ o.
            let at : prefix_cmp plain (row_of layout e) (layout.key k) ≡ Less = at_key e k
            ∙ turned k e Greater o in
            says_later e es k row hit (ap (λ r. cond (is_eq r) (Some e.1) (find R k es)) o)
            (first_says k es (second _ _ sorted) row there hit (subst (λ (r : Ordering). IsFirst
            (cond (is_lt r) (from_key plain (layout.key k) (map (row_of layout) es)) (map
            (row_of layout) (e ∷ es))) row there) at begins) is)
      ] refl

  says_of : (m : FinMap R V) (k : K) (row : Row) (hit : Bool) → Says (entries m) k row hit
      → Answers layout m k row hit
  unfolding Says
  says_of m k row true says = (says.0, get-entries m k ∙ says.1, says.2)
  says_of m k row false says = get-entries m k ∙ says

  -- A look-up of a key: the first row that is not below it, if it has the key, is the key's.
  pub looked_up : (m : FinMap R V) (k : K) (row : Row) (there hit : Bool)
      → IsFirst (from_key plain (layout.key k) (rows_of layout m)) row there
      → hit ≡ (there && is_eq (prefix_cmp plain row (layout.key k))) → Answers layout m k row hit
  looked_up m k row there hit begins is =
      says_of m k row hit (first_says k (entries m) (entries_sorted m) row there hit begins is)
