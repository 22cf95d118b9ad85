-- The keys of an index as a list: what they stand for, which of them pass a test, in which order.
use Rattle.std.proofs.Common.{◌≡◌, List, [], ◌∷◌, map, Bool, true, false, cond}
use Rattle.std.proofs.Common.{Some, None, refl, sym, ap, ap₂, subst, ◌∙◌}
use Rattle.std.specs.Prelude.{filter, T, ◌&&◌}
use Rattle.std.specs.Cmp.{IsTotalOrder, tied_itself}
use Rattle.std.specs.FinMap.{FinMap, entries, entries_sorted, entries-insert, find, put}
use Rattle.std.specs.FinMap.{from_entries, empty, get-entries, get-from_entries, is_sorted}
use Rattle.std.specs.FinMap.{len-entries, len-empty}
use Rattle.std.specs.FinMap.Entries.{below_all, by_order, same_entries, is_sorted-where_key}
use Rattle.std.specs.FinMap.Entries.{find-where_key}
use Rattle.std.specs.List.{All, AllByRecursion}
use Rattle.std.specs.List.Sorted.{IsPermutation}
use Rattle.std.specs.Ordering.{is_eq, is_lt, eq_by_cmp, ordering_then}
use Rattle.std.specs.declared.cmp.Ordering.{Ordering}
use Rattle.std.specs.declared.cmp.Ordering.TheVariants.{Less, Equal, Greater}
use Rattle.std.proofs.lemmas.Cmp.{eq_by_cmp_equiv}
use Rattle.std.proofs.lemmas.List.{nil_from_length}
use Rattle.std.proofs.lemmas.List.Elements.{All-from_recursion}
use Rattle.std.proofs.lemmas.List.Sorted.{IsPermutation-refl, IsPermutation-cons}
use Rattle.std.proofs.lemmas.List.Sorted.{IsPermutation-trans, IsPermutation-middle}
use Rattle.sqlite_trees.proofs.ListLemmas.{IsPermutation-filter, filter-map}
use Rattle.tree_rows.specs.Indexes.{IsIndexKey, IsKeyOf, index_of, index_answer, indexed_by}
use Rattle.tree_rows.proofs.Indexes.{found_indexed, index_names}
use Rattle.tree_rows.proofs.Taking.{find_above}
use Rattle.tree_rows.proofs.Maps.{first, second, not_none}

-- the keys of entries
abbrev keys_of : {K V : Type 0} → List (K × V) → List K
keys_of {K} {V} es = map (λ (e : K × V). e.0) es

-- two tests that are passed are passed together
pub both : (a b : Bool) → T a → T b → T (a && b)
both true b p q = q
both false b p q = absurd p

module _ {Q : Type 0} (P : Q → Q → Ordering) where
  -- a key that goes to its place among others is one more
  keys_put : (x : Q) (es : List (Q × Unit {0})) → find P x es ≡ None
      → IsPermutation (keys_of (put P x tt es)) (x ∷ keys_of es)
  keys_put x [] none = IsPermutation-refl (x ∷ [])
  keys_put x (e ∷ es) none =
      elim (P x e.0) as (λ o. cond (is_eq o) (Some e.1) (find P x es) ≡ None
      → IsPermutation
      (keys_of (by_order o ((x, tt) ∷ e ∷ es) ((e.0, tt) ∷ es) (e ∷ put P x tt es)))
      (x ∷ e.0 ∷ keys_of es)) [
        | Less ↦ λ none. IsPermutation-refl (x ∷ e.0 ∷ keys_of es)
        | Equal ↦ λ none. absurd (not_none e.1 none)
        | Greater ↦ λ none. IsPermutation-trans (e.0 ∷ keys_of (put P x tt es))
            (e.0 ∷ x ∷ keys_of es) (x ∷ e.0 ∷ keys_of es)
            (IsPermutation-cons e.0 (keys_of (put P x tt es)) (x ∷ keys_of es)
            (keys_put x es none))
            (IsPermutation-middle (e.0 ∷ []) x (keys_of es))
      ] none

  -- what holds of each key that is found holds of all keys
  all_found : IsTotalOrder P → (G : Q → Type 0) (es : List (Q × Unit {0}))
      → ((q : Q) → find P q es ≡ Some tt → G q) → AllByRecursion G (keys_of es)
  all_found o G [] each = tt
  all_found o G (e ∷ es) each = (
    each e.0 (ap (λ b. cond b (Some e.1) (find P e.0 es)) ((eq_by_cmp_equiv o).refl e.0)),
    all_found o G es (λ q later. each q (ap (cond (eq_by_cmp P q e.0) (Some e.1)) later
        ∙ alike (eq_by_cmp P q e.0))),
  )
    where
      alike : (b : Bool) → cond b (Some e.1) (Some (tt {0})) ≡ Some (tt {0})
      alike true = refl
      alike false = refl

-- the empty map has no entries
pub no_entries : {K V : Type 0} (R : K → K → Ordering) → entries (empty {X = V} {R = R}) ≡ []
no_entries {K} {V} R =
    nil_from_length (entries (empty {X = V} {R = R}))
    (sym (len-entries (empty {X = V} {R = R})) ∙ len-empty R V)

module _ {K V Q : Type 0} {R : K → K → Ordering} {P : Q → Q → Ordering} {key : K × V → Q}
    {name : Q → K} (index : IsIndexKey R P key name)
  where
    -- each key of the index stands for an entry of the map
    pub index_names_all : (m : FinMap R V)
        → All (IsKeyOf key name m) (map (λ e. e.0) (entries (index_of {P = P} key m)))
    index_names_all m =
        let there : List (Q × Unit {0}) = entries (index_of {P = P} key m) in
        All-from_recursion (IsKeyOf key name m) (keys_of there)
        (all_found P index.index_total (IsKeyOf key name m) there (index_names index m))

    -- the key of an entry at the head of sorted entries is not one of the later ones
    new_at_front : (e : K × V) (es : List (K × V)) → T (is_sorted R (e ∷ es))
        → find P (key e) (map (indexed_by key) es) ≡ None
    new_at_front e es sorted =
        found_indexed index (key e) es (second _ _ sorted)
        ∙ ap (index_answer P key (name (key e)) (key e))
        (ap (λ k. find R k es) (index.named e) ∙ find_above R e.0 es (first _ _ sorted))

    -- the keys of the index of sorted entries are those that are made of them
    keys_permute : (es : List (K × V)) → T (is_sorted R es)
        → IsPermutation (keys_of (entries (from_entries {R = P} (map (indexed_by key) es))))
        (map key es)
    keys_permute [] sorted =
        subst (λ (es : List (Q × Unit {0})). IsPermutation (keys_of es) []) (sym (no_entries P))
        (IsPermutation-refl [])
    keys_permute (e ∷ es) sorted =
        let later : FinMap P (Unit {0}) = from_entries (map (indexed_by key) es) in
        let new : find P (key e) (entries later) ≡ None = sym (get-entries later (key e))
        ∙ get-from_entries index.index_total (map (indexed_by key) es) (key e)
        ∙ new_at_front e es sorted in
        subst (λ (there : List (Q × Unit {0})). IsPermutation (keys_of there) (key e ∷ map key es))
        (sym (entries-insert index.index_total later (key e) tt))
        (IsPermutation-trans (keys_of (put P (key e) tt (entries later)))
        (key e ∷ keys_of (entries later)) (key e ∷ map key es)
        (keys_put P (key e) (entries later) new)
        (IsPermutation-cons (key e) (keys_of (entries later)) (map key es)
        (keys_permute es (second _ _ sorted))))

    -- the index keys that pass a test are those that are made of the entries with keys that pass it
    pub index_permutes : (t : Q → Bool) (m : FinMap R V)
        → IsPermutation (filter t (map (λ e. e.0) (entries (index_of {P = P} key m))))
        (map key (filter (λ e. t (key e)) (entries m)))
    unfolding index_of
    index_permutes t m =
        let there : List (Q × Unit {0}) =
        entries (from_entries {R = P} (map (indexed_by key) (entries m))) in
        subst (IsPermutation (filter t (keys_of there))) (filter-map t key (entries m))
        (IsPermutation-filter t (keys_of there) (map key (entries m))
        (keys_permute (entries m) (entries_sorted m)))

    -- keys in one place pass a test alike
    alike : (t : Q → Bool) (q x : Q) → P q x ≡ Equal → t x ≡ t q
    alike t q x is = ap t (sym (index.index_exact q x is))

    -- Index keys compare by their heads, then as the entries do; and the test is passed by one head.
    module _ {A : Type 0} {C : A → A → Ordering} (total : IsTotalOrder C) (head : Q → A)
        (heads_first : (e f : K × V) → P (key e) (key f)
        ≡ ordering_then (C (head (key e)) (head (key f))) (R e.0 f.0))
        (given : A) (t : Q → Bool) (only : (q : Q) → t q ≡ true → head q ≡ given)
      where
        -- the keys that pass, of some entries
        abbrev passing : List (K × V) → List (Q × Unit {0})
        passing es = map (indexed_by key) (filter (λ e. t (key e)) es)

        -- a key that passes is below those of the later entries that do
        below_passing : (e : K × V) (es : List (K × V)) → t (key e) ≡ true
            → T (below_all R e.0 es) → T (below_all P (key e) (passing es))
        below_passing e [] is below = tt
        below_passing e (f ∷ es) is below =
            let rest = below_passing e es is (second _ _ below) in
            elim (t (key f)) as (λ b. t (key f) ≡ b → T (below_all P (key e) (map (indexed_by key)
            (cond b (f ∷ filter (λ e. t (key e)) es) (filter (λ e. t (key e)) es))))) [
              | true ↦ λ too. both _ _
                  (subst (λ o. T (is_lt o))
                  (sym (heads_first e f ∙ ap (λ o. ordering_then o (R e.0 f.0))
                  (ap₂ C (only (key e) is) (only (key f) too) ∙ tied_itself total given)))
                  (first _ _ below)) rest
              | false ↦ λ not_it. rest
            ] refl

        -- so the keys that pass, of sorted entries, are in the order of the index
        passing_rises : (es : List (K × V)) → T (is_sorted R es) → T (is_sorted P (passing es))
        passing_rises [] sorted = tt
        passing_rises (e ∷ es) sorted =
            let rest = passing_rises es (second _ _ sorted) in
            elim (t (key e)) as (λ b. t (key e) ≡ b → T (is_sorted P (map (indexed_by key)
            (cond b (e ∷ filter (λ e. t (key e)) es) (filter (λ e. t (key e)) es))))) [
              | true ↦ λ is. both _ _ (below_passing e es is (first _ _ sorted)) rest
              | false ↦ λ not_it. rest
            ] refl

        -- and the entries of the index that pass are those of the map that do, in its order
        pub index_in_order : (m : FinMap R V)
            → filter (λ e. t e.0) (entries (index_of {P = P} key m)) ≡ passing (entries m)
        unfolding index_of
        index_in_order m =
            let all : List (Q × Unit {0}) = map (indexed_by key) (entries m) in
            let there : FinMap P (Unit {0}) = from_entries all in
            same_entries P index.index_total index.index_exact (filter (λ e. t e.0) (entries there))
            (passing (entries m)) (is_sorted-where_key P t (entries there) (entries_sorted there))
            (passing_rises (entries m) (entries_sorted m))
            (λ q. find-where_key P t q (alike t q) (entries there)
            ∙ ap (λ found. cond (t q) found None)
            (sym (get-entries there q) ∙ get-from_entries index.index_total all q)
            ∙ sym (find-where_key P t q (alike t q) all)
            ∙ ap (find P q) (filter-map (λ e. t e.0) (indexed_by key) (entries m)))
