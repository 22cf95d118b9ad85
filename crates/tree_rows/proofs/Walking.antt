-- A walk over the rows of a map by key: the rows after a key are those of the entries above it.
use Rattle.std.proofs.Common.{◌≡◌, List, [], ◌∷◌, map, Bool, false, cond}
use Rattle.std.proofs.Common.{refl, sym, ap, subst, ◌∙◌}
use Rattle.std.specs.Prelude.{filter, T}
use Rattle.std.specs.FinMap.{FinMap, entries, entries_sorted, is_sorted}
use Rattle.std.specs.FinMap.Entries.{below_all}
use Rattle.std.specs.Ordering.{is_lt, is_eq}
use Rattle.std.specs.declared.cmp.Ordering.{Ordering}
use Rattle.std.specs.declared.cmp.Ordering.TheVariants.{Less, Equal, Greater}
use Rattle.sqlite_trees.specs.Tree.{from_key}
use Rattle.sqlite_value.specs.Keys.{plain, prefix_cmp}
use Rattle.tree_rows.specs.Layouts.{Layout, row_of, rows_of}
use Rattle.tree_rows.specs.Rows.{past_key}
use Rattle.tree_rows.proofs.Maps.{at_key, turned, first, second, less}

module _ {K V : Type 0} {R : K → K → Ordering} (layout : Layout K V R) where
  -- the entry's key is above this one
  abbrev is_above : K → K × V → Bool
  is_above k e = is_lt (R k e.0)

  -- where each key is above this one, all entries are
  all_above : (k : K) (es : List (K × V)) → T (below_all R k es) → filter (is_above k) es ≡ es
  all_above k [] below = refl
  all_above k (e ∷ es) below =
      ap (λ b. cond b (e ∷ filter (is_above k) es) (filter (is_above k) es))
      (ap is_lt (less (R k e.0) (first _ _ below)))
      ∙ ap (λ more. e ∷ more) (all_above k es (second _ _ below))

  -- and so they are where a key below them is not below this one
  all_beyond : (k x : K) (es : List (K × V)) → R k x ≡ Less → T (below_all R x es)
      → filter (is_above k) es ≡ es
  all_beyond k x [] is below = refl
  all_beyond k x (e ∷ es) is below =
      ap (λ b. cond b (e ∷ filter (is_above k) es) (filter (is_above k) es))
      (ap is_lt (layout.total.trans k x e.0 is (less (R x e.0) (first _ _ below))))
      ∙ ap (λ more. e ∷ more) (all_beyond k x es is (second _ _ below))

  abbrev Walks : K → List (K × V) → Type 0
  Walks k es =
      past_key (layout.key k) (from_key plain (layout.key k) (map (row_of layout) es))
      ≡ map (row_of layout) (filter (is_above k) es)

  -- the rows from the first of entries with keys that are not below
  stops : (k : K) (e : K × V) (es : List (K × V)) (o : Ordering)
      → prefix_cmp plain (row_of layout e) (layout.key k) ≡ o → is_lt o ≡ false
      → past_key (layout.key k) (from_key plain (layout.key k) (map (row_of layout) (e ∷ es)))
      ≡ cond (is_eq o) (map (row_of layout) es) (map (row_of layout) (e ∷ es))
  stops k e es o at not_below =
      ap (λ b. past_key (layout.key k) (cond b (from_key plain (layout.key k)
      (map (row_of layout) es)) (map (row_of layout) (e ∷ es)))) (ap is_lt at ∙ not_below)
      ∙ ap (λ b. cond b (map (row_of layout) es) (map (row_of layout) (e ∷ es))) (ap is_eq at)

  walks : (k : K) (es : List (K × V)) → T (is_sorted R es) → Walks k es
  walks k [] sorted = refl
  walks k (e ∷ es) sorted =
      elim (R k e.0) as (λ o. R k e.0 ≡ o → Walks k (e ∷ es)) [
        | Less ↦ λ is.
            stops k e es Greater (at_key layout e k ∙ turned layout k e Less is) refl
            ∙ ap (map (row_of layout)) (sym (ap (λ b. cond b (e ∷ filter (is_above k) es)
            (filter (is_above k) es)) (ap is_lt is)
            ∙ ap (λ more. e ∷ more) (all_beyond k e.0 es is (first _ _ sorted))))
        | Equal ↦ λ is.
            stops k e es Equal (at_key layout e k ∙ turned layout k e Equal is) refl
            ∙ ap (map (row_of layout)) (sym (ap (λ b. cond b (e ∷ filter (is_above k) es)
            (filter (is_above k) es)) (ap is_lt is)
            ∙ all_above k es (subst (λ x. T (below_all R x es)) (sym (layout.exact k e.0 is))
            (first _ _ sorted))))
        | Greater ↦ λ is.
            ap (λ b. past_key (layout.key k) (cond b (from_key plain (layout.key k)
            (map (row_of layout) es)) (map (row_of layout) (e ∷ es))))
            (ap is_lt (at_key layout e k ∙ turned layout k e Greater is))
            ∙ walks k es (second _ _ sorted)
            ∙ ap (map (row_of layout)) (sym (ap (λ b. cond b (e ∷ filter (is_above k) es)
            (filter (is_above k) es)) (ap is_lt is)))
      ] refl

  -- the rows after a key are those of the entries with a key above it, in the order of the keys
  pub walked : (m : FinMap R V) (k : K)
      → past_key (layout.key k) (from_key plain (layout.key k) (rows_of layout m))
      ≡ map (row_of layout) (filter (is_above k) (entries m))
  walked m k = walks k (entries m) (entries_sorted m)
