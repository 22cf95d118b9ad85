-- The first row that is not below the first columns of a key.
use Rattle.std.proofs.Common.{◌≡◌, ◌⊎◌, inl, inr, List, [], ◌∷◌, map, Bool, true, false, cond}
use Rattle.std.proofs.Common.{Some, refl, sym, ap, subst, ◌∙◌, true≢false}
use Rattle.std.specs.Prelude.{T}
use Rattle.std.specs.FinMap.{FinMap, entries, entries_sorted, find, get, get-entries, is_sorted}
use Rattle.std.specs.Ordering.{eq_by_cmp, is_eq, is_lt}
use Rattle.std.specs.declared.cmp.Ordering.{Ordering}
use Rattle.std.specs.declared.cmp.Ordering.TheVariants.{Less, Equal, Greater}
use Rattle.std.proofs.lemmas.Map.Views.{tells_apart}
use Rattle.sqlite_trees.specs.Tree.{from_key}
use Rattle.sqlite_value.specs.Keys.{plain, prefix_cmp}
use Rattle.sqlite_value.specs.Order.{Row}
use Rattle.tree_rows.specs.Layouts.{Layout, row_of, rows_of}
use Rattle.tree_rows.specs.Rows.{IsFirst}
use Rattle.tree_rows.proofs.Maps.{begins_with, find_below, first, none_there, not_none, second}
use Rattle.tree_rows.proofs.Moving.{find_later}
use Rattle.tree_rows.proofs.Passing.{find_front}

module _ {K V : Type 0} {R : K → K → Ordering} (layout : Layout K V R) (part : Row)
    (rank : K → Ordering)
    (at : (e : K × V) → prefix_cmp plain (row_of layout e) part ≡ rank e.0) where
  -- What the first row from the part on shows of a map: it is that of the first of the entries
  -- that are not below the part; or no entry is.
  abbrev pub FindsFrom : FinMap R V → Row → Bool → Type 0
  FindsFrom m row true =
      (k : K) × (v : V) × (get m k ≡ Some v) × (row ≡ row_of layout (k, v))
      × (is_lt (rank k) ≡ false)
      × ((q : K) (w : V) → get m q ≡ Some w → is_lt (rank q) ≡ false → is_lt (R q k) ≡ false)
  FindsFrom m row false = (q : K) (w : V) → get m q ≡ Some w → is_lt (rank q) ≡ true

  -- the same of entries, before they are those of a map
  Says : List (K × V) → Row → Bool → Type 0
  Says es row true =
      (k : K) × (v : V) × (find R k es ≡ Some v) × (row ≡ row_of layout (k, v))
      × (is_lt (rank k) ≡ false)
      × ((q : K) (w : V) → find R q es ≡ Some w → is_lt (rank q) ≡ false
      → is_lt (R q k) ≡ false)
  Says es row false = (q : K) (w : V) → find R q es ≡ Some w → is_lt (rank q) ≡ true

  -- what is found is the first, or is found after it
  first_or : (q : K) (w : V) (e : K × V) (es : List (K × V)) → find R q (e ∷ es) ≡ Some w
      → (q ≡ e.0) ⊎ (find R q es ≡ Some w)
  first_or q w e es found =
      elim (eq_by_cmp R q e.0) as (λ b. eq_by_cmp R q e.0 ≡ b
      → cond b (Some e.1) (find R q es) ≡ Some w → (q ≡ e.0) ⊎ (find R q es ≡ Some w)) [
        | true ↦ λ tie is. inl (tells_apart layout.exact q e.0 tie)
        | false ↦ λ tie is. inr is
      ] refl found

  -- an entry below the part is passed
  says_later : (e : K × V) (es : List (K × V)) (row : Row) (there : Bool)
      → T (is_sorted R (e ∷ es)) → is_lt (rank e.0) ≡ true → Says es row there
      → Says (e ∷ es) row there
  unfolding Says
  says_later e es row true up low says = (
    says.0,
    says.1,
    find_later layout.total layout.exact says.0 says.1 e es up says.2,
    says.3,
    says.4,
    λ q w found high. elim (first_or q w e es found) [
      | inl same ↦ absurd (true≢false (sym low ∙ ap (λ k. is_lt (rank k)) (sym same) ∙ high))
      | inr behind ↦ says.5 q w behind high
    ],
  )
  says_later e es row false up low says = λ q w found. elim (first_or q w e es found) [
    | inl same ↦ ap (λ k. is_lt (rank k)) same ∙ low
    | inr behind ↦ says q w behind
  ]

  -- no entry comes before the first
  none_before : (e : K × V) (es : List (K × V)) → T (is_sorted R (e ∷ es)) → (q : K) (w : V)
      → find R q (e ∷ es) ≡ Some w → is_lt (R q e.0) ≡ false
  none_before e es up q w found =
      elim (R q e.0) as (λ o. R q e.0 ≡ o → is_lt o ≡ false) [
        | Less ↦ λ o. absurd (not_none w (sym found
            ∙ ap (λ r. cond (is_eq r) (Some e.1) (find R q es)) o
            ∙ find_below R layout.total q e.0 es o (first _ _ up)))
        | Equal ↦ λ o. refl
        | Greater ↦ λ o. refl
      ] refl

  -- an entry that is not below the part is the first
  says_here : (e : K × V) (es : List (K × V)) (row : Row) → T (is_sorted R (e ∷ es))
      → is_lt (rank e.0) ≡ false → row ≡ row_of layout e → Says (e ∷ es) row true
  unfolding Says
  says_here e es row up high is = (
    e.0,
    e.1,
    find_front layout.total layout.exact e.0 e.1 es,
    is,
    high,
    λ q w found above. none_before e es up q w found,
  )

  first_of : (es : List (K × V)) → T (is_sorted R es) → (row : Row) (there : Bool)
      → IsFirst (from_key plain part (map (row_of layout) es)) row there → Says es row there
  unfolding Says
  first_of [] up row true begins = absurd (none_there row begins.0 (sym begins.1))
  first_of [] up row false begins = λ q w found. absurd (not_none w (sym found))
  first_of (e ∷ es) up row there begins =
      let from : (b : Bool) → is_lt (rank e.0) ≡ b → IsFirst (cond b (from_key plain part
      (map (row_of layout) es)) (map (row_of layout) (e ∷ es))) row there = λ b is.
      subst (λ b. IsFirst (cond b (from_key plain part (map (row_of layout) es))
      (map (row_of layout) (e ∷ es))) row there) (ap is_lt (at e) ∙ is) begins in
      elim (is_lt (rank e.0)) as (λ b. is_lt (rank e.0) ≡ b → Says (e ∷ es) row there) [
        | true ↦ λ low.
            says_later e es row there up low (first_of es (second _ _ up) row there
            (from true low))
        | false ↦ λ high.
            let starts = begins_with (row_of layout e) (map (row_of layout) es) row there
            (from false high) in
            subst (Says (e ∷ es) row) (sym starts.0) (says_here e es row up high starts.1)
      ] refl

  says_of : (m : FinMap R V) (row : Row) (there : Bool) → Says (entries m) row there
      → FindsFrom m row there
  unfolding Says
  says_of m row true says = (
    says.0,
    says.1,
    get-entries m says.0 ∙ says.2,
    says.3,
    says.4,
    λ q w found high. says.5 q w (sym (get-entries m q) ∙ found) high,
  )
  says_of m row false says = λ q w found. says q w (sym (get-entries m q) ∙ found)

  -- the first row from the part on is that of the first entry from there on
  pub finds_from : (m : FinMap R V) (row : Row) (there : Bool)
      → IsFirst (from_key plain part (rows_of layout m)) row there → FindsFrom m row there
  finds_from m row there begins =
      says_of m row there (first_of (entries m) (entries_sorted m) row there begins)
