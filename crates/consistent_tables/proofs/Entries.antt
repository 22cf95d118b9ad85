-- The entries of a map: they are what is found in it.
use Rattle.std.proofs.Common.{◌≡◌, List, [], ◌∷◌, refl, sym, ap, ◌∙◌, true, false, true≢false, Bool}
use Rattle.std.proofs.Common.{cond, ◌&&◌, ◌||◌, Some, None, T, is_eq, is_lt, Ordering, Less, Equal}
use Rattle.std.proofs.Common.{Greater}
use Rattle.std.specs.Cmp.{IsTotalOrder, tied_itself}
use Rattle.std.specs.FinMap.{FinMap, IsAntisymmetric, entries, entries_sorted, find, from_entries}
use Rattle.std.specs.FinMap.{get, get-entries, get-from_entries, same_map}
use Rattle.std.specs.FinMap.Entries.{below_all, is_sorted}
use Rattle.std.specs.List.{AllByRecursion, list_any}
use Rattle.std.specs.Ordering.{eq_by_cmp}
use Rattle.std.proofs.Math.Bool.{or-true}
use Rattle.std.proofs.lemmas.Map.Views.{tells_apart}
use Rattle.std.proofs.lemmas.Option.{none-some}
use Rattle.table_model.proofs.UnderNumbers.{one_holds, other_holds}

module _ {K V : Type 0} {R : K → K → Ordering} (total : IsTotalOrder R) (exact : IsAntisymmetric R)
  where
    -- a key that is below those of all entries is not found among them
    below_none : (key : K) (es : List (K × V)) → T (below_all R key es) → find R key es ≡ None
    below_none key [] below = refl
    below_none key (e ∷ es) below =
        elim (R key e.0) as (λ r. T (is_lt r && below_all R key es)
        → cond (is_eq r) (Some e.1) (find R key es) ≡ None) [
          | Less ↦ λ below. below_none key es below
          | Equal ↦ λ below. absurd below
          | Greater ↦ λ below. absurd below
        ] below

    -- what is found behind the first entry is found with it
    found_later : (e : K × V) (es : List (K × V)) (key : K) (value : V)
        → T (is_sorted R (e ∷ es)) → find R key es ≡ Some value
        → find R key (e ∷ es) ≡ Some value
    found_later e es key value rising found =
        elim (eq_by_cmp R key e.0) as (λ t. eq_by_cmp R key e.0 ≡ t
        → cond t (Some e.1) (find R key es) ≡ Some value) [
          | true ↦ λ tied. absurd (none-some value
              (sym (below_none e.0 es (one_holds (below_all R e.0 es) (is_sorted R es) rising))
              ∙ ap (λ k. find R k es) (sym (tells_apart exact key e.0 tied)) ∙ found))
          | false ↦ λ apart. found
        ] refl

    -- each entry of a list in order is found in it
    found_each : (P : K × V → Type 0) (es : List (K × V)) → T (is_sorted R es)
        → ((key : K) (value : V) → find R key es ≡ Some value → P (key, value))
        → AllByRecursion P es
    found_each P [] rising each = tt
    found_each P (e ∷ es) rising each = (
      each e.0 e.1
          (ap (λ r. cond (is_eq r) (Some e.1) (find R e.0 es)) (tied_itself total e.0)),
      found_each P es (other_holds (below_all R e.0 es) (is_sorted R es) rising)
          (λ key value found. each key value (found_later e es key value rising found)),
    )

    -- so what holds of all that is found in a map holds of its entries
    pub each_entry : (P : K × V → Type 0) (m : FinMap R V)
        → ((key : K) (value : V) → get m key ≡ Some value → P (key, value))
        → AllByRecursion P (entries m)
    each_entry P m each =
        found_each P (entries m) (entries_sorted m)
        (λ key value found. each key value (get-entries m key ∙ found))

    -- one of some entries that passes a test
    passes_one : (P : K × V → Type 0) (p : K × V → Bool) (es : List (K × V)) → AllByRecursion P es
        → list_any p es ≡ true → (e : K × V) × P e × (p e ≡ true)
    passes_one P p [] all any = absurd (true≢false (sym any))
    passes_one P p (e ∷ es) all any =
        elim (p e) as (λ b. p e ≡ b → (b || list_any p es) ≡ true
        → (e : K × V) × P e × (p e ≡ true)) [
          | true ↦ λ passes any. (e, all.0, passes)
          | false ↦ λ fails any. passes_one P p es all.1 any
        ] refl any

    -- is found in the map
    pub one_entry : (m : FinMap R V) (p : K × V → Bool) → list_any p (entries m) ≡ true
        → (e : K × V) × (get m e.0 ≡ Some e.1) × (p e ≡ true)
    one_entry m p any =
        passes_one (λ e. get m e.0 ≡ Some e.1) p (entries m)
        (each_entry (λ e. get m e.0 ≡ Some e.1) m (λ key value found. found)) any

    -- and if what is found passes, one of the entries does
    passes_found : (p : K × V → Bool) (key : K) (value : V) (es : List (K × V))
        → find R key es ≡ Some value → p (key, value) ≡ true → list_any p es ≡ true
    passes_found p key value [] found passes = absurd (none-some value found)
    passes_found p key value (e ∷ es) found passes =
        elim (eq_by_cmp R key e.0) as (λ t. eq_by_cmp R key e.0 ≡ t
        → cond t (Some e.1) (find R key es) ≡ Some value → (p e || list_any p es) ≡ true) [
          | true ↦ λ tied found.
              let own : e.1 ≡ value = cc in
              let same : key ≡ e.0 = tells_apart exact key e.0 tied in
              ap (λ b. b || list_any p es) ((λ i. p (sym same i, own i)) ∙ passes)
          | false ↦ λ apart found.
              ap (λ b. p e || b) (passes_found p key value es found passes) ∙ or-true (p e)
        ] refl found

    pub entry_there : (m : FinMap R V) (p : K × V → Bool) (key : K) (value : V)
        → get m key ≡ Some value → p (key, value) ≡ true → list_any p (entries m) ≡ true
    entry_there m p key value found passes =
        passes_found p key value (entries m) (sym (get-entries m key) ∙ found) passes

    -- a map is made of its entries
    pub made_again : (m : FinMap R V) → from_entries (entries m) ≡ m
    made_again m =
        same_map total exact (from_entries (entries m)) m
        (λ q. get-from_entries total (entries m) q ∙ sym (get-entries m q))
