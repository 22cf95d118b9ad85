-- All values of a map are changed one at a time, while its keys are walked.
use Rattle.std.proofs.Common.{◌≡◌, inl, inr, List, [], ◌∷◌, map, true, false, cond}
use Rattle.std.proofs.Common.{Option, Some, None, refl, sym, ap, ◌∙◌, true≢false}
use Rattle.std.specs.Cmp.{IsTotalOrder}
use Rattle.std.specs.FinMap.{FinMap, IsAntisymmetric, get, insert, entries, find}
use Rattle.std.specs.FinMap.{get-entries, get-insert, get-from_entries, same_map}
use Rattle.std.specs.Option.{option_map}
use Rattle.std.specs.Ordering.{eq_by_cmp}
use Rattle.std.specs.declared.cmp.Ordering.{Ordering}
use Rattle.std.proofs.lemmas.Cmp.{eq_by_cmp_equiv}
use Rattle.std.proofs.lemmas.Map.Views.{tells_apart}
use Rattle.tree_rows.specs.Changes.{updated, above, DoneTo}
use Rattle.tree_rows.proofs.Passing.{first_there, passed_with, all_passed}
use Rattle.tree_rows.proofs.Taking.{some_is}

module _ {K V : Type 0} {R : K → K → Ordering} (total : IsTotalOrder R)
    (exact : IsAntisymmetric R) where
  -- what is found of entries with changed values
  find_updated : (change : V → V) (q : K) (es : List (K × V))
      → find R q (map {B = K × V} (λ (e : K × V). (e.0, change e.1)) es)
      ≡ option_map change (find R q es)
  find_updated change q [] = refl
  find_updated change q (e ∷ es) =
      elim (eq_by_cmp R q e.0) as
      (λ b. cond b (Some (change e.1))
      (find R q (map {B = K × V} (λ (e : K × V). (e.0, change e.1)) es))
      ≡ option_map change (cond b (Some e.1) (find R q es))) [
        | true ↦ refl
        | false ↦ find_updated change q es
      ]

  -- each value is found with its change
  pub get_updated : (change : V → V) (m : FinMap R V) (q : K)
      → get (updated change m) q ≡ option_map change (get m q)
  get_updated change m q =
      get-from_entries total (map {B = K × V} (λ (e : K × V). (e.0, change e.1)) (entries m)) q
      ∙ find_updated change q (entries m) ∙ ap (option_map change) (sym (get-entries m q))

  -- where no value is changed any more, all are changed
  pub updated_done : (change : V → V) (m : FinMap R V)
      → ((k : K) (v : V) → get m k ≡ Some v → change v ≡ v) → updated change m ≡ m
  updated_done change m done =
      same_map total exact (updated change m) m (λ q. get_updated change m q ∙ same q)
    where
      same : (q : K) → option_map change (get m q) ≡ get m q
      same q =
          elim (get m q) as (λ found. get m q ≡ found → option_map change found ≡ found) [
            | None ↦ λ is. refl
            | Some v ↦ λ is. ap (λ w. Some w) (done q v is)
          ] refl

  module _ (change : V → V) (again : (v : V) → change (change v) ≡ change v) where
    -- one value that is changed before the others makes no difference
    pub updated_step : (m : FinMap R V) (k : K) (v : V) → get m k ≡ Some v
        → updated change (insert m k (change v)) ≡ updated change m
    updated_step m k v there =
        same_map total exact (updated change (insert m k (change v))) (updated change m) (λ q.
        get_updated change (insert m k (change v)) q
        ∙ ap (option_map change) (get-insert total m k (change v) q)
        ∙ same q ∙ sym (get_updated change m q))
      where
        same : (q : K) → option_map change (cond (eq_by_cmp R q k) (Some (change v)) (get m q))
            ≡ option_map change (get m q)
        same q =
            elim (eq_by_cmp R q k) as (λ b. eq_by_cmp R q k ≡ b
            → option_map change (cond b (Some (change v)) (get m q))
            ≡ option_map change (get m q)) [
              | true ↦ λ is.
                  ap (λ w. Some w) (again v) ∙ ap (option_map change)
                  (sym (ap (get m) (tells_apart exact q k is) ∙ there))
              | false ↦ λ is. refl
            ] refl

    -- the value is changed: all that is passed with its key is done
    pub done_step : (at : Option K) (m : FinMap R V) (k : K) (v : V) (more : List (K × V))
        → above at m ≡ (k, v) ∷ more → DoneTo change at m
        → DoneTo change (Some k) (insert m k (change v))
    done_step at m k v more is done q u there behind =
        elim (eq_by_cmp R q k) as (λ b. cond b (Some (change v)) (get m q) ≡ Some u
        → eq_by_cmp R q k ≡ b → change u ≡ u) [
          | true ↦ λ now tie.
              let value : change v ≡ u = some_is (change v) u now in
              ap change (sym value) ∙ again v ∙ value
          | false ↦ λ now tie.
              elim (passed_with total exact at m k v more is q u now behind) [
                | inl same ↦ absurd (true≢false (sym ((eq_by_cmp_equiv total).refl k)
                    ∙ sym (ap (λ x. eq_by_cmp R x k) same) ∙ tie))
                | inr before ↦ done q u now before
              ]
        ] (sym (get-insert total m k (change v) q) ∙ there) refl

  -- before its first step a walk has passed nothing
  pub done_start : (change : V → V) (m : FinMap R V) → DoneTo change None m
  done_start change m k v there behind = absurd (true≢false behind)

  -- the value is already as the change leaves it, and is passed
  pub done_kept : (change : V → V) (at : Option K) (m : FinMap R V) (k : K) (v : V)
      (more : List (K × V)) → above at m ≡ (k, v) ∷ more → change v ≡ v → DoneTo change at m
      → DoneTo change (Some k) m
  done_kept change at m k v more is kept done q u there behind =
      elim (passed_with total exact at m k v more is q u there behind) [
        | inl same ↦
            let value : v ≡ u = some_is v u (sym (first_there total exact at m k v more is)
            ∙ ap (get m) (sym same) ∙ there) in
            ap change (sym value) ∙ kept ∙ value
        | inr before ↦ done q u there before
      ]

  -- where a walk has passed all, all values are done
  pub done_end : (change : V → V) (at : Option K) (m : FinMap R V) → above at m ≡ []
      → DoneTo change at m → (k : K) (v : V) → get m k ≡ Some v → change v ≡ v
  done_end change at m none done k v there =
      done k v there (all_passed total exact at m none k v there)

  -- so the map is what the change of all its values makes of it
  pub done_all : (change : V → V) (at : Option K) (m : FinMap R V) → above at m ≡ []
      → DoneTo change at m → updated change m ≡ m
  done_all change at m none done = updated_done change m (done_end change at m none done)
