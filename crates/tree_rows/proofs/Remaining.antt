-- What is still to come in a walk by key, after a step that passes its row.
use Rattle.std.proofs.Common.{◌≡◌, List, ◌∷◌, Bool, true, false, cond, Option, Some, None}
use Rattle.std.proofs.Common.{refl, sym, ap, subst, ◌∙◌, true≢false}
use Rattle.std.specs.Prelude.{T}
use Rattle.std.specs.Cmp.{IsTotalOrder}
use Rattle.std.specs.FinMap.{FinMap, IsAntisymmetric, get, find, is_sorted}
use Rattle.std.specs.FinMap.Entries.{same_entries}
use Rattle.std.specs.Ordering.{is_lt, is_eq, ordering_reverse}
use Rattle.std.specs.declared.cmp.Ordering.{Ordering}
use Rattle.std.specs.declared.cmp.Ordering.TheVariants.{Less, Equal, Greater}
use Rattle.tree_rows.specs.Changes.{is_above, above}
use Rattle.tree_rows.proofs.Maps.{find_below, first, second}
use Rattle.tree_rows.proofs.Passing.{above_sorted, find_come, find_front, passed}
use Rattle.tree_rows.proofs.Taking.{find_above}

-- a comparison that passes the test is less
pub is_less : (o : Ordering) → is_lt o ≡ true → o ≡ Less
is_less Less is = refl
is_less Equal is = absurd (true≢false (sym is))
is_less Greater is = absurd (true≢false (sym is))

module _ {K V : Type 0} {R : K → K → Ordering} (total : IsTotalOrder R)
    (exact : IsAntisymmetric R) where
  -- entries in order are those above a key where they have what the map has there
  above_is : (k : K) (m : FinMap R V) (es : List (K × V)) → T (is_sorted R es)
      → ((q : K) → find R q es ≡ cond (is_lt (R k q)) (get m q) None) → above (Some k) m ≡ es
  above_is k m es up same =
      same_entries R total exact (above (Some k) m) es (above_sorted total exact (Some k) m) up
      (λ q. find_come total exact (Some k) m q ∙ sym (same q))

  -- a walk that has come to the entry (k, v), with more after it
  module _ (at : Option K) (m : FinMap R V) (k : K) (v : V) (more : List (K × V))
      (is : above at m ≡ (k, v) ∷ more) where
    -- the entry and those after it are in the order of their keys
    rising : T (is_sorted R ((k, v) ∷ more))
    rising = subst (λ es. T (is_sorted R es)) is (above_sorted total exact at m)

    -- it is above what was passed before
    come : is_above R at k ≡ true
    come =
        (passed (is_above R at k) (get m k) v
        (sym (find_come total exact at m k) ∙ ap (find R k) is
        ∙ find_front total exact k v more)).0

    -- and so is what is above it
    still : (at : Option K) (q : K) → is_above R at k ≡ true → R k q ≡ Less
        → is_above R at q ≡ true
    still None q at_k o = refl
    still (Some x) q at_k o = ap is_lt (total.trans x k q (is_less (R x k) at_k) o)

    -- what is found after it: what the map has above its key
    find_next : (q : K) → find R q more ≡ cond (is_lt (R k q)) (get m q) None
    find_next q =
        elim (R k q) as (λ o. R k q ≡ o → find R q more ≡ cond (is_lt o) (get m q) None) [
          | Less ↦ λ o.
              sym (ap (λ r. cond (is_eq r) (Some v) (find R q more))
              (total.antisymm q k ∙ ap ordering_reverse o))
              ∙ sym (ap (find R q) is) ∙ find_come total exact at m q
              ∙ ap (λ b. cond b (get m q) None) (still at q come o)
          | Equal ↦ λ o.
              ap (λ x. find R x more) (sym (exact k q o))
              ∙ find_above R k more (first _ _ rising)
          | Greater ↦ λ o.
              find_below R total q k more (total.antisymm q k ∙ ap ordering_reverse o)
              (first _ _ rising)
        ] refl

    -- where it is passed unchanged, those after it are still to come
    pub above_next : above (Some k) m ≡ more
    above_next = above_is k m more (second _ _ rising) find_next
