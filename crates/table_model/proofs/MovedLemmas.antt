-- Finite maps whose rows are all changed, or moved to other keys.
use Rattle.std.proofs.Common.{◌≡◌, List, [], ◌∷◌, map, refl, sym, ap, ◌∙◌, true, false, cond, ◌||◌}
use Rattle.std.proofs.Common.{◌&&◌, Option, Some, None, T, subst, option_and_then, option_map}
use Rattle.std.proofs.Common.{is_lt, Ordering}
use Rattle.std.specs.FinMap.{find, contains_key-keys}
use Rattle.std.specs.FinMap.Entries.{below_all}
use Rattle.std.proofs.Math.Bool.{or-true}
use Rattle.book_model.proofs.Std.{IsTotalOrder, FinMap, IsAntisymmetric, get, from_entries}
use Rattle.book_model.proofs.Std.{get-from_entries, get-entries, entries, entries_sorted}
use Rattle.book_model.proofs.Std.{contains_key, get-insert, insert, keys, same_map, is_sorted}
use Rattle.book_model.proofs.Std.{list_any, option_map_or, eq_by_cmp, eq_by_cmp_equiv, map-map}
use Rattle.book_model.proofs.Lemmas.{entries-sorted, by_tie}
use Rattle.book_model.proofs.MapLemmas.{from_entries-same}
use Rattle.table_model.specs.Words.{updated, moved}

module _ {N : Type 0} {R : N → N → Ordering} (o : IsTotalOrder R) (exact : IsAntisymmetric R)
    {V : Type 0} where
  -- Entries under changed keys: q finds there what its source, if it has one, finds here, where q
  -- ties with the changed keys that the source ties with.
  find-changed : (f : N → N) (q : N) (source : Option N) (es : List (N × V))
      → ((k : N) → list_any (eq_by_cmp R k) (map (λ (e : N × V). e.0) es) ≡ true
      → eq_by_cmp R q (f k) ≡ option_map_or (λ s. eq_by_cmp R s k) source false)
      → find R q (map {B = N × V} (λ (e : N × V). (f e.0, e.1)) es)
      ≡ option_and_then (λ s. find R s es) source
  find-changed f q None [] ties = refl
  find-changed f q (Some s) [] ties = refl
  find-changed f q source (e ∷ es) ties =
      let keys : List N = map (λ (e : N × V). e.0) es in
      let first =
      ties e.0 (ap (λ b. b || list_any (eq_by_cmp R e.0) keys) ((eq_by_cmp_equiv o).refl e.0)) in
      let rest =
      find-changed f q source es
      (λ k among. ties k (ap (λ b. eq_by_cmp R k e.0 || b) among ∙ or-true (eq_by_cmp R k e.0))) in
      (λ i. cond (first i) (Some e.1) (rest i)) ∙ by_source source
    where
      by_source : (source : Option N)
          → cond (option_map_or (λ s. eq_by_cmp R s e.0) source false) (Some e.1)
          (option_and_then (λ s. find R s es) source)
          ≡ option_and_then (λ s. find R s (e ∷ es)) source
      by_source None = refl
      by_source (Some s) = refl

  -- the same for maps
  pub get-moved : (f : N → N) (q : N) (source : Option N) (m : FinMap R V)
      → ((k : N) → contains_key m k ≡ true
      → eq_by_cmp R q (f k) ≡ option_map_or (λ s. eq_by_cmp R s k) source false)
      → get (moved f m) q ≡ option_and_then (get m) source
  get-moved f q source m ties =
      get-from_entries o (map {B = N × V} (λ (e : N × V). (f e.0, e.1)) (entries m)) q
      ∙ find-changed f q source (entries m) (λ k among. ties k (contains_key-keys m k ∙ among))
      ∙ (λ i. option_and_then (λ s. sym (get-entries m s) i) source)

  -- each row is found with its change
  find-updated : (g : V → V) (q : N) (es : List (N × V))
      → find R q (map {B = N × V} (λ (e : N × V). (e.0, g e.1)) es) ≡ option_map g (find R q es)
  find-updated g q [] = refl
  find-updated g q (e ∷ es) =
      elim (eq_by_cmp R q e.0) as
      (λ b. cond b (Some (g e.1)) (find R q (map {B = N × V} (λ (e : N × V). (e.0, g e.1)) es))
      ≡ option_map g (cond b (Some e.1) (find R q es))) [
        | true ↦ refl
        | false ↦ find-updated g q es
      ]

  -- so each value of a map is found with its change
  pub get-updated : (g : V → V) (m : FinMap R V) (q : N)
      → get (updated g m) q ≡ option_map g (get m q)
  get-updated g m q =
      get-from_entries o (map {B = N × V} (λ (e : N × V). (e.0, g e.1)) (entries m)) q
      ∙ find-updated g q (entries m) ∙ ap (option_map g) (sym (get-entries m q))

  -- the entries are in the same order,
  in_order : (g : V → V) (es : List (N × V))
      → is_sorted R (map {B = N × V} (λ (e : N × V). (e.0, g e.1)) es) ≡ is_sorted R es
  in_order g [] = refl
  in_order g (e ∷ es) = (λ i. below e.0 es i && in_order g es i)
    where
      below : (n : N) (es : List (N × V))
          → below_all R n (map {B = N × V} (λ (e : N × V). (e.0, g e.1)) es) ≡ below_all R n es
      below n [] = refl
      below n (e ∷ es) = ap (λ b. is_lt (R n e.0) && b) (below n es)

  -- so they are those of the map with their changes
  pub entries-updated : (g : V → V) (m : FinMap R V)
      → entries (updated g m) ≡ map {B = N × V} (λ (e : N × V). (e.0, g e.1)) (entries m)
  entries-updated g m =
      entries-sorted o exact (map {B = N × V} (λ (e : N × V). (e.0, g e.1)) (entries m))
      (subst T (sym (in_order g (entries m))) (entries_sorted m))

  -- a row that is put where one was that has the same change leaves all of them
  pub updated-insert : (g : V → V) (m : FinMap R V) (n : N) (was now : V) → get m n ≡ Some was
      → g was ≡ g now → updated g (insert m n now) ≡ updated g m
  updated-insert g m n was now there same =
      same_map o exact (updated g (insert m n now)) (updated g m) (λ q.
      get-updated g (insert m n now) q
      ∙ ap (option_map g) (get-insert o m n now q)
      ∙ by_tie o exact q n (λ t. option_map g (cond t (Some now) (get m q)))
      (λ t. option_map g (get m q))
      (λ is. ap (λ v. Some v) (sym same) ∙ sym (ap (option_map g) (ap (get m) is ∙ there)))
      (λ apart. refl)
      ∙ sym (get-updated g m q))

  -- and one that is put where one was leaves the keys
  pub keys-insert : (m : FinMap R V) (n : N) (was now : V) → get m n ≡ Some was
      → keys (insert m n now) ≡ keys m
  keys-insert m n was now there =
      sym (same (insert m n now)) ∙ ap keys (updated-insert (λ v. was) m n was now there refl)
      ∙ same m
    where
      same : (m : FinMap R V) → keys (updated (λ v. was) m) ≡ keys m
      same m = ap (map (λ (e : N × V). e.0)) (entries-updated (λ v. was) m)
          ∙ map-map {B = N × V} (λ (e : N × V). e.0) (λ (e : N × V). (e.0, was)) (entries m)

  -- to change each row of a map is to change each entry of the list that made it
  pub updated-from_entries : (g : V → V) (es : List (N × V))
      → updated g (from_entries {R = R} es)
      ≡ from_entries (map {B = N × V} (λ (e : N × V). (e.0, g e.1)) es)
  updated-from_entries g es =
      let m : FinMap R V = from_entries es in
      from_entries-same o exact (map {B = N × V} (λ (e : N × V). (e.0, g e.1)) (entries m))
      (map {B = N × V} (λ (e : N × V). (e.0, g e.1)) es) (λ q.
      find-updated g q (entries m)
      ∙ ap (option_map g) (sym (get-entries m q) ∙ get-from_entries o es q)
      ∙ sym (find-updated g q es))
