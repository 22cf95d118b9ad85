-- All rows of a map are put under changed keys one at a time, while its keys are walked.
use Rattle.std.proofs.Common.{◌≡◌, ◌⊎◌, inl, inr, List, [], ◌∷◌, map, true, false, cond}
use Rattle.std.proofs.Common.{Option, Some, None, is_some, refl, sym, ap, ◌∙◌, true≢false}
use Rattle.std.specs.Prelude.{T}
use Rattle.std.specs.Cmp.{IsTotalOrder, tied_itself, both_ways}
use Rattle.std.specs.FinMap.{FinMap, IsAntisymmetric, get, insert, remove, entries, find}
use Rattle.std.specs.FinMap.{contains_key, entries_sorted, is_sorted}
use Rattle.std.specs.FinMap.{get-entries, get-insert, get-remove, get-from_entries, same_map}
use Rattle.std.specs.Ordering.{eq_by_cmp, is_eq}
use Rattle.std.specs.declared.cmp.Ordering.{Ordering}
use Rattle.std.proofs.lemmas.Cmp.{eq_by_cmp_equiv}
use Rattle.std.proofs.lemmas.Map.Views.{tells_apart}
use Rattle.tree_rows.specs.Changes.{moved, MovesApart}
use Rattle.tree_rows.proofs.Maps.{first, second, not_none}
use Rattle.tree_rows.proofs.Taking.{some_is, find_above}

-- where keys are equal they tie
tied : {K : Type 0} {R : K → K → Ordering} → IsTotalOrder R → (x y : K) → x ≡ y
    → eq_by_cmp R x y ≡ true
tied {R = R} total x y same = ap (eq_by_cmp R x) (sym same) ∙ (eq_by_cmp_equiv total).refl x

-- keys that are not equal do not tie
apart : {K : Type 0} {R : K → K → Ordering} → IsTotalOrder R → IsAntisymmetric R → (x y : K)
    → (x ≡ y → ⊥) → eq_by_cmp R x y ≡ false
apart {R = R} total exact x y differ =
    elim (eq_by_cmp R x y) as (λ b. eq_by_cmp R x y ≡ b → b ≡ false) [
      | true ↦ λ tie. absurd (differ (tells_apart exact x y tie))
      | false ↦ λ tie. refl
    ] refl

module _ {K V : Type 0} {R : K → K → Ordering} (total : IsTotalOrder R)
    (exact : IsAntisymmetric R) where
  -- an entry under its changed key
  abbrev rekeyed : (K → K) → K × V → K × V
  rekeyed change e = (change e.0, e.1)

  -- what is found twice is one value
  one_value : (m : FinMap R V) (k l : K) (v w : V) → get m k ≡ Some v → get m l ≡ Some w → k ≡ l
      → v ≡ w
  one_value m k l v w here there same =
      some_is v w (sym here ∙ ap (get m) same ∙ there)

  -- answers that are found alike are one
  same_answer : (a b : Option V) → ((w : V) → a ≡ Some w → b ≡ Some w)
      → ((w : V) → b ≡ Some w → a ≡ Some w) → a ≡ b
  same_answer None None to from = refl
  same_answer None (Some w) to from = from w refl
  same_answer (Some v) b to from = sym (to v refl)

  -- an entry after the first is found where no two have one key
  pub find_later : (k : K) (w : V) (e : K × V) (es : List (K × V)) → T (is_sorted R (e ∷ es))
      → find R k es ≡ Some w → find R k (e ∷ es) ≡ Some w
  find_later k w e es up there =
      ap (λ b. cond b (Some e.1) (find R k es)) (apart total exact k e.0 (λ same.
      not_none w (sym there ∙ ap (λ x. find R x es) same ∙ find_above R e.0 es (first _ _ up))))
      ∙ there

  -- what is found of entries under changed keys was found of them under a key of theirs
  found_from : (change : K → K) (q : K) (w : V) (es : List (K × V)) → T (is_sorted R es)
      → find R q (map (rekeyed change) es) ≡ Some w
      → (k : K) × (find R k es ≡ Some w) × (change k ≡ q)
  found_from change q w [] up there = absurd (not_none w (sym there))
  found_from change q w (e ∷ es) up there =
      elim (eq_by_cmp R q (change e.0)) as (λ b. eq_by_cmp R q (change e.0) ≡ b
      → cond b (Some e.1) (find R q (map (rekeyed change) es)) ≡ Some w
      → (k : K) × (find R k (e ∷ es) ≡ Some w) × (change k ≡ q)) [
        | true ↦ λ tie now. (
          e.0,
          ap (λ o. cond (is_eq o) (Some e.1) (find R e.0 es)) (tied_itself total e.0) ∙ now,
          sym (tells_apart exact q (change e.0) tie),
        )
        | false ↦ λ tie now.
            let it = found_from change q w es (second _ _ up) now in
            (it.0, find_later it.0 w e es up it.1, it.2)
      ] refl there

  -- what a map has under changed keys it has under a key of its own
  pub moved_from : (change : K → K) (m : FinMap R V) (q : K) (w : V)
      → get (moved change m) q ≡ Some w → (k : K) × (get m k ≡ Some w) × (change k ≡ q)
  moved_from change m q w there =
      let it = found_from change q w (entries m) (entries_sorted m)
      (sym (get-from_entries total (map (rekeyed change) (entries m)) q) ∙ there) in
      (it.0, get-entries m it.0 ∙ it.1, it.2)

  -- entries under changed keys: q finds there what s finds here, where q ties with the changed
  -- keys that s ties with
  find_changed : (change : K → K) (q s : K) (all es : List (K × V)) → T (is_sorted R es)
      → ((k : K) (v : V) → find R k es ≡ Some v → find R k all ≡ Some v)
      → ((k : K) (v : V) → find R k all ≡ Some v
      → eq_by_cmp R q (change k) ≡ eq_by_cmp R s k)
      → find R q (map (rekeyed change) es) ≡ find R s es
  find_changed change q s all [] up within ties = refl
  find_changed change q s all (e ∷ es) up within ties =
      let here = ties e.0 e.1 (within e.0 e.1
      (ap (λ o. cond (is_eq o) (Some e.1) (find R e.0 es)) (tied_itself total e.0))) in
      let later = find_changed change q s all es (second _ _ up)
      (λ k v there. within k v (find_later k v e es up there)) ties in
      λ i. cond (here i) (Some e.1) (later i)

  -- the same of maps
  get_changed : (change : K → K) (m : FinMap R V) (q s : K)
      → ((k : K) (v : V) → get m k ≡ Some v → eq_by_cmp R q (change k) ≡ eq_by_cmp R s k)
      → get (moved change m) q ≡ get m s
  get_changed change m q s ties =
      get-from_entries total (map (rekeyed change) (entries m)) q
      ∙ find_changed change q s (entries m) (entries m) (entries_sorted m) (λ k v there. there)
      (λ k v there. ties k v (get-entries m k ∙ there))
      ∙ sym (get-entries m s)

  -- each row is found under its changed key, where no two keys are changed to one
  pub get_moved : (change : K → K) (m : FinMap R V) → MovesApart change m
      → (k : K) (v : V) → get m k ≡ Some v → get (moved change m) (change k) ≡ Some v
  get_moved change m one k v there =
      get_changed change m (change k) k (λ x u found.
      both_ways (eq_by_cmp R (change k) (change x)) (eq_by_cmp R k x)
      (λ tie. tied total k x (one k x (ap is_some there) (ap is_some found)
      (tells_apart exact (change k) (change x) tie)))
      (λ tie. tied total (change k) (change x) (ap change (tells_apart exact k x tie))))
      ∙ there

  -- where no key is changed any more, all are changed
  pub moved_done : (change : K → K) (m : FinMap R V)
      → ((k : K) → contains_key m k ≡ true → change k ≡ k) → moved change m ≡ m
  moved_done change m done =
      same_map total exact (moved change m) m (λ q. get_changed change m q q (λ k v there.
      ap (eq_by_cmp R q) (done k (ap is_some there))))

  -- what a map has after a row is put under another key
  get_put : (m : FinMap R V) (k l : K) (v : V) (q : K)
      → get (insert (remove m k) l v) q
      ≡ cond (eq_by_cmp R q l) (Some v) (cond (eq_by_cmp R q k) None (get m q))
  get_put m k l v q =
      get-insert total (remove m k) l v q
      ∙ ap (cond (eq_by_cmp R q l) (Some v)) (get-remove total m k q)

  -- it is the row, or one that was there under another key
  put_from : (m : FinMap R V) (k l : K) (v : V) (q : K) (w : V)
      → get (insert (remove m k) l v) q ≡ Some w
      → ((q ≡ l) × (v ≡ w)) ⊎ ((q ≡ k → ⊥) × (get m q ≡ Some w))
  put_from m k l v q w there =
      elim (eq_by_cmp R q l) as (λ b. eq_by_cmp R q l ≡ b
      → cond b (Some v) (cond (eq_by_cmp R q k) None (get m q)) ≡ Some w
      → ((q ≡ l) × (v ≡ w)) ⊎ ((q ≡ k → ⊥) × (get m q ≡ Some w))) [
        | true ↦ λ tie now. inl (tells_apart exact q l tie, some_is v w now)
        | false ↦ λ tie now. inr (kept now)
      ] refl (sym (get_put m k l v q) ∙ there)
    where
      kept : cond (eq_by_cmp R q k) None (get m q) ≡ Some w → (q ≡ k → ⊥) × (get m q ≡ Some w)
      kept now =
          elim (eq_by_cmp R q k) as (λ b. eq_by_cmp R q k ≡ b → cond b None (get m q) ≡ Some w
          → (q ≡ k → ⊥) × (get m q ≡ Some w)) [
            | true ↦ λ tie is. absurd (not_none w (sym is))
            | false ↦ λ tie is. (λ same. true≢false (sym (tied total q k same) ∙ tie), is)
          ] refl now

  -- the row is there under its new key
  put_there : (m : FinMap R V) (k l : K) (v : V) → get (insert (remove m k) l v) l ≡ Some v
  put_there m k l v =
      get_put m k l v l
      ∙ ap (λ b. cond b (Some v) (cond (eq_by_cmp R l k) None (get m l))) (tied total l l refl)

  -- and each other row under its own
  put_kept : (m : FinMap R V) (k l : K) (v : V) (q : K) (w : V) → (q ≡ k → ⊥) → (q ≡ l → ⊥)
      → get m q ≡ Some w → get (insert (remove m k) l v) q ≡ Some w
  put_kept m k l v q w other new there =
      get_put m k l v q
      ∙ ap (λ b. cond b (Some v) (cond (eq_by_cmp R q k) None (get m q)))
      (apart total exact q l new)
      ∙ ap (λ b. cond b None (get m q)) (apart total exact q k other)
      ∙ there

  module _ (change : K → K) (m : FinMap R V) (k l : K) (v : V) (there : get m k ≡ Some v)
      (to : change k ≡ l) (stays : change l ≡ l) (free : get m l ≡ None)
      (one : MovesApart change m) where
    -- the map after the step
    abbrev after : FinMap R V
    after = insert (remove m k) l v

    -- what is put under a changed key was changed to it, and so were all others
    step_to : (q : K) (w : V) → get (moved change after) q ≡ Some w
        → get (moved change m) q ≡ Some w
    step_to q w found =
        let it = moved_from change after q w found in
        elim (put_from m k l v it.0 w it.1) [
          | inl new ↦
              ap (get (moved change m)) (sym it.2 ∙ ap change new.0 ∙ stays ∙ sym to)
              ∙ get_moved change m one k v there ∙ ap (λ u. Some u) new.1
          | inr old ↦
              ap (get (moved change m)) (sym it.2) ∙ get_moved change m one it.0 w old.1
        ]

    -- no two keys are changed to one after the step
    pub step_apart : MovesApart change (insert (remove m k) l v)
    step_apart x y has_x has_y same =
        elim (here x has_x) [
          | inl new ↦ elim (here y has_y) [
            | inl newer ↦ new ∙ sym newer
            | inr old ↦ absurd (old.0 (sym (one k y (ap is_some there) old.1
                (to ∙ sym (ap change new ∙ stays) ∙ same))))
          ]
          | inr old ↦ elim (here y has_y) [
            | inl new ↦ absurd (old.0 (one x k old.1 (ap is_some there)
                (same ∙ ap change new ∙ stays ∙ sym to)))
            | inr older ↦ one x y old.1 older.1 same
          ]
        ]
      where
        here : (x : K) → contains_key after x ≡ true
            → (x ≡ l) ⊎ ((x ≡ k → ⊥) × (contains_key m x ≡ true))
        here x has =
            elim (get after x) as (λ found. get after x ≡ found → is_some found ≡ true
            → (x ≡ l) ⊎ ((x ≡ k → ⊥) × (contains_key m x ≡ true))) [
              | None ↦ λ is no. absurd (true≢false (sym no))
              | Some w ↦ λ is yes. elim (put_from m k l v x w is) [
                | inl new ↦ inl new.0
                | inr old ↦ inr (old.0, ap is_some old.1)
              ]
            ] refl has

    -- what was changed to a key is changed to it after the step
    step_from : (q : K) (w : V) → get (moved change m) q ≡ Some w
        → get (moved change after) q ≡ Some w
    step_from q w found =
        let it = moved_from change m q w found in
        elim (eq_by_cmp R it.0 k) as (λ b. eq_by_cmp R it.0 k ≡ b
        → get (moved change after) q ≡ Some w) [
          | true ↦ λ tie.
              let same : it.0 ≡ k = tells_apart exact it.0 k tie in
              ap (get (moved change after)) (sym it.2 ∙ ap change same ∙ to ∙ sym stays)
              ∙ get_moved change after step_apart l v (put_there m k l v)
              ∙ ap (λ u. Some u) (one_value m k it.0 v w there it.1 (sym same))
          | false ↦ λ tie.
              ap (get (moved change after)) (sym it.2)
              ∙ get_moved change after step_apart it.0 w (put_kept m k l v it.0 w
              (λ same. true≢false (sym (tied total it.0 k same) ∙ tie))
              (λ same. not_none w (sym it.1 ∙ ap (get m) same ∙ free)) it.1)
        ] refl

    -- one row that is moved before the others makes no difference
    pub moved_step : moved change (insert (remove m k) l v) ≡ moved change m
    moved_step =
        same_map total exact (moved change after) (moved change m) (λ q.
        same_answer (get (moved change after) q) (get (moved change m) q) (step_to q)
        (step_from q))
