-- What an index has of a map, and what becomes of it where an entry of the map is new or changed.
use Rattle.std.proofs.Common.{◌≡◌, List, [], ◌∷◌, map, Bool, true, false, cond}
use Rattle.std.proofs.Common.{Option, Some, None, refl, sym, ap, ◌∙◌, true≢false}
use Rattle.std.specs.Prelude.{T}
use Rattle.std.specs.FinMap.{FinMap, get, insert, remove, entries, entries_sorted, find, is_sorted}
use Rattle.std.specs.FinMap.{get-entries, get-from_entries, get-insert, get-remove, same_map}
use Rattle.std.specs.Option.{option_map}
use Rattle.std.specs.Ordering.{eq_by_cmp}
use Rattle.std.specs.declared.cmp.Ordering.{Ordering}
use Rattle.std.proofs.lemmas.Cmp.{eq_by_cmp_equiv}
use Rattle.std.proofs.lemmas.Map.Views.{tells_apart}
use Rattle.tree_rows.specs.Indexes.{IsIndexKey, IsKeyOf, index_of, index_answer, indexed_by}
use Rattle.tree_rows.proofs.Maps.{first, second, not_none}
use Rattle.tree_rows.proofs.Taking.{find_above}

-- where a test is passed only where there is nothing, to leave nothing there changes nothing
none_stays : {A : Type 0} (b : Bool) (x : Option A) → (b ≡ true → x ≡ None) → cond b None x ≡ x
none_stays true x none = sym (none refl)
none_stays false x none = refl

-- and where it is passed only where there is this, to leave this there changes nothing
one_stays : {A : Type 0} (b : Bool) (x y : Option A) → (b ≡ true → y ≡ x)
    → cond b x (cond b None y) ≡ y
one_stays true x y one = sym (one refl)
one_stays false x y one = refl

-- what is put where a test is passed hides what was there only where it is passed
one_hides : {A : Type 0} (b there : Bool) (x : A)
    → cond b (Some x) None ≡ cond b (Some x) (cond there (cond b (Some x) None) None)
one_hides true there x = refl
one_hides false true x = refl
one_hides false false x = refl

-- and to take it leaves nothing
none_hides : {A : Type 0} (b there : Bool) (x : A)
    → None ≡ cond b None (cond there (cond b (Some x) None) None)
none_hides true there x = refl
none_hides false true x = refl
none_hides false false x = refl

-- of what is there only where a test is passed, nothing is left once that is removed
pub none_left : {A : Type 0} (b : Bool) (x : A) → cond b None (cond b (Some x) None) ≡ None
none_left true x = refl
none_left false x = refl

module _ {K V Q : Type 0} {R : K → K → Ordering} {P : Q → Q → Ordering} {key : K × V → Q}
    {name : Q → K} (index : IsIndexKey R P key name)
  where
    -- an index key in the place of an entry's names the entry's key
    names_entry : (e : K × V) (q : Q) → eq_by_cmp P q (key e) ≡ true → name q ≡ e.0
    names_entry e q here = ap name (tells_apart index.index_exact q (key e) here) ∙ index.named e

    -- so one that names another key is in another place
    apart : (e : K × V) (q : Q) → eq_by_cmp R (name q) e.0 ≡ false
        → eq_by_cmp P q (key e) ≡ false
    apart e q other =
        elim (eq_by_cmp P q (key e)) as (λ b. eq_by_cmp P q (key e) ≡ b → b ≡ false) [
          | true ↦ λ here. absurd (true≢false (sym ((eq_by_cmp_equiv index.total).refl e.0)
              ∙ ap (λ k. eq_by_cmp R k e.0) (sym (names_entry e q here)) ∙ other))
          | false ↦ λ here. refl
        ] refl

    -- what is found of the keys that are made of sorted entries
    pub found_indexed : (q : Q) (es : List (K × V)) → T (is_sorted R es)
        → find P q (map (indexed_by key) es)
        ≡ index_answer P key (name q) q (find R (name q) es)
    found_indexed q [] sorted = refl
    found_indexed q (e ∷ es) sorted =
        let rest = found_indexed q es (second _ _ sorted) in
        elim (eq_by_cmp R (name q) e.0) as (λ b. eq_by_cmp R (name q) e.0 ≡ b
        → find P q (map (indexed_by key) (e ∷ es))
        ≡ index_answer P key (name q) q (cond b (Some e.1) (find R (name q) es))) [
          | true ↦ λ here.
              let same : name q ≡ e.0 = tells_apart index.exact (name q) e.0 here in
              let none : find P q (map (indexed_by key) es) ≡ None = rest
              ∙ ap (index_answer P key (name q) q) (ap (λ k. find R k es) same
              ∙ find_above R e.0 es (first _ _ sorted)) in
              λ i. cond (eq_by_cmp P q (key (sym same i, e.1))) (Some tt) (none i)
          | false ↦ λ other.
              ap (λ b. cond b (Some tt) (find P q (map (indexed_by key) es))) (apart e q other)
              ∙ rest
        ] refl

    -- the index has a key where the map has an entry that it is made of
    pub indexed : (m : FinMap R V) (q : Q)
        → get (index_of {P = P} key m) q ≡ index_answer P key (name q) q (get m (name q))
    unfolding index_of
    indexed m q =
        get-from_entries index.index_total (map (indexed_by key) (entries m)) q
        ∙ found_indexed q (entries m) (entries_sorted m)
        ∙ ap (index_answer P key (name q) q) (sym (get-entries m (name q)))

    -- where the map has no such key, the index has none that names it
    none_named : (m : FinMap R V) (k : K) (q : Q) → get m k ≡ None
        → eq_by_cmp R (name q) k ≡ true → get (index_of {P = P} key m) q ≡ None
    none_named m k q none here =
        indexed m q ∙ ap (index_answer P key (name q) q)
        (ap (get m) (tells_apart index.exact (name q) k here) ∙ none)

    -- where the map has it, the index has the key that is made of the entry and no other
    one_named : (m : FinMap R V) (k : K) (v : V) (q : Q) → get m k ≡ Some v
        → eq_by_cmp R (name q) k ≡ true
        → get (index_of {P = P} key m) q ≡ cond (eq_by_cmp P q (key (k, v))) (Some tt) None
    one_named m k v q some here =
        let same : name q ≡ k = tells_apart index.exact (name q) k here in
        indexed m q ∙ ap (index_answer P key (name q) q) (ap (get m) same ∙ some)
        ∙ ap (λ x. cond (eq_by_cmp P q (key (x, v))) (Some tt) None) same

    -- the key that is made of an entry names the entry's key
    names_itself : (k : K) (v : V) → eq_by_cmp R (name (key (k, v))) k ≡ true
    names_itself k v =
        ap (λ x. eq_by_cmp R x k) (index.named (k, v)) ∙ (eq_by_cmp_equiv index.total).refl k

    -- what the index has at a key, where the map has a value put at one
    answer_put : (k : K) (v : V) (q : Q) (old : Option V)
        → index_answer P key (name q) q (cond (eq_by_cmp R (name q) k) (Some v) old)
        ≡ cond (eq_by_cmp P q (key (k, v))) (Some tt)
        (cond (eq_by_cmp R (name q) k) None (index_answer P key (name q) q old))
    answer_put k v q old =
        elim (eq_by_cmp R (name q) k) as (λ b. eq_by_cmp R (name q) k ≡ b
        → index_answer P key (name q) q (cond b (Some v) old)
        ≡ cond (eq_by_cmp P q (key (k, v))) (Some tt)
        (cond b None (index_answer P key (name q) q old))) [
          | true ↦ λ here. ap (λ x. cond (eq_by_cmp P q (key (x, v))) (Some tt) None)
              (tells_apart index.exact (name q) k here)
          | false ↦ λ other. sym (ap (λ b. cond b (Some tt) (index_answer P key (name q) q old))
              (apart (k, v) q other))
        ] refl

    -- after a value is put, the index has the key of the new entry, and of the keys that name the
    -- same key no other
    indexed_put : (m : FinMap R V) (k : K) (v : V) (q : Q)
        → get (index_of {P = P} key (insert m k v)) q
        ≡ cond (eq_by_cmp P q (key (k, v))) (Some tt)
        (cond (eq_by_cmp R (name q) k) None (get (index_of {P = P} key m) q))
    indexed_put m k v q =
        indexed (insert m k v) q
        ∙ ap (index_answer P key (name q) q) (get-insert index.total m k v (name q))
        ∙ answer_put k v q (get m (name q))
        ∙ ap (λ a. cond (eq_by_cmp P q (key (k, v))) (Some tt)
        (cond (eq_by_cmp R (name q) k) None a)) (sym (indexed m q))

    -- an entry with a new key has a new index key, and it joins the others
    pub index_new : (m : FinMap R V) (k : K) (v : V) → get m k ≡ None
        → (get (index_of {P = P} key m) (key (k, v)) ≡ None)
        × (index_of {P = P} key (insert m k v) ≡ insert (index_of key m) (key (k, v)) tt)
    index_new m k v none = (
      none_named m k (key (k, v)) none (names_itself k v),
      same_map index.index_total index.index_exact (index_of key (insert m k v))
          (insert (index_of key m) (key (k, v)) tt) (λ q. indexed_put m k v q
          ∙ ap (cond (eq_by_cmp P q (key (k, v))) (Some tt))
          (none_stays (eq_by_cmp R (name q) k) (get (index_of key m) q) (none_named m k q none))
          ∙ sym (get-insert index.index_total (index_of key m) (key (k, v)) tt q)),
    )

    -- the key that is made of an entry is in the index
    pub index_has : (m : FinMap R V) (k : K) (v : V) → get m k ≡ Some v
        → get (index_of {P = P} key m) (key (k, v)) ≡ Some tt
    index_has m k v some =
        one_named m k v (key (k, v)) some (names_itself k v)
        ∙ ap (λ b. cond b (Some tt) None) ((eq_by_cmp_equiv index.index_total).refl (key (k, v)))

    -- to take all that names a key is to take the key of its entry
    one_goes : (m : FinMap R V) (k : K) (v : V) (q : Q) → get m k ≡ Some v
        → cond (eq_by_cmp R (name q) k) None (get (index_of {P = P} key m) q)
        ≡ cond (eq_by_cmp P q (key (k, v))) None (get (index_of {P = P} key m) q)
    one_goes m k v q some =
        let had : Option (Unit {0}) = get (index_of {P = P} key m) q in
        elim (eq_by_cmp R (name q) k) as (λ b. eq_by_cmp R (name q) k ≡ b
        → cond b None had ≡ cond (eq_by_cmp P q (key (k, v))) None had) [
          | true ↦ λ here. sym (ap (cond (eq_by_cmp P q (key (k, v))) None)
              (one_named m k v q some here) ∙ none_left (eq_by_cmp P q (key (k, v))) tt)
          | false ↦ λ other. sym (ap (λ b. cond b None had) (apart (k, v) q other))
        ] refl

    -- where the value at a key is changed, the old entry's key goes, and the new one's comes
    pub index_changed : (m : FinMap R V) (k : K) (v w : V) → get m k ≡ Some v
        → index_of {P = P} key (insert m k w)
        ≡ insert (remove (index_of key m) (key (k, v))) (key (k, w)) tt
    index_changed m k v w some =
        same_map index.index_total index.index_exact (index_of key (insert m k w))
        (insert (remove (index_of key m) (key (k, v))) (key (k, w)) tt)
        (λ q. indexed_put m k w q ∙ ap (cond (eq_by_cmp P q (key (k, w))) (Some tt))
        (one_goes m k v q some
        ∙ sym (get-remove index.index_total (index_of key m) (key (k, v)) q))
        ∙ sym (get-insert index.index_total (remove (index_of key m) (key (k, v))) (key (k, w)) tt
        q))

    -- a key that is taken and put back changes nothing
    put_back : (places : FinMap P (Unit {0})) (x : Q) → get places x ≡ Some tt
        → insert (remove places x) x tt ≡ places
    put_back places x there =
        same_map index.index_total index.index_exact (insert (remove places x) x tt) places
        (λ q. get-insert index.index_total (remove places x) x tt q
        ∙ ap (cond (eq_by_cmp P q x) (Some tt)) (get-remove index.index_total places x q)
        ∙ one_stays (eq_by_cmp P q x) (Some tt) (get places q)
        (λ here. ap (get places) (tells_apart index.index_exact q x here) ∙ there))

    -- where the new entry has the key of the old one, the index stays
    pub index_same : (m : FinMap R V) (k : K) (v w : V) → get m k ≡ Some v
        → key (k, w) ≡ key (k, v) → index_of {P = P} key (insert m k w) ≡ index_of key m
    index_same m k v w some same =
        index_changed m k v w some
        ∙ ap (λ x. insert (remove (index_of key m) (key (k, v))) x tt) same
        ∙ put_back (index_of key m) (key (k, v)) (index_has m k v some)

    -- an answer of the index comes from a value of the map
    answered : (k : K) (q : Q) (had : Option V) → index_answer P key k q had ≡ Some tt
        → (v : V) × (had ≡ Some v) × (key (k, v) ≡ q)
    answered k q None some = absurd (not_none tt (sym some))
    answered k q (Some v) some =
        elim (eq_by_cmp P q (key (k, v))) as (λ b. eq_by_cmp P q (key (k, v)) ≡ b
        → cond b (Some (tt {0})) None ≡ Some (tt {0})
        → (u : V) × (Some v ≡ Some u) × (key (k, u) ≡ q)) [
          | true ↦ λ here _. (v, refl, sym (tells_apart index.index_exact q (key (k, v)) here))
          | false ↦ λ other none. absurd (not_none tt (sym none))
        ] refl some

    -- a key that the index has stands for an entry of the map
    pub index_names : (m : FinMap R V) (q : Q)
        → find P q (entries (index_of {P = P} key m)) ≡ Some tt → IsKeyOf key name m q
    index_names m q there =
        answered (name q) q (get m (name q))
        (sym (indexed m q) ∙ get-entries (index_of key m) q ∙ there)

    -- what the index has at a key, by the key that is made of what the map has
    key_answer : Q → Option Q → Option (Unit {0})
    key_answer q None = None
    key_answer q (Some x) = cond (eq_by_cmp P q x) (Some tt) None

    answer_by_key : (q : Q) (had : Option V) → index_answer P key (name q) q had
        ≡ key_answer q (option_map (λ (v : V). key (name q, v)) had)
    unfolding key_answer
    answer_by_key q None = refl
    answer_by_key q (Some v) = refl

    -- maps of which the same keys are made have one index
    pub index_alike : (m n : FinMap R V)
        → ((k : K) → option_map (λ (v : V). key (k, v)) (get m k)
        ≡ option_map (λ (v : V). key (k, v)) (get n k))
        → index_of {P = P} key m ≡ index_of key n
    index_alike m n same =
        same_map index.index_total index.index_exact (index_of key m) (index_of key n) (λ q.
        indexed m q ∙ answer_by_key q (get m (name q)) ∙ ap (key_answer q) (same (name q))
        ∙ sym (indexed n q ∙ answer_by_key q (get n (name q))))

    -- A map has a value at a key, or has nothing there.
    module _ (m : FinMap R V) (k : K) (v : V) (there : Bool)
        (had : get m k ≡ cond there (Some v) None)
      where
        -- of the index keys that name the key, the index has at most the one that is made of the entry
        at_most_one : (q : Q) → eq_by_cmp R (name q) k ≡ true → get (index_of {P = P} key m) q
            ≡ cond there (cond (eq_by_cmp P q (key (k, v))) (Some tt) None) None
        at_most_one q here = by there had
          where
            by : (there : Bool) → get m k ≡ cond there (Some v) None
                → get (index_of {P = P} key m) q
                ≡ cond there (cond (eq_by_cmp P q (key (k, v))) (Some tt) None) None
            by true some = one_named m k v q some here
            by false none = none_named m k q none here

        -- where the value is put, the index has the key that is made of it
        pub index_put : index_of {P = P} key (insert m k v) ≡ insert (index_of key m) (key (k, v)) tt
        index_put =
            same_map index.index_total index.index_exact (index_of key (insert m k v))
            (insert (index_of key m) (key (k, v)) tt)
            (λ q. indexed_put m k v q ∙ by q (eq_by_cmp R (name q) k) refl
            ∙ sym (get-insert index.index_total (index_of key m) (key (k, v)) tt q))
          where
            by : (q : Q) (same : Bool) → eq_by_cmp R (name q) k ≡ same
                → cond (eq_by_cmp P q (key (k, v))) (Some tt)
                (cond (eq_by_cmp R (name q) k) None (get (index_of {P = P} key m) q))
                ≡ cond (eq_by_cmp P q (key (k, v))) (Some tt) (get (index_of {P = P} key m) q)
            by q true is =
                let here : Bool = eq_by_cmp P q (key (k, v)) in
                ap (λ b. cond here (Some tt) (cond b None (get (index_of {P = P} key m) q))) is
                ∙ one_hides here there tt
                ∙ ap (cond here (Some tt)) (sym (at_most_one q is))
            by q false is =
                ap (λ b. cond (eq_by_cmp P q (key (k, v))) (Some tt)
                (cond b None (get (index_of {P = P} key m) q))) is

        -- and where it is taken, the key goes
        pub index_taken : index_of {P = P} key (remove m k) ≡ remove (index_of key m) (key (k, v))
        index_taken =
            same_map index.index_total index.index_exact (index_of key (remove m k))
            (remove (index_of key m) (key (k, v)))
            (λ q. indexed (remove m k) q
            ∙ ap (index_answer P key (name q) q) (get-remove index.total m k (name q))
            ∙ by q (eq_by_cmp R (name q) k) refl
            ∙ sym (get-remove index.index_total (index_of key m) (key (k, v)) q))
          where
            by : (q : Q) (same : Bool) → eq_by_cmp R (name q) k ≡ same
                → index_answer P key (name q) q
                (cond (eq_by_cmp R (name q) k) None (get m (name q)))
                ≡ cond (eq_by_cmp P q (key (k, v))) None (get (index_of {P = P} key m) q)
            by q true is =
                let here : Bool = eq_by_cmp P q (key (k, v)) in
                ap (λ b. index_answer P key (name q) q (cond b None (get m (name q)))) is
                ∙ none_hides here there tt
                ∙ ap (cond here None) (sym (at_most_one q is))
            by q false is =
                ap (λ b. index_answer P key (name q) q (cond b None (get m (name q)))) is
                ∙ sym (indexed m q)
                ∙ sym (ap (λ b. cond b None (get (index_of {P = P} key m) q)) (apart (k, v) q is))
