-- What is read of the entries of a map, in an order of its own, is what is read of the list that
-- made the map.
use Rattle.std.proofs.Common.{◌≡◌, List, [], ◌∷◌, refl, sym, ap, ◌∙◌, true, false, true≢false, cond}
use Rattle.std.proofs.Common.{Option, Some, None, filter_map, is_eq, Ordering, Less, Equal, Greater}
use Rattle.std.specs.BTreeSet.{insert_key}
use Rattle.std.specs.FinMap.{find, entries-insert}
use Rattle.std.specs.FinMap.Entries.{put, by_order}
use Rattle.book_model.proofs.Std.{IsTotalOrder, FinMap, entries, empty, from_entries, get-entries}
use Rattle.book_model.proofs.Std.{get-from_entries, len-entries, len-empty, cons_option, eq_by_cmp}
use Rattle.book_model.proofs.Std.{eq_by_cmp_equiv}
use Rattle.book_model.specs.Words.{set_of, members}
use Rattle.book_model.proofs.FilterLemmas.{Apart, no_length}
use Rattle.book_model.proofs.InsertLemmas.{either_first}
use Rattle.book_model.proofs.SetLemmas.{members-with}

module _ {N V Y : Type 0} {R : N → N → Ordering} {S : Y → Y → Ordering} (o : IsTotalOrder R)
    (p : IsTotalOrder S) (give : N × V → Option Y)
    (tells : (a b : N × V) (y z : Y) → give a ≡ Some y → give b ≡ Some z
    → eq_by_cmp S y z ≡ true → a.0 ≡ b.0) where
  -- what is given, in its order
  abbrev ordered : List Y → List Y
  ordered ys = members (set_of S ys)

  -- what is given for one more, in its place
  abbrev joined : Option Y → List Y → List Y
  joined None ys = ys
  joined (Some y) ys = insert_key S ys y

  -- to put it at the head of a list is to put it in its place
  in_place : (given : Option Y) (ys : List Y)
      → ordered (cons_option given ys) ≡ joined given (ordered ys)
  in_place None ys = refl
  in_place (Some y) ys = members-with p (set_of S ys) y

  -- two that are given for different keys may be put in in either order
  either_joined : (a b : N × V) → eq_by_cmp R a.0 b.0 ≡ false → (ys : List Y)
      → joined (give a) (joined (give b) ys) ≡ joined (give b) (joined (give a) ys)
  either_joined a b apart ys =
      elim (give a) as (λ given. give a ≡ given
      → joined given (joined (give b) ys) ≡ joined (give b) (joined given ys)) [
        | None ↦ λ none. refl
        | Some y ↦ λ of_a. elim (give b) as (λ given. give b ≡ given
            → insert_key S (joined given ys) y ≡ joined given (insert_key S ys y)) [
              | None ↦ λ none. refl
              | Some z ↦ λ of_b. either_first p z y (differ y z of_a of_b) ys
            ] refl
      ] refl
    where
      differ : (y z : Y) → give a ≡ Some y → give b ≡ Some z → is_eq (S z y) ≡ false
      differ y z of_a of_b =
          elim (eq_by_cmp S z y) as (λ t. eq_by_cmp S z y ≡ t → t ≡ false) [
            | true ↦ λ tied.
                let same = tells b a z y of_b of_a tied in
                let itself = ap (eq_by_cmp R a.0) same ∙ (eq_by_cmp_equiv o).refl a.0 in
                absurd (true≢false (sym itself ∙ apart))
            | false ↦ λ e. refl
          ] refl

  -- one more entry, in its place or at the head
  read-put : (k : N) (v : V) (es : List (N × V)) → find R k es ≡ None
      → ordered (filter_map give (put R k v es)) ≡ ordered (filter_map give ((k, v) ∷ es))
  read-put k v [] none = refl
  read-put k v (e ∷ es) none =
      elim (R k e.0) as (λ r. R k e.0 ≡ r → cond (is_eq r) (Some e.1) (find R k es) ≡ None
      → ordered (filter_map give (by_order r ((k, v) ∷ e ∷ es) ((e.0, v) ∷ es) (e ∷ put R k v es)))
      ≡ ordered (filter_map give ((k, v) ∷ e ∷ es))) [
        | Less ↦ λ less none. refl
        | Equal ↦ λ tied none. absurd (something e.1 none)
        | Greater ↦ λ more none.
            let rest : List Y = filter_map give es in
            in_place (give e) (filter_map give (put R k v es))
            ∙ ap (joined (give e)) (read-put k v es none ∙ in_place (give (k, v)) rest)
            ∙ sym (either_joined (k, v) e (ap is_eq more) (ordered rest))
            ∙ ap (joined (give (k, v))) (sym (in_place (give e) rest))
            ∙ sym (in_place (give (k, v)) (cons_option (give e) rest))
      ] refl none
    where
      something : (v : V) → Some v ≡ None → ⊥
      something v none = cc

  -- the entries of a map, and the list that made it
  pub read-entries : (es : List (N × V)) → Apart R es
      → ordered (filter_map give (entries (from_entries {R = R} es)))
      ≡ ordered (filter_map give es)
  read-entries [] apart =
      ap (λ es. ordered (filter_map give es))
      (no_length (entries (empty {X = V} {R = R}))
      (sym (len-entries (empty {X = V} {R = R})) ∙ len-empty R V))
  read-entries (e ∷ es) apart =
      let m : FinMap R V = from_entries es in
      let new = sym (get-entries m e.0) ∙ get-from_entries o es e.0 ∙ apart.0 in
      ap (λ es. ordered (filter_map give es)) (entries-insert o m e.0 e.1)
      ∙ read-put e.0 e.1 (entries m) new
      ∙ in_place (give e) (filter_map give (entries m))
      ∙ ap (joined (give e)) (read-entries es apart.1)
      ∙ sym (in_place (give e) (filter_map give es))
