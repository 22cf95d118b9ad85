-- What a map of byte texts has after an entry was put into it.
use Rattle.std.proofs.Common.{◌≡◌, ◌∙◌, ℕ, Bool, true, false, cond, List, [], ◌∷◌}
use Rattle.std.proofs.Common.{Ordering, Less, Equal, Greater, Some, ap, refl, sym, true≢false}
use Rattle.std.specs.BTreeMap.{insert_entry}
use Rattle.std.specs.Cmp.{Equal-is, tied_itself, nat_cmp_total}
use Rattle.std.specs.Cmp.Lexicographic.{lists_total, slice_cmp}
use Rattle.std.specs.FinMap.{nat_cmp-IsAntisymmetric, slice_cmp-IsAntisymmetric}
use Rattle.std.specs.Map.{lookup}
use Rattle.std.specs.Ordering.{is_eq, match_ordering, nat_cmp}
use Rattle.table_model.proofs.HeldNames.{twice_found}

-- texts that compare equal are equal
exact : (a b : List ℕ) → is_eq (slice_cmp nat_cmp a b) ≡ true → a ≡ b
exact a b same =
    slice_cmp-IsAntisymmetric nat_cmp-IsAntisymmetric a b
    ((Equal-is (slice_cmp nat_cmp a b)).0 same)

-- of two tests that do not both hold, either may come first
swapped : {X : Type 0} (b a : Bool) → (b ≡ true → a ≡ true → ⊥) → (x y z : X)
    → cond b x (cond a y z) ≡ cond a y (cond b x z)
swapped true true never x y z = absurd (never refl refl)
swapped true false never x y z = refl
swapped false a never x y z = refl

module _ {K : Type 0} (items : K → List ℕ) where
  abbrev by_items : K → K → Ordering
  by_items one other = slice_cmp nat_cmp (items one) (items other)

  -- a key has the text
  abbrev is_of : List ℕ → K → Bool
  is_of text key = is_eq (slice_cmp nat_cmp text (items key))

  -- two keys that differ do not have one text
  apart : (text : List ℕ) (k e : K) → by_items k e ≡ Greater → is_of text k ≡ true
      → is_of text e ≡ true → ⊥
  apart text k e above one other =
      let same : items k ≡ items e = sym (exact text (items k) one) ∙ exact text (items e) other in
      true≢false (sym (sym (ap is_eq above)
      ∙ ap (λ bytes. is_eq (slice_cmp nat_cmp (items k) bytes)) (sym same)
      ∙ ap is_eq (tied_itself (lists_total nat_cmp_total) (items k))))

  -- the new value is stored under its text, and what was stored under another text stays
  pub lookup-insert_entry : {X : Type 0} (text : List ℕ) (k : K) (v : X) (es : List (K × X))
      → lookup (is_of text) (insert_entry by_items es k v)
      ≡ cond (is_of text k) (Some v) (lookup (is_of text) es)
  lookup-insert_entry text k v [] = refl
  lookup-insert_entry text k v (e ∷ es) =
      let rest = lookup (is_of text) es in
      elim (by_items k e.0) as (λ o. by_items k e.0 ≡ o
      → lookup (is_of text)
      (match_ordering o ((k, v) ∷ e ∷ es) ((e.0, v) ∷ es) (e ∷ insert_entry by_items es k v))
      ≡ cond (is_of text k) (Some v) (cond (is_of text e.0) (Some e.1) rest)) [
        | Less ↦ λ o. refl
        | Equal ↦ λ o.
            twice_found (is_of text e.0) (Some v) (Some e.1) rest
            ∙ ap (λ bytes. cond (is_eq (slice_cmp nat_cmp text bytes)) (Some v)
            (cond (is_of text e.0) (Some e.1) rest)) (sym (exact (items k) (items e.0) (ap is_eq o)))
        | Greater ↦ λ o.
            ap (cond (is_of text e.0) (Some e.1)) (lookup-insert_entry text k v es)
            ∙ swapped (is_of text e.0) (is_of text k) (λ b a. apart text k e.0 o a b)
            (Some e.1) (Some v) rest
      ] refl
