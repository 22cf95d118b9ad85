-- Two elements that do not tie are put into a list in either order.
use Rattle.std.proofs.Common.{◌≡◌, List, [], ◌∷◌, refl, sym, ap, ◌∙◌, false, true≢false, is_eq}
use Rattle.std.proofs.Common.{Ordering, Less, Equal, Greater}
use Rattle.std.specs.BTreeSet.{insert_key}
use Rattle.book_model.proofs.Std.{IsTotalOrder, match_ordering, ordering_reverse}

module _ {K : Type 0} {R : K → K → Ordering} (o : IsTotalOrder R) where
  -- an element in its place, by how it compares with the first
  abbrev placed : Ordering → K → K → List K → List K
  placed r k x xs = match_ordering r (k ∷ x ∷ xs) (x ∷ xs) (x ∷ insert_key R xs k)

  -- how they compare, the other way round
  reversed : (a b : K) (r : Ordering) → R a b ≡ r → R b a ≡ ordering_reverse r
  reversed a b r is = o.antisymm b a ∙ ap ordering_reverse is

  -- the lesser of two may be put in first or last
  pub lesser_first : (a b : K) → R a b ≡ Less → (xs : List K)
      → insert_key R (insert_key R xs a) b ≡ insert_key R (insert_key R xs b) a
  lesser_first a b less [] =
      ap (λ r. placed r b a []) (reversed a b Less less)
      ∙ sym (ap (λ r. placed r a b []) less)
  lesser_first a b less (x ∷ xs) =
      elim (R a x) as (λ r. R a x ≡ r
      → insert_key R (placed r a x xs) b ≡ insert_key R (insert_key R (x ∷ xs) b) a) [
        | Less ↦ λ a_less.
            ap (λ r. placed r b a (x ∷ xs)) (reversed a b Less less) ∙ below a_less
        | Equal ↦ λ tied.
            let above = o_above tied in
            ap (λ r. placed r b x xs) above
            ∙ sym (ap (λ r. insert_key R (placed r b x xs) a) above
            ∙ ap (λ r. placed r a x (insert_key R xs b)) tied)
        | Greater ↦ λ a_more.
            let above = more a_more in
            ap (λ r. placed r b x (insert_key R xs a)) above
            ∙ ap (λ ys. x ∷ ys) (lesser_first a b less xs)
            ∙ sym (ap (λ r. insert_key R (placed r b x xs) a) above
            ∙ ap (λ r. placed r a x (insert_key R xs b)) a_more)
      ] refl
    where
      -- the first comes after the lesser one
      below : R a x ≡ Less → a ∷ insert_key R (x ∷ xs) b ≡ insert_key R (insert_key R (x ∷ xs) b) a
      below a_less =
          elim (R b x) as (λ r. R b x ≡ r
          → a ∷ placed r b x xs ≡ insert_key R (placed r b x xs) a) [
            | Less ↦ λ e. sym (ap (λ r. placed r a b (x ∷ xs)) less)
            | Equal ↦ λ e. sym (ap (λ r. placed r a x xs) a_less)
            | Greater ↦ λ e. sym (ap (λ r. placed r a x (insert_key R xs b)) a_less)
          ] refl

      -- what ties with the lesser one is less than the other
      o_above : R a x ≡ Equal → R b x ≡ Greater
      o_above tied = reversed x b Less (sym (o.congr a x b tied) ∙ less)

      -- and so is what is less than the lesser one
      more : R a x ≡ Greater → R b x ≡ Greater
      more a_more = reversed x b Less (o.trans x a b (reversed a x Greater a_more) less)

  -- so two that do not tie may be put in in either order
  pub either_first : (a b : K) → is_eq (R a b) ≡ false → (xs : List K)
      → insert_key R (insert_key R xs a) b ≡ insert_key R (insert_key R xs b) a
  either_first a b apart xs =
      elim (R a b) as (λ r. R a b ≡ r → is_eq r ≡ false
      → insert_key R (insert_key R xs a) b ≡ insert_key R (insert_key R xs b) a) [
        | Less ↦ λ less apart. lesser_first a b less xs
        | Equal ↦ λ tied apart. absurd (true≢false apart)
        | Greater ↦ λ more apart. sym (lesser_first b a (reversed a b Greater more) xs)
      ] refl apart
