-- Books in a list, each under its name.
use Rattle.std.proofs.Common.{◌≡◌, ◌≢◌, ◌∙◌, ◌<◌, ◌+◌, Bool, true, false, cond, ℕ, List, [], ◌∷◌}
use Rattle.std.proofs.Common.{◌++◌, Option, Some, None, ap, refl, sym, get_or, length, take, drop}
use Rattle.std.proofs.Common.{slice_set, suc, string_bytes}
use Rattle.std.proofs.Math.Seq.{set-get_or, set_split}
use Rattle.std.proofs.lemmas.List.{get_or_default}
use Rattle.book_model.proofs.Std.{take_more, bytes_decides}
use Rattle.book_model.specs.Words.{same_bytes}
use Rattle.memory_books.specs.declared.places.Kept.{Kept}
use Rattle.memory_books.specs.Kept.{IsAt, Puts, books_at}

-- two names are one, by their bytes
same_name : (one name : List ℕ) → one ≡ name → same_bytes one name ≡ true
same_name one name = (bytes_decides one name).1

pub other_name : (is : Bool) (one name : List ℕ) → same_bytes one name ≡ is → (one ≢ name) → is ≡ false
other_name false one name so apart = refl
other_name true one name so apart = absurd (apart ((bytes_decides one name).0 so))

module _ {L : Type 0} where
  -- one that has the name, or those behind it
  by_name : (is : Bool) (one : L) (old new back : Option L) → (old ≡ None → new ≡ back)
      → cond is (Some one) old ≡ None → cond is (Some one) new ≡ back
  by_name true one old new back go none = cc none
  by_name false one old new back go none = go none

  -- behind books of other names
  at_later : (front back : List (Kept L)) (name : List ℕ) → books_at front name ≡ None
      → books_at (front ++ back) name ≡ books_at back name
  at_later [] back name none = refl
  at_later (one ∷ front) back name none =
      by_name (same_bytes (string_bytes one.name) name) one.books (books_at front name)
      (books_at (front ++ back) name) (books_at back name) (at_later front back name) none

  -- the first that has the name
  pub at_first : (front : List (Kept L)) (one : Kept L) (back : List (Kept L)) (name : List ℕ)
      → books_at front name ≡ None → string_bytes one.name ≡ name
      → books_at (front ++ one ∷ back) name ≡ Some one.books
  at_first front one back name none is =
      at_later front (one ∷ back) name none
      ∙ ap (λ is. cond is (Some one.books) (books_at back name)) (same_name (string_bytes one.name) name is)

  -- one that does not have it
  pub at_next : (front : List (Kept L)) (one : Kept L) (name : List ℕ)
      → books_at front name ≡ None → same_bytes (string_bytes one.name) name ≡ false
      → books_at (front ++ one ∷ []) name ≡ None
  at_next front one name none is =
      at_later front (one ∷ []) name none ∙ ap (λ is. cond is (Some one.books) None) is

  -- other books under the same name change nothing for other names
  pub at_other : (front : List (Kept L)) (one two : Kept L) (back : List (Kept L)) (name : List ℕ)
      → string_bytes one.name ≢ name → two.name ≡ one.name
      → books_at (front ++ two ∷ back) name ≡ books_at (front ++ one ∷ back) name
  at_other [] one two back name apart same =
      ap (λ is. cond is (Some two.books) (books_at back name)) (is_other two (λ is. apart (ap string_bytes (sym same) ∙ is)))
      ∙ sym (ap (λ is. cond is (Some one.books) (books_at back name)) (is_other one apart))
    where
      is_other : (it : Kept L) → string_bytes it.name ≢ name → same_bytes (string_bytes it.name) name ≡ false
      is_other it apart =
          other_name (same_bytes (string_bytes it.name) name) (string_bytes it.name) name refl apart
  at_other (first ∷ front) one two back name apart same =
      ap (cond (same_bytes (string_bytes first.name) name) (Some first.books))
      (at_other front one two back name apart same)

  -- books behind the others are found where nobody had their name
  pub at_end : (kept : List (Kept L)) (one : Kept L) (name : List ℕ) → books_at kept name ≡ None
      → string_bytes one.name ≡ name → books_at (kept ++ one ∷ []) name ≡ Some one.books
  at_end kept one name none is = at_first kept one [] name none is

  -- and change nothing for others
  pub at_end_other : (kept : List (Kept L)) (one : Kept L) (name : List ℕ)
      → string_bytes one.name ≢ name → books_at (kept ++ one ∷ []) name ≡ books_at kept name
  at_end_other [] one name apart =
      ap (λ is. cond is (Some one.books) None)
      (other_name (same_bytes (string_bytes one.name) name) (string_bytes one.name) name refl apart)
  at_end_other (first ∷ kept) one name apart =
      ap (cond (same_bytes (string_bytes first.name) name) (Some first.books))
      (at_end_other kept one name apart)

  -- a list, at an element of it
  split_at : (kept : List (Kept L)) (at : ℕ) (one : Kept L) → at < length kept
      → one ≡ get_or kept at one → kept ≡ take at kept ++ one ∷ drop (suc at) kept
  split_at kept at one small is =
      sym (set-get_or kept at one) ∙ ap (slice_set kept at) (sym is) ∙ set_split kept at one small

  -- the first that has the name was found
  pub place_found : (kept : List (Kept L)) (name : List ℕ) (at : ℕ) (one : Kept L) → at < length kept
      → books_at (take at kept) name ≡ None → one ≡ get_or kept at one → string_bytes one.name ≡ name
      → IsAt kept name at
  place_found kept name at one small none is named = record {
    small = small;
    before = none;
    named = λ other so. ap (λ it. string_bytes it.name)
        (so ∙ get_or_default kept at other one small ∙ sym is)
        ∙ named;
  }

  pub found_here : (kept : List (Kept L)) (name : List ℕ) (at : ℕ) (one : Kept L) → at < length kept
      → books_at (take at kept) name ≡ None → one ≡ get_or kept at one → string_bytes one.name ≡ name
      → books_at kept name ≡ Some one.books
  found_here kept name at one small none is named =
      ap (λ kept. books_at kept name) (split_at kept at one small is)
      ∙ at_first (take at kept) one (drop (suc at) kept) name none named

  -- one more that does not have it
  pub found_later : (kept : List (Kept L)) (name : List ℕ) (at : ℕ) (one : Kept L) → at < length kept
      → books_at (take at kept) name ≡ None → one ≡ get_or kept at one
      → same_bytes (string_bytes one.name) name ≡ false
      → books_at (take (at + 1) kept) name ≡ None
  found_later kept name at one small none is other =
      ap (λ kept. books_at kept name)
      (take_more kept at one small ∙ ap (λ one. take at kept ++ one ∷ []) (sym is))
      ∙ at_next (take at kept) one name none other

  -- others were put in the place of books
  pub put_here : (kept : List (Kept L)) (name : List ℕ) (at : ℕ) (one two : Kept L)
      → IsAt kept name at → one ≡ get_or kept at one → two.name ≡ one.name
      → Puts name one.books two.books kept (slice_set kept at two)
  put_here kept name at one two place is same =
      let front : List (Kept L) = take at kept in
      let back : List (Kept L) = drop (suc at) kept in
      let before : kept ≡ front ++ one ∷ back = split_at kept at one place.small is in
      let after : slice_set kept at two ≡ front ++ two ∷ back = set_split kept at two place.small in
      let named : string_bytes one.name ≡ name = place.named one is in
      record {
        was = found_here kept name at one place.small place.before is named;
        is = ap (λ kept. books_at kept name) after
            ∙ at_first front two back name place.before (ap string_bytes same ∙ named);
        others = λ other apart.
            ap (λ kept. books_at kept other) after
            ∙ at_other front one two back other (λ so. apart (sym so ∙ named)) same
            ∙ sym (ap (λ kept. books_at kept other) before);
      }
