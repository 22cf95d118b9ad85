-- The record that is held under a name: it has the name. And records in the order by name.
use Rattle.std.proofs.Common.{◌≡◌, ◌∙◌, ◌||◌, ℕ, List, [], ◌∷◌, refl, sym, ap, Bool, true, cond}
use Rattle.std.proofs.Common.{false, Some, is_some, find, Ordering, Less, Equal, Greater}
use Rattle.book_model.proofs.Std.{list_any, exact_bytes, tells_apart, IsTotalOrder, ordering_then}
use Rattle.book_model.proofs.Std.{nat_list_cmp_total, then_total, on_total}
use Rattle.book_model.specs.Words.{Naming, Records, members, name_of, record_named, same_bytes}
use Rattle.book_model.specs.Words.{by_name, by_bytes}
use Rattle.book_model.proofs.Lemmas.{same_bytes-by_cmp}
use Rattle.std.specs.FinMap as finite

-- what is found in a list passes the test
find-passes : (p : List ℕ → Bool) (list : List (List ℕ)) (one : List ℕ) → find p list ≡ Some one
    → p one ≡ true
find-passes p [] one found = cc
find-passes p (first ∷ list) one found =
    elim (p first) as (λ b. p first ≡ b → cond b (Some first) (find p list) ≡ Some one
    → p one ≡ true) [
      | true ↦ λ passes found. let same : first ≡ one = cc in ap p (sym same) ∙ passes
      | false ↦ λ fails found. find-passes p list one found
    ] refl found

-- something is found where one of the list passes
is_some-find : (p : List ℕ → Bool) (list : List (List ℕ)) → is_some (find p list) ≡ list_any p list
is_some-find p [] = refl
is_some-find p (first ∷ list) =
    elim (p first)
    as (λ b. is_some (cond b (Some first) (find p list)) ≡ (b || list_any p list)) [
      | true ↦ refl
      | false ↦ is_some-find p list
    ]

-- texts with the same bytes are one
pub same_texts : (a b : List ℕ) → same_bytes a b ≡ true → a ≡ b
same_texts a b same = tells_apart exact_bytes a b (sym (λ i. same_bytes-by_cmp i a b) ∙ same)

-- the record that is held under a name has it
pub its_name : (naming : Naming) (held : Records) (name bytes : List ℕ)
    → record_named naming held name ≡ Some bytes → name_of naming bytes ≡ name
its_name naming held name bytes found =
    same_texts (name_of naming bytes) name
    (find-passes (λ other. same_bytes (name_of naming other) name) (members held) bytes found)

-- there is one where a record that is held has the name
pub is_some-named : (naming : Naming) (held : Records) (name : List ℕ)
    → is_some (record_named naming held name)
    ≡ list_any (λ other. same_bytes (name_of naming other) name) (members held)
is_some-named naming held name =
    is_some-find (λ other. same_bytes (name_of naming other) name) (members held)

-- the order by name is total
pub by_name_total : (naming : Naming) → IsTotalOrder (by_name naming)
by_name_total naming = then_total (on_total (name_of naming) nat_list_cmp_total) nat_list_cmp_total

-- of two answers in turn, the second
pub second_equal : (r s : Ordering) → ordering_then r s ≡ Equal → s ≡ Equal
second_equal Less s tied = cc
second_equal Equal s tied = tied
second_equal Greater s tied = cc

-- and the order by name keeps all records apart
pub by_name_exact : (naming : Naming) → finite.IsAntisymmetric (by_name naming)
by_name_exact naming a b tied =
    let by_names = by_bytes (name_of naming a) (name_of naming b) in
    exact_bytes a b (second_equal by_names (by_bytes a b) tied)
