-- Records that are held, by name, with the entries by which they came: which is found from a name on.
use Rattle.std.proofs.Common.{◌≡◌, ◌∙◌, ◌||◌, ℕ, List, [], ◌∷◌, ◌++◌, map, find, Bool, true, false}
use Rattle.std.proofs.Common.{cond, Some, true≢false, refl, sym, ap, subst, option_map, map-id}
use Rattle.std.proofs.Math.Bool.{or-true}
use Rattle.book_model.proofs.Std.{IsStrictlySortedBy, exact_bytes, list_any, map-map}
use Rattle.book_model.proofs.Std.{nat_list_cmp_total, tells_apart}
use Rattle.book_model.proofs.FromLemmas.{find-map, walk_to}
use Rattle.book_model.proofs.Lemmas.{any_tied-members, is, is_itself, members_rise}
use Rattle.book_model.proofs.Lemmas.{same_bytes-by_cmp}
use Rattle.book_model.specs.declared.entry.Arrival.{Arrival}
use Rattle.book_model.specs.Words.{Book, Naming, Records, arrival_at, arrival_from, arrivals}
use Rattle.book_model.specs.Words.{by_bytes, is_from, members, name_of, names_of, record_named}
use Rattle.book_model.specs.Words.{same_bytes, set_of}
use Rattle.book_core.proofs.NamedLemmas.{same_texts}

-- texts are the same in either order,
pub swapped : (a b : List ℕ) → is a b ≡ same_bytes b a
swapped a b = by (is a b) (same_bytes b a) refl refl
  where
    by : (one other : Bool) → is a b ≡ one → same_bytes b a ≡ other → is a b ≡ same_bytes b a
    by true other tied is_other =
        let same = tells_apart exact_bytes a b tied in
        tied ∙ sym ((λ i. same_bytes-by_cmp i b a) ∙ ap (is b) same ∙ is_itself b)
    by false true apart tied =
        absurd (true≢false (sym (ap (is a) (same_texts b a tied) ∙ is_itself a) ∙ apart))
    by false false apart other = apart ∙ sym other

-- so a name is among those of some records where one of them has it
pub all_swapped : (naming : Naming) (name : List ℕ) (list : List (List ℕ))
    → list_any (is name) (map (name_of naming) list)
    ≡ list_any (λ other. same_bytes (name_of naming other) name) list
all_swapped naming name [] = refl
all_swapped naming name (first ∷ list) =
    λ i. swapped name (name_of naming first) i || all_swapped naming name list i

-- the name of a record that is found is among the names of all
named_among : (naming : Naming) (name bytes : List ℕ) (list : List (List ℕ))
    → find (λ other. same_bytes (name_of naming other) name) list ≡ Some bytes
    → list_any (is name) (map (name_of naming) list) ≡ true
named_among naming name bytes [] found = cc
named_among naming name bytes (first ∷ list) found =
    elim (same_bytes (name_of naming first) name) as (λ b.
    same_bytes (name_of naming first) name ≡ b
    → cond b (Some first) (find (λ other. same_bytes (name_of naming other) name) list) ≡ Some bytes
    → (is name (name_of naming first) || list_any (is name) (map (name_of naming) list)) ≡ true) [
      | true ↦ λ same found.
          ap (λ b. b || list_any (is name) (map (name_of naming) list))
          (ap (is name) (same_texts (name_of naming first) name same) ∙ is_itself name)
      | false ↦ λ differs found.
          ap (λ b. is name (name_of naming first) || b) (named_among naming name bytes list found)
          ∙ or-true (is name (name_of naming first))
    ] refl found

-- what is among some names has some before and some behind it
abbrev Stands : List ℕ → List (List ℕ) → Type 0
Stands name names =
    (front : List (List ℕ)) × (back : List (List ℕ)) × (names ≡ front ++ name ∷ back)

stands_in : (name : List ℕ) (names : List (List ℕ)) → list_any (is name) names ≡ true
    → Stands name names
stands_in name [] there = cc
stands_in name (first ∷ more) there = by (is name first) (stands_in name more) refl
  where
    by : (same : Bool) → (list_any (is name) more ≡ true → Stands name more)
        → is name first ≡ same → Stands name (first ∷ more)
    by true later same =
        ([], more, ap (λ one. one ∷ more) (sym (tells_apart exact_bytes name first same)))
    by false later differs =
        let rest = later (sym (ap (λ b. b || list_any (is name) more) differs) ∙ there) in
        (first ∷ rest.0, rest.1, ap (λ others. first ∷ others) rest.2)

-- so it is found from itself on, where they rise
found_there : (name : List ℕ) (names : List (List ℕ)) → IsStrictlySortedBy by_bytes names
    → list_any (is name) names ≡ true → find (is_from name) names ≡ Some name
found_there name names rise there =
    let parts = stands_in name names there in
    let all = parts.0 ++ name ∷ parts.1 in
    ap (find (is_from name)) parts.2
    ∙ walk_to (λ (bytes : List ℕ). bytes) name parts.0 parts.1
    (subst (IsStrictlySortedBy by_bytes) (parts.2 ∙ sym (map-id all)) rise)

-- the names of the records of a set rise
names_rise : (naming : Naming) (held : Records)
    → IsStrictlySortedBy by_bytes (names_of naming held)
names_rise naming held =
    members_rise nat_list_cmp_total (set_of by_bytes (map (name_of naming) (members held)))

-- From its name on a record that is held is found first.
pub arrival_named : (naming : Naming) (book : Book) (name bytes : List ℕ)
    → record_named naming book.held name ≡ Some bytes
    → arrival_from name (arrivals naming book) ≡ Some (arrival_at naming book name)
arrival_named naming book name bytes found =
    let names = names_of naming book.held in
    let there = any_tied-members nat_list_cmp_total (map (name_of naming) (members book.held)) name
    ∙ named_among naming name bytes (members book.held) found in
    find-map (arrival_at naming book) (λ (arrival : Arrival). is_from name arrival.name) names
    ∙ ap (option_map (arrival_at naming book))
    (found_there name names (names_rise naming book.held) there)

-- The names of all of them rise.
pub arrivals_rise : (naming : Naming) (book : Book)
    → IsStrictlySortedBy by_bytes
    (map (λ (arrival : Arrival). arrival.name) (arrivals naming book))
arrivals_rise naming book =
    let names = names_of naming book.held in
    subst (IsStrictlySortedBy by_bytes)
    (sym (map-map (λ (arrival : Arrival). arrival.name) (arrival_at naming book) names
    ∙ map-id names))
    (names_rise naming book.held)
