-- Details of sets of records, no two of which have one name: each record has one of them; those of
-- the records that pass a test; and one more in its place.
use Rattle.std.proofs.Common.{◌≡◌, ℕ, List, [], ◌∷◌, refl, sym, ap, ◌∙◌, subst, true, false, Bool}
use Rattle.std.proofs.Common.{cond, map, Option, Some, None, filter, filter_map, IsPermutation}
use Rattle.std.proofs.Common.{IsSorted, option_map, is_eq, nat_cmp, Ordering, Less, Equal, Greater}
use Rattle.std.specs.BTreeSet.{insert_key}
use Rattle.book_model.proofs.Std.{cons_option, list_any, IsDistinct, IsStrictlySortedBy}
use Rattle.book_model.proofs.Std.{option_map_or, eq_by_cmp, ordering_then, nat_list_cmp_total}
use Rattle.book_model.proofs.Std.{IsStrictlySortedBy-filter, IsPermutation-sym}
use Rattle.book_model.proofs.Std.{IsDistinct-from_sorted, exact_bytes}
use Rattle.book_model.specs.declared.detail.Detail.{Detail}
use Rattle.book_model.specs.Words.{Priced, by_detail, detail_by, detail_of, details_asked}
use Rattle.book_model.specs.Words.{details_for, Naming, Records, by_bytes, name_of, same_bytes}
use Rattle.book_model.specs.Words.{by_key, key_of, Rulings, price_in, has, members, set_of, those}
use Rattle.book_model.specs.Words.{with}
use Rattle.book_model.proofs.DetailOrder.{by_detail_total}
use Rattle.book_model.proofs.FilterLemmas.{filter-filter_map}
use Rattle.book_model.proofs.GivenLemmas.{given-apart}
use Rattle.book_model.proofs.LineOrder.{distinct_by_name}
use Rattle.book_model.proofs.PermutedSets.{apart_from_distinct, distinct_permuted, given_permuted}
use Rattle.book_model.proofs.PermutedSets.{insert_given, members_permuted, members_reordered}
use Rattle.book_model.proofs.PermutedSets.{rising_from_sorted, sorted_members}
use Rattle.book_model.proofs.RecordSets.{is}
use Rattle.book_model.proofs.SetLemmas.{members-those, members-with, members_rise}
use Rattle.std.specs.FinMap as finite

-- details that tie have one name
last_ties : (a b c : Ordering) → is_eq (ordering_then a (ordering_then b c)) ≡ true → c ≡ Equal
last_ties Less b c tied = cc
last_ties Greater b c tied = cc
last_ties Equal Less c tied = cc
last_ties Equal Greater c tied = cc
last_ties Equal Equal Less tied = cc
last_ties Equal Equal Equal tied = refl
last_ties Equal Equal Greater tied = cc

pub names_tie : (a b : Detail) → eq_by_cmp by_detail a b ≡ true → by_bytes a.name b.name ≡ Equal
names_tie a b tied =
    last_ties (by_key (key_of a.priced) (key_of b.priced)) (nat_cmp a.time b.time)
    (by_bytes a.name b.name) tied

-- so details of different names are distinct by their order,
pub distinct_details : (details : List Detail)
    → IsDistinct same_bytes (map (λ detail. detail.name) details)
    → IsDistinct (eq_by_cmp by_detail) details
distinct_details =
    distinct_by_name (λ (detail : Detail). detail.name) (eq_by_cmp by_detail) names_tie

-- and put in order they have the members of their set
pub sorted_details : (details sorted : List Detail)
    → IsDistinct same_bytes (map (λ detail. detail.name) details)
    → IsPermutation details sorted → IsSorted by_detail sorted
    → sorted ≡ members (set_of by_detail details)
sorted_details details sorted apart same in_order =
    let distinct = distinct_details details apart in
    sorted_members by_detail_total details sorted distinct same
    (rising_from_sorted by_detail_total sorted
    (distinct_permuted by_detail_total details sorted same distinct) in_order)

-- those of a list that pass a test, as results of a partial function
abbrev keep : {X : Type 0} → (X → Bool) → X → Option X
keep p x = cond (p x) (Some x) None

filter_is : {X : Type 0} (p : X → Bool) (xs : List X) → filter_map (keep p) xs ≡ filter p xs
filter_is p [] = refl
filter_is p (x ∷ xs) =
    let rest = filter_is p xs in
    elim (p x) as (λ b. cons_option (cond b (Some x) None) (filter_map (keep p) xs)
    ≡ cond b (x ∷ filter p xs) (filter p xs)) [
      | true ↦ ap (λ ys. x ∷ ys) rest
      | false ↦ rest
    ]

-- details rise,
pub details_rise : (naming : Naming) (rulings : Rulings) (records : Records)
    → IsStrictlySortedBy by_detail (details_for naming rulings records)
details_rise naming rulings records =
    members_rise by_detail_total
    (set_of by_detail (filter_map (detail_of naming rulings) (members records)))

-- and those of a centre too
pub asked_rise : (centre : Option (List ℕ)) (details : List Detail)
    → IsStrictlySortedBy by_detail details
    → IsStrictlySortedBy by_detail (details_asked centre details)
asked_rise None details rising = rising
asked_rise (Some centre) details rising =
    IsStrictlySortedBy-filter by_detail (λ detail. same_bytes detail.priced.centre centre) details
    rising

module _ (naming : Naming) (rulings : Rulings) where
  -- a detail has the name of its record
  its_name : (bytes : List ℕ) (price : Option Priced) (detail : Detail)
      → option_map (detail_by naming bytes) price ≡ Some detail
      → detail.name ≡ name_of naming bytes
  its_name bytes None detail is = cc
  its_name bytes (Some priced) detail is =
      sym (ap (λ found. option_map_or (λ (detail : Detail). detail.name) found
      (name_of naming bytes)) is)

  module _ (records : Records)
      (named : (a b : List ℕ) → has records a ≡ true → has records b ≡ true
      → name_of naming a ≡ name_of naming b → a ≡ b) where
    -- the details before they are put in order
    abbrev unsorted : List Detail
    unsorted = filter_map (detail_of naming rulings) (members records)

    abbrev sorted : List Detail
    sorted = details_for naming rulings records

    -- each record of a price has one detail
    pub read_once : IsPermutation sorted unsorted
    read_once =
        let ks : List (List ℕ) = members records in
        members_permuted by_detail by_detail_total unsorted
        (given-apart (eq_by_cmp by_detail) (detail_of naming rulings) ks
        (λ a b one two y z of_a of_b tied.
        named a b (finite.contains_key-keys records a ∙ one)
        (finite.contains_key-keys records b ∙ two)
        (sym (its_name a (price_in rulings a) y of_a)
        ∙ exact_bytes y.name z.name (names_tie y z tied)
        ∙ its_name b (price_in rulings b) z of_b))
        (apart_from_distinct is ks
        (IsDistinct-from_sorted by_bytes ks (members_rise nat_list_cmp_total records))))

    -- and they are distinct before they are put in order too
    pub unsorted_distinct : IsDistinct (eq_by_cmp by_detail) unsorted
    unsorted_distinct =
        distinct_permuted by_detail_total sorted unsorted read_once
        (IsDistinct-from_sorted by_detail sorted (details_rise naming rulings records))

    -- The details of those records that pass a test are those details that pass it.
    pub details_those : (p : List ℕ → Bool) (q : Detail → Bool)
        → ((bytes : List ℕ) (detail : Detail) → detail_of naming rulings bytes ≡ Some detail
        → q detail ≡ p bytes)
        → details_for naming rulings (those p records) ≡ filter q sorted
    details_those p q agree =
        let give : List ℕ → Option Detail = detail_of naming rulings in
        let ks : List (List ℕ) = members records in
        let of_those : filter_map give (members (those p records)) ≡ filter q unsorted =
        ap (filter_map give) (members-those nat_list_cmp_total exact_bytes p records)
        ∙ sym (filter-filter_map give q p agree ks) in
        let rising = details_rise naming rulings records in
        let rising_those = IsStrictlySortedBy-filter by_detail q sorted rising in
        let given = given_permuted by_detail (keep q) by_detail_total unsorted
        (apart_from_distinct (eq_by_cmp by_detail) unsorted unsorted_distinct) in
        let same : IsPermutation (filter q sorted) (filter q unsorted) =
        subst (λ xs. IsPermutation xs (filter q unsorted)) (filter_is q sorted)
        (subst (IsPermutation (filter_map (keep q) sorted)) (filter_is q unsorted) given) in
        let distinct_those = distinct_permuted by_detail_total (filter q sorted) (filter q unsorted)
        same (IsDistinct-from_sorted by_detail (filter q sorted) rising_those) in
        ap (λ details. members (set_of by_detail details)) of_those
        ∙ sym (sorted_members by_detail_total (filter q unsorted) (filter q sorted) distinct_those
        (IsPermutation-sym (filter q sorted) (filter q unsorted) same) rising_those)

  -- One more record has its detail in its place.
  pub detail_joins : (records : Records) (bytes : List ℕ) (detail : Detail)
      → ((a b : List ℕ) → has (with records bytes) a ≡ true → has (with records bytes) b ≡ true
      → name_of naming a ≡ name_of naming b → a ≡ b)
      → has records bytes ≡ false
      → detail_of naming rulings bytes ≡ Some detail
      → details_for naming rulings (with records bytes)
      ≡ insert_key by_detail (details_for naming rulings records) detail
  detail_joins records bytes detail apart new its =
      let give : List ℕ → Option Detail = detail_of naming rulings in
      let ks : List (List ℕ) = members records in
      let before : List Detail = filter_map give ks in
      let grown : List Detail = filter_map give (members (with records bytes)) in
      let fresh : list_any (eq_by_cmp by_bytes bytes) ks ≡ false =
      sym (finite.contains_key-keys records bytes) ∙ new in
      let placed : IsPermutation grown (filter_map give (bytes ∷ ks)) =
      subst (λ all. IsPermutation (filter_map give all) (filter_map give (bytes ∷ ks)))
      (sym (members-with nat_list_cmp_total records bytes))
      (insert_given by_bytes give bytes ks fresh) in
      let same : IsPermutation grown (detail ∷ before) =
      subst (IsPermutation grown) (ap (λ first. cons_option first before) its) placed in
      let all : List Detail = details_for naming rulings (with records bytes) in
      let rising = details_rise naming rulings (with records bytes) in
      let distinct = distinct_permuted by_detail_total all grown
      (read_once (with records bytes) apart)
      (IsDistinct-from_sorted by_detail all rising) in
      members_reordered by_detail_total grown (detail ∷ before) same
      (distinct_permuted by_detail_total grown (detail ∷ before) same distinct)
      ∙ members-with by_detail_total (set_of by_detail before) detail
