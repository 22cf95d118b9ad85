-- The lines that are read: one for each record that is added or reversed.
use Rattle.std.proofs.Common.{◌≡◌, ℕ, ◌+◌, List, [], ◌∷◌, ◌++◌, refl, sym, ap, ◌∙◌, true, false}
use Rattle.std.proofs.Common.{Bool, ◌||◌, Option, Some, None, arith, sum_by, filter_map}
use Rattle.std.proofs.Common.{IsPermutation, int_cmp, is_eq, Ordering, Less, Equal, Greater}
use Rattle.book_model.proofs.Std.{list_any, cons_option, AllByRecursion, option_map_or, eq_by_cmp}
use Rattle.book_model.proofs.Std.{ordering_then, nat_list_cmp_total, list_any-append}
use Rattle.book_model.proofs.Std.{sum_by-IsPermutation, sum_by-append, sum_by-cons}
use Rattle.book_model.proofs.Std.{IsDistinct-from_sorted, exact_bytes}
use Rattle.book_model.specs.Words.{Priced, plus_first, by_line, lines_for, lines_of, Period}
use Rattle.book_model.specs.Words.{Records, Naming, name_of, by_bytes, Rulings, price_in, members}
use Rattle.book_model.specs.Words.{has, prices, total_of}
use Rattle.book_model.proofs.GivenLemmas.{given-apart}
use Rattle.book_model.proofs.Lemmas.{members_rise, apart_from_distinct, by_line_total, line_by}
use Rattle.book_model.proofs.Lemmas.{line_of, sum_by-filter_map, is}
use Rattle.book_model.proofs.PermutedSets.{Apart, members_permuted}
use Rattle.book_model.proofs.LineOrder.{name_ties}
use Rattle.report_texts.specs.AdjustmentLists.{charged_amount, reversed_amount}
use Rattle.book_laws.proofs.Words.{Line, plus_of, minus_of, both_lines}
use Rattle.std.specs.FinMap as map

-- lines with signs that do not tie do not tie
signs_differ : (a b c : Ordering) → c ≡ Less → is_eq (ordering_then a (ordering_then b c)) ≡ false
signs_differ Less b c less = refl
signs_differ Greater b c less = refl
signs_differ Equal Less c less = refl
signs_differ Equal Equal c less = ap is_eq less
signs_differ Equal Greater c less = refl

-- lines of one sign
abbrev Signed : Bool → List Line → Type 0
Signed plus lines = AllByRecursion (λ line. line.plus ≡ plus) lines

-- a plus line ties with no minus line
not_among : (line : Line) (lines : List Line) → line.plus ≡ true → Signed false lines
    → list_any (eq_by_cmp by_line line) lines ≡ false
not_among line [] plus minus = refl
not_among line (other ∷ lines) plus minus =
    let apart = signs_differ (int_cmp line.priced.day other.priced.day)
    (by_bytes line.name other.name) (plus_first line.plus other.plus)
    (λ i. plus_first (plus i) (minus.0 i)) in
    let rest = not_among line lines plus minus.1 in
    λ i. apart i || rest i

-- so if the plus lines are distinct and the minus lines are, all lines are distinct
both_apart : (xs ys : List Line) → Apart (eq_by_cmp by_line) xs → Apart (eq_by_cmp by_line) ys
    → Signed true xs → Signed false ys → Apart (eq_by_cmp by_line) (xs ++ ys)
both_apart [] ys first second plus minus = second
both_apart (x ∷ xs) ys first second plus minus =
    let other = not_among x ys plus.0 minus in (
      list_any-append (eq_by_cmp by_line x) xs ys ∙ (λ i. first.0 i || other i),
      both_apart xs ys first.1 second plus.1 minus,
    )

-- a sum of nothings is nothing
nothings : {X : Type 0} (xs : List X) → sum_by (λ _. 0) xs ≡ 0
nothings [] = refl
nothings {X} (x ∷ xs) =
    let all = sum_by-cons (λ (_ : X). 0) x xs in
    let rest = nothings xs in
    omega arith

module _ (naming : Naming) (rulings : Rulings) where
  -- it has its record's name
  its_name : (plus : Bool) (bytes : List ℕ) (price : Option Priced) (line : Line)
      → line_by naming rulings plus bytes price ≡ Some line → line.name ≡ name_of naming bytes
  its_name plus bytes None line is = cc
  its_name plus bytes (Some priced) line is =
      sym (ap (λ found. option_map_or (λ line. line.name) found (name_of naming bytes)) is)

  -- lines of one sign, each of another record, are distinct
  lines_apart : (plus : Bool) (records : Records)
      → ((a b : List ℕ) → has records a ≡ true → has records b ≡ true
      → name_of naming a ≡ name_of naming b → a ≡ b)
      → Apart (eq_by_cmp by_line) (lines_for naming rulings plus records)
  lines_apart plus records named =
      let ks : List (List ℕ) = members records in
      let give : List ℕ → Option Line = line_of naming rulings plus in
      given-apart (eq_by_cmp by_line) give ks (λ a b one two y z of_a of_b tied.
      named a b (map.contains_key-keys records a ∙ one) (map.contains_key-keys records b ∙ two)
      (sym (its_name plus a (price_in rulings a) y of_a)
      ∙ exact_bytes y.name z.name
      (name_ties (int_cmp y.priced.day z.priced.day) (by_bytes y.name z.name)
      (plus_first y.plus z.plus) tied)
      ∙ its_name plus b (price_in rulings b) z of_b))
      (apart_from_distinct is ks
      (IsDistinct-from_sorted by_bytes ks (members_rise nat_list_cmp_total records)))

  -- lines have the sign that they are read with
  signed : (plus : Bool) (ks : List (List ℕ))
      → Signed plus (filter_map (line_of naming rulings plus) ks)
  signed plus [] = tt
  signed plus (k ∷ ks) =
      let rest = signed plus ks in
      let others : List Line = filter_map (line_of naming rulings plus) ks in
      elim (price_in rulings k)
      as (λ price. Signed plus (cons_option (line_by naming rulings plus k price) others)) [
        | None ↦ rest
        | Some priced ↦ (refl, rest)
      ]

  -- they sum what the prices of their records do
  lines_sum : (f : Line → ℕ) (g : Priced → ℕ) (plus : Bool)
      → ((bytes : List ℕ) (priced : Priced)
      → option_map_or f (line_by naming rulings plus bytes (Some priced)) 0 ≡ g priced)
      → (records : Records)
      → sum_by f (lines_for naming rulings plus records) ≡ sum_by g (prices rulings records)
  lines_sum f g plus each records =
      let same : (bytes : List ℕ)
      → option_map_or f (line_of naming rulings plus bytes) 0
      ≡ option_map_or g (price_in rulings bytes) 0 =
      λ bytes.
      elim (price_in rulings bytes)
      as (λ price.
      option_map_or f (line_by naming rulings plus bytes price) 0 ≡ option_map_or g price 0) [
        | None ↦ refl
        | Some priced ↦ each bytes priced
      ] in
      sum_by-filter_map f (line_of naming rulings plus) (members records)
      ∙ (λ i. sum_by (λ bytes. same bytes i) (members records))
      ∙ sym (sum_by-filter_map g (price_in rulings) (members records))

  module _ (period : Period)
      (added_named : (a b : List ℕ) → has period.added a ≡ true → has period.added b ≡ true
      → name_of naming a ≡ name_of naming b → a ≡ b)
      (taken_named : (a b : List ℕ) → has period.taken a ≡ true → has period.taken b ≡ true
      → name_of naming a ≡ name_of naming b → a ≡ b) where
    -- each line is read once
    pub read_once : IsPermutation (lines_of naming rulings period)
        (both_lines naming rulings period)
    read_once =
        members_permuted by_line by_line_total (both_lines naming rulings period)
        (both_apart (lines_for naming rulings true period.added)
        (lines_for naming rulings false period.taken)
        (lines_apart true period.added added_named) (lines_apart false period.taken taken_named)
        (signed true (members period.added)) (signed false (members period.taken)))

    -- what is read sums what the lines of both signs do
    read_sum : (f : Line → ℕ)
        → sum_by f (lines_of naming rulings period)
        ≡ sum_by f (lines_for naming rulings true period.added)
        + sum_by f (lines_for naming rulings false period.taken)
    read_sum f =
        sym (sum_by-IsPermutation f (lines_of naming rulings period)
        (both_lines naming rulings period) read_once)
        ∙ sum_by-append f (lines_for naming rulings true period.added)
        (lines_for naming rulings false period.taken)

    -- the plus lines charge what the added records cost
    pub plus_cost : plus_of (lines_of naming rulings period) ≡ total_of rulings period.added
    plus_cost =
        let added = lines_sum charged_amount (λ priced. priced.amount) true
        (λ bytes priced. refl) period.added in
        let none = lines_sum charged_amount (λ priced. 0) false (λ bytes priced. refl) period.taken
        ∙ nothings (prices rulings period.taken) in
        read_sum charged_amount ∙ (λ i. added i + none i) ∙ omega arith

    -- the minus lines reverse what the reversed records cost
    pub minus_cost : minus_of (lines_of naming rulings period) ≡ total_of rulings period.taken
    minus_cost =
        let none = lines_sum reversed_amount (λ priced. 0) true (λ bytes priced. refl) period.added
        ∙ nothings (prices rulings period.added) in
        let taken = lines_sum reversed_amount (λ priced. priced.amount) false
        (λ bytes priced. refl) period.taken in
        read_sum reversed_amount ∙ (λ i. none i + taken i) ∙ omega arith
