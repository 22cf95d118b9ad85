-- The order of lines, and lines of records.
use Rattle.std.proofs.Common.{◌≡◌, ℕ, List, [], ◌∷◌, refl, sym, ap, ◌∙◌, true, false, true≢false}
use Rattle.std.proofs.Common.{Bool, Option, map, IsPermutation, IsSorted, option_map, int_cmp}
use Rattle.std.proofs.Common.{is_eq, Ordering, Less, Equal, Greater}
use Rattle.std.specs.List.{IsDistinct}
use Rattle.std.specs.List.Sorted.{IsStrictlySortedBy}
use Rattle.std.proofs.lemmas.Map.Keys.{IsDistinct-IsPermutation}
use Rattle.book_model.proofs.Std.{IsTotalOrder, texts_ties, AllByRecursion, eq_by_cmp}
use Rattle.book_model.proofs.Std.{ordering_then, ordering_reverse, then_total, on_total}
use Rattle.book_model.proofs.Std.{nat_list_cmp_total, int_cmp_total, nat_list_eq_equiv}
use Rattle.book_model.proofs.Std.{IsPermutation-map}
use Rattle.book_model.specs.declared.line.Line.{Line}
use Rattle.book_model.specs.Words.{Priced, plus_first, by_line, line_with, Naming, name_of}
use Rattle.book_model.specs.Words.{by_bytes, same_bytes, Rulings, price_in, set_of, members}
use Rattle.book_model.proofs.PermutedSets.{rising_from_sorted, sorted_members}

-- the order of plus and minus is total
plus_total : IsTotalOrder plus_first
plus_total = record { antisymm = flips; trans = chains; congr = agrees }
  where
    flips : (a b : Bool) → plus_first a b ≡ ordering_reverse (plus_first b a)
    flips true true = refl
    flips true false = refl
    flips false true = refl
    flips false false = refl

    chains : (a b c : Bool) → plus_first a b ≡ Less → plus_first b c ≡ Less → plus_first a c ≡ Less
    chains true false c one two =
        elim c as (λ c. plus_first false c ≡ Less → plus_first true c ≡ Less) [
          | true ↦ λ two. cc
          | false ↦ λ two. refl
        ] two
    chains true true c one two = cc
    chains false true c one two = cc
    chains false false c one two = cc

    agrees : (a b c : Bool) → plus_first a b ≡ Equal → plus_first a c ≡ plus_first b c
    agrees true true c tied = refl
    agrees true false c tied = cc
    agrees false true c tied = cc
    agrees false false c tied = refl

-- lines by day, then name
abbrev pub by_day_and_name : Line → Line → Ordering
by_day_and_name a b = ordering_then (int_cmp a.priced.day b.priced.day) (by_bytes a.name b.name)

-- the order by day and name is total
by_day_and_name_total : IsTotalOrder by_day_and_name
by_day_and_name_total =
    then_total (on_total (λ (line : Line). line.priced.day) int_cmp_total)
    (on_total (λ (line : Line). line.name) nat_list_cmp_total)

-- the order of lines is total
pub by_line_total : IsTotalOrder by_line
by_line_total =
    let by_day = on_total (λ (line : Line). line.priced.day) int_cmp_total in
    let by_name = on_total (λ (line : Line). line.name) nat_list_cmp_total in
    let by_sign = on_total (λ (line : Line). line.plus) plus_total in
    then_total by_day (then_total by_name by_sign)

-- lines that tie have one name
pub name_ties : (a b c : Ordering) → is_eq (ordering_then a (ordering_then b c)) ≡ true → b ≡ Equal
name_ties Less b c tied = cc
name_ties Greater b c tied = cc
name_ties Equal Less c tied = cc
name_ties Equal Equal c tied = refl
name_ties Equal Greater c tied = cc

-- the same of lines that tie by day and name
name_ties_too : (a b : Ordering) → is_eq (ordering_then a b) ≡ true → b ≡ Equal
name_ties_too Less b tied = cc
name_ties_too Equal Less tied = cc
name_ties_too Equal Equal tied = refl
name_ties_too Equal Greater tied = cc
name_ties_too Greater b tied = cc

-- lines that rise by day and name rise
below_too : (a b c : Ordering) → ordering_then a b ≡ Less
    → ordering_then a (ordering_then b c) ≡ Less
below_too Less b c less = refl
below_too Equal Less c less = refl
below_too Equal Equal c less = cc
below_too Equal Greater c less = cc
below_too Greater b c less = cc

module _ {X : Type 0} (name : X → List ℕ) (tied : X → X → Bool)
    (same_name : (a b : X) → tied a b ≡ true → by_bytes (name a) (name b) ≡ Equal) where
  -- a test that only elements of one name pass fails where the names differ
  names_differ : (x : X) (xs : List X)
      → AllByRecursion (λ other. same_bytes (name x) other ≡ false) (map name xs)
      → AllByRecursion (λ other. tied x other ≡ false) xs
  names_differ x [] differ = tt
  names_differ x (other ∷ xs) differ =
      let rest = names_differ x xs differ.1 in
      let first = elim (tied x other) as (λ b. tied x other ≡ b → b ≡ false) [
        | true ↦ λ one.
            let same = texts_ties (name x) (name other)
            ∙ ap is_eq (same_name x other one) in
            absurd (true≢false (sym same ∙ differ.0))
        | false ↦ λ other. refl
      ] refl in (first, rest)

  -- so elements of different names are distinct by such a test
  pub distinct_by_name : (xs : List X) → IsDistinct same_bytes (map name xs) → IsDistinct tied xs
  unfolding IsDistinct
  distinct_by_name [] distinct = tt
  distinct_by_name (x ∷ xs) distinct =
      (names_differ x xs distinct.0, distinct_by_name xs distinct.1)

-- lines of different names are distinct by their order
pub distinct_lines : (lines : List Line) → IsDistinct same_bytes (map (λ line. line.name) lines)
    → IsDistinct (eq_by_cmp by_line) lines
distinct_lines =
    distinct_by_name (λ line. line.name) (eq_by_cmp by_line) (λ a b tied.
    name_ties (int_cmp a.priced.day b.priced.day) (by_bytes a.name b.name)
    (plus_first a.plus b.plus) tied)

-- lines that strictly rise by day and name strictly rise
rising_too : (lines : List Line) → IsStrictlySortedBy by_day_and_name lines
    → IsStrictlySortedBy by_line lines
unfolding IsStrictlySortedBy
rising_too [] rising = tt
rising_too (line ∷ lines) rising = (all_above lines rising.0, rising_too lines rising.1)
  where
    all_above : (others : List Line)
        → AllByRecursion (λ other. by_day_and_name line other ≡ Less) others
        → AllByRecursion (λ other. by_line line other ≡ Less) others
    all_above [] above = tt
    all_above (other ∷ others) above = (
      below_too (int_cmp line.priced.day other.priced.day) (by_bytes line.name other.name)
          (plus_first line.plus other.plus) above.0,
      all_above others above.1,
    )

-- lines of different names that are in order by day, then name, strictly rise
lines_rise : (lines : List Line) → IsDistinct same_bytes (map (λ line. line.name) lines)
    → IsSorted by_day_and_name lines → IsStrictlySortedBy by_line lines
lines_rise lines distinct in_order =
    rising_too lines
    (rising_from_sorted by_day_and_name_total lines
    (distinct_by_name (λ line. line.name) (eq_by_cmp by_day_and_name) (λ a b tied.
    name_ties_too (int_cmp a.priced.day b.priced.day) (by_bytes a.name b.name) tied)
    lines distinct) in_order)

-- so lines of different names, put in order by day, then name, have the members of their set
pub sorted_lines : (lines sorted : List Line)
    → IsDistinct same_bytes (map (λ line. line.name) lines)
    → IsPermutation lines sorted → IsSorted by_day_and_name sorted
    → sorted ≡ members (set_of by_line lines)
sorted_lines lines sorted distinct same in_order =
    let name : Line → List ℕ = λ line. line.name in
    let names =
    IsDistinct-IsPermutation same_bytes nat_list_eq_equiv.symm (map name lines) (map name sorted)
    (IsPermutation-map name lines sorted same) distinct in
    sorted_members by_line_total lines sorted (distinct_lines lines distinct) same
    (lines_rise sorted names in_order)

module _ (naming : Naming) (rulings : Rulings) where
  -- a line, where its record has a price
  abbrev pub line_by : Bool → List ℕ → Option Priced → Option Line
  line_by plus bytes price = option_map (line_with plus (name_of naming bytes) bytes) price

  -- the line of a record, if the record has a price
  abbrev pub line_of : Bool → List ℕ → Option Line
  line_of plus bytes = line_by plus bytes (price_in rulings bytes)
