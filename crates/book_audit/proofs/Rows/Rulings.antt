-- The rows of closes and of tariffs, one after the other.
use Rattle.std.proofs.Common.{◌≡◌, ◌∙◌, ◌++◌, ◌∷◌, [], ℕ, suc, List, Option, Some, None, map}
use Rattle.std.proofs.Common.{length, ap, arith, cond, false, not, refl, sym, true, ◌-◌, ℤ, ◌+◌}
use Rattle.std.proofs.Common.{◌<ℤ◌, MatchOption, int_lt, nat_lt, int_cmp, Less, Ok, IsUtf8}
use Rattle.std.specs.List.Sorted.{IsStrictlySortedBy}
use Rattle.sqlite_value.specs.Order.{Row}
use Rattle.book_model.proofs.Std.{AllByRecursion, last_or, option_map_or, nat_tests, ints}
use Rattle.book_model.proofs.Std.{map-append}
use Rattle.book_model.specs.Words.{AcceptedTerms, IsDay, Terms, terms_in}
use Rattle.table_model.specs.Words.{close_entries, tariff_entries, IsTexted}
use Rattle.table_model.proofs.CloseOrder.{earlier}
use Rattle.table_model.proofs.UnderNumbers.{one_more}
use Rattle.consistent_tables.specs.DueRows.{period_from}
use Rattle.tree_tables.specs.Columns.{closed_columns, tariff_columns}
use Rattle.book_audit.specs.Days.{is_closed}
use Rattle.book_audit.specs.Records.{later_periods}

-- one row more
pub closes_pushed : (days : List ℤ) (period : _) (day : ℤ) (row : Row)
    → row ≡ closed_columns (period, day) → period ≡ length days + 1
    → map closed_columns (close_entries 1 days) ++ row ∷ []
    ≡ map closed_columns (close_entries 1 (days ++ day ∷ []))
closes_pushed days period day row is next =
    ap (λ r. map closed_columns (close_entries 1 days) ++ r ∷ []) is
    ∙ sym (ap (map closed_columns) (one_more 1 days day period (omega (arith, next)))
    ∙ map-append closed_columns (close_entries 1 days) ((period, day) ∷ []))

-- a test that says that a day is later
pub is_later : (last : Option ℤ) (day : ℤ) → option_map_or (λ one. int_lt one day) last true ≡ true
    → MatchOption last (Unit {0}) (λ one. one <ℤ day)
is_later None day later = tt
is_later (Some one) day later = grind (arith, ints)

-- where a day is not after one close, it is not after the last of later ones
last_late : (through day : ℤ) (closes : List ℤ)
    → AllByRecursion (λ (later : ℤ). int_cmp through later ≡ Less) closes
    → IsStrictlySortedBy int_cmp closes → int_lt through day ≡ false
    → option_map_or (λ last. int_lt last day) (last_or (Some through) closes) true ≡ false
unfolding IsStrictlySortedBy
last_late through day [] above rising early = early
last_late through day (next ∷ closes) above rising early =
    let less = earlier through next above.0 in
    let its : int_lt next day ≡ false = grind (arith, ints) in
    last_late next day closes rising.0 rising.1 its

-- a day is closed where its period is before the open one
closed_before : (n : ℕ) (closes : List ℤ) (day : ℤ) → IsStrictlySortedBy int_cmp closes
    → is_closed closes day ≡ nat_lt (period_from n closes day) (n + length closes)
unfolding IsStrictlySortedBy
closed_before n [] day rising = grind (arith, nat_tests)
closed_before n (through ∷ closes) day rising =
    elim (int_lt through day) as (λ b. int_lt through day ≡ b
    → is_closed (through ∷ closes) day
    ≡ nat_lt (cond b (period_from (n + 1) closes day) n) (n + suc (length closes))) [
      | true ↦ λ late. by closes rising late ∙ closed_before (n + 1) closes day rising.1
          ∙ ap (nat_lt (period_from (n + 1) closes day)) (one_later n (length closes))
      | false ↦ λ early. ap not (last_late through day closes rising.0 rising.1 early)
          ∙ sym (below n (length closes))
    ] refl
  where
    by : (closes : List ℤ) → IsStrictlySortedBy int_cmp (through ∷ closes) → int_lt through day ≡ true
        → is_closed (through ∷ closes) day ≡ is_closed closes day
    by [] rising late = ap not late
    by (next ∷ closes) rising late = refl

    one_later : (n m : ℕ) → (n + 1) + m ≡ n + suc m
    one_later n m = omega arith

    below : (n m : ℕ) → nat_lt n (n + suc m) ≡ true
    below n m = grind (arith, nat_tests)

-- so it is where there are later periods
pub closed_is : (closes : List ℤ) (day : ℤ) → IsStrictlySortedBy int_cmp closes
    → is_closed closes day ≡ nat_lt 0 (later_periods closes day)
closed_is closes day rising =
    closed_before 1 closes day rising ∙ less_left (period_from 1 closes day) (length closes)
  where
    less_left : (period n : ℕ) → nat_lt period (1 + n) ≡ nat_lt 0 ((n + 1) - period)
    less_left period n = grind (arith, nat_tests)

-- a tariff with its text
abbrev pub texted : List ℕ → Terms → AcceptedTerms
texted text terms = record { text = Some text; terms = terms }

pub is_texted : (text : List ℕ) (terms : Terms) → IsUtf8 text → terms_in text ≡ Ok terms
    → IsDay terms.effective → IsTexted (texted text terms)
is_texted text terms utf8 said day = record {
  text = text;
  is = refl;
  characters = utf8;
  said = said;
  day = day;
}

-- one row more
pub tariff_pushed : (accepted : List AcceptedTerms) (text : List ℕ) (day : ℤ) (terms : Terms) (row : Row)
    → row ≡ tariff_columns (day, Some text) → terms.effective ≡ day
    → map tariff_columns (tariff_entries accepted) ++ row ∷ []
    ≡ map tariff_columns (tariff_entries (accepted ++ texted text terms ∷ []))
tariff_pushed accepted text day terms row is same =
    let so_far : List Row = map tariff_columns (tariff_entries accepted) in
    let entry : AcceptedTerms → ℤ × Option (List ℕ) = λ tariff. (tariff.terms.effective, tariff.text) in
    ap (λ (r : Row). so_far ++ r ∷ []) (is ∙ ap (λ (d : ℤ). tariff_columns (d, Some text)) (sym same))
    ∙ sym (map-append tariff_columns (tariff_entries accepted) ((terms.effective, Some text) ∷ []))
    ∙ ap (map tariff_columns) (sym (map-append entry accepted (texted text terms ∷ [])))

pub terms_pushed : (accepted : List AcceptedTerms) (tariffs : List Terms) (text : List ℕ) (terms : Terms)
    → map (λ (tariff : AcceptedTerms). tariff.terms) accepted ≡ tariffs
    → map (λ (tariff : AcceptedTerms). tariff.terms) (accepted ++ texted text terms ∷ [])
    ≡ tariffs ++ terms ∷ []
terms_pushed accepted tariffs text terms so_far =
    map-append (λ (tariff : AcceptedTerms). tariff.terms) accepted (texted text terms ∷ [])
    ∙ ap (λ (all : List Terms). all ++ terms ∷ []) so_far
