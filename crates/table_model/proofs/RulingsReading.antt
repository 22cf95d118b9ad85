-- The tariffs, the closes and the rule of identity are read back from their tables.
use Rattle.std.proofs.Common.{◌≡◌, ℕ, List, [], ◌∷◌, refl, sym, ap, ◌∙◌, true, Bool, T, Option}
use Rattle.std.proofs.Common.{Some, None, arith, subst, All, ℤ, int_lt, ◌<ℤ◌, ◌==◌, if◌then◌else◌}
use Rattle.std.proofs.Common.{is_some, unwrap_or, filter_map, option_and_then, int_cmp, is_lt, Less}
use Rattle.std.specs.Cmp.{int_cmp_is}
use Rattle.std.specs.FinMap.Entries.{below_all}
use Rattle.book_model.proofs.Std.{int_cmp_total, from_entries, entries, int_cmp-IsAntisymmetric}
use Rattle.book_model.proofs.Std.{is_sorted, cons_option, list_all, ints, All-head, All-tail}
use Rattle.book_model.specs.Words.{terms_in, Records, Rulings, AcceptedTerms, are_rising}
use Rattle.book_model.specs.Words.{first_rule, second_rule}
use Rattle.book_model.proofs.Lemmas.{entries-sorted, first_of, second_of}
use Rattle.table_model.specs.Words.{never_adopted, book_row, tariff_entries, adopted_read}
use Rattle.table_model.specs.Words.{tariff_read, IsTexted}
use Rattle.table_model.specs.BookIn.{tariff_saying}
use Rattle.table_model.proofs.UnderNumbers.{both_hold}

-- a day that is before those of tariffs is below them
below_days : (day : ℤ) (tariffs : List AcceptedTerms)
    → list_all (λ later. int_lt day later.terms.effective) tariffs ≡ true
    → T (below_all int_cmp day (tariff_entries tariffs))
below_days day [] before = tt
below_days day (tariff ∷ tariffs) before =
    let its : ℤ = tariff.terms.effective in
    let others : Bool = list_all (λ later. int_lt day later.terms.effective) tariffs in
    let first : int_lt day its ≡ true = first_of (int_lt day its) others before in
    let less : day <ℤ its = grind (arith, ints) in
    both_hold (is_lt (int_cmp day its)) (below_all int_cmp day (tariff_entries tariffs))
    (subst (λ r. T (is_lt r)) (int_cmp_is day its Less less) tt)
    (below_days day tariffs (second_of (int_lt day its) others before))

-- so tariffs that rise are in the order of their days
tariffs_rise : (tariffs : List AcceptedTerms) → are_rising tariffs ≡ true
    → T (is_sorted int_cmp (tariff_entries tariffs))
tariffs_rise [] rising = tt
tariffs_rise (tariff ∷ tariffs) rising =
    let day : ℤ = tariff.terms.effective in
    let first : Bool = list_all (λ later. int_lt day later.terms.effective) tariffs in
    both_hold (below_all int_cmp day (tariff_entries tariffs))
    (is_sorted int_cmp (tariff_entries tariffs))
    (below_days day tariffs (first_of first (are_rising tariffs) rising))
    (tariffs_rise tariffs (second_of first (are_rising tariffs) rising))

-- a tariff that has a text is read back
pub one_read : (tariff : AcceptedTerms) → IsTexted tariff
    → tariff_read (tariff.terms.effective, tariff.text) ≡ Some tariff
one_read tariff texted =
    ap (option_and_then (λ text. tariff_saying text (terms_in text))) texted.is
    ∙ ap (tariff_saying texted.text) texted.said
    ∙ (λ i. Some (record { text = sym texted.is i; terms = tariff.terms }))

-- so are all of them,
all_read : (tariffs : List AcceptedTerms) → All IsTexted tariffs
    → filter_map tariff_read (tariff_entries tariffs) ≡ tariffs
all_read [] texted = refl
all_read (tariff ∷ tariffs) texted =
    let first = one_read tariff (All-head IsTexted tariff tariffs texted) in
    let rest = all_read tariffs (All-tail IsTexted tariff tariffs texted) in
    λ i. cons_option (first i) (rest i)

-- the rows of rising tariffs are stored in their table in this order,
pub tariffs_kept : (tariffs : List AcceptedTerms) → are_rising tariffs ≡ true
    → entries (from_entries {R = int_cmp} (tariff_entries tariffs)) ≡ tariff_entries tariffs
tariffs_kept tariffs rising =
    entries-sorted int_cmp_total int_cmp-IsAntisymmetric (tariff_entries tariffs)
    (tariffs_rise tariffs rising)

-- and are read back from their table
pub tariffs_back : (tariffs : List AcceptedTerms) → are_rising tariffs ≡ true → All IsTexted tariffs
    → filter_map tariff_read (entries (from_entries {R = int_cmp} (tariff_entries tariffs)))
    ≡ tariffs
tariffs_back tariffs rising texted =
    ap (filter_map tariff_read) (tariffs_kept tariffs rising) ∙ all_read tariffs texted

-- the second rule of identity is read back from the row of the book
pub adopted_back : (rulings : Rulings) (held : Records)
    → adopted_read (book_row rulings held) ≡ rulings.adopted
adopted_back rulings held =
    elim rulings.adopted as (λ (adopted : Option ℕ).
    (if (if is_some adopted then second_rule else first_rule) == second_rule
    then Some (unwrap_or adopted never_adopted) else None) ≡ adopted) [
      | None ↦ refl
      | Some period ↦ refl
    ]
