-- The rulings of consistent tables: their tariffs rise, and the second rule of identity was adopted,
-- if it was, in a period that has begun. Their tables are those of the book that they determine.
use Rattle.std.proofs.Common.{◌≡◌, ◌∙◌, ◌<◌, ◌≤◌, ◌&&◌, ◌∷◌, [], List, ℕ, ℤ, None, Some, T, ap}
use Rattle.std.proofs.Common.{arith, inl, inr, refl, subst, sym, true, Option, unwrap_or, ◌==◌}
use Rattle.std.proofs.Common.{if◌then◌else◌, int_lt, is_some, int_cmp, is_lt}
use Rattle.std.specs.FinMap.{entries_sorted, from_entries, int_cmp-IsAntisymmetric}
use Rattle.std.specs.FinMap.{nat_cmp-IsAntisymmetric}
use Rattle.std.specs.FinMap.Entries.{below_all, is_sorted}
use Rattle.std.specs.List.{list_all}
use Rattle.std.specs.Cmp.{int_cmp_total, nat_cmp_total}
use Rattle.std.proofs.lemmas.Int.{ints}
use Rattle.std.proofs.lemmas.Option.{none-some, same_Some}
use Rattle.book_model.specs.Words.{AcceptedTerms, Naming, are_rising, first_rule, open_by}
use Rattle.book_model.specs.Words.{second_rule}
use Rattle.table_model.specs.BookIn.{adopted_read, book_in}
use Rattle.table_model.specs.Readable.{IsBegun}
use Rattle.table_model.specs.Tables.{BookRow, Tables, never_adopted}
use Rattle.table_model.specs.TablesOf.{tables_of, tariff_entries}
use Rattle.table_model.proofs.CloseOrder.{earlier}
use Rattle.table_model.proofs.UnderNumbers.{is_less, one_holds, other_holds}
use Rattle.consistent_tables.specs.Consistent.{AreConsistent, IsOwnRule, ruled}
use Rattle.consistent_tables.proofs.Entries.{made_again}

-- a day that is below those of tariffs is before them
before_days : (day : ℤ) (tariffs : List AcceptedTerms)
    → T (below_all int_cmp day (tariff_entries tariffs))
    → list_all (λ later. int_lt day later.terms.effective) tariffs ≡ true
before_days day [] below = refl
before_days day (tariff ∷ tariffs) below =
    let its : ℤ = tariff.terms.effective in
    let test = is_lt (int_cmp day its) in
    let rest = below_all int_cmp day (tariff_entries tariffs) in
    let less = earlier day its (is_less (int_cmp day its) (one_holds test rest below)) in
    let first : int_lt day its ≡ true = grind (arith, ints) in
    λ i. first i && before_days day tariffs (other_holds test rest below) i

-- so tariffs in the order of their days rise
pub tariffs_rise : (tariffs : List AcceptedTerms) → T (is_sorted int_cmp (tariff_entries tariffs))
    → are_rising tariffs ≡ true
tariffs_rise [] sorted = refl
tariffs_rise (tariff ∷ tariffs) sorted =
    let first = below_all int_cmp tariff.terms.effective (tariff_entries tariffs) in
    let others = is_sorted int_cmp (tariff_entries tariffs) in
    λ i. before_days tariff.terms.effective tariffs (one_holds first others sorted) i
    && tariffs_rise tariffs (other_holds first others sorted) i

-- the second rule was adopted if a row of the book says so
abbrev adopted_by : ℕ → ℕ → Option ℕ
adopted_by adopted rule = if rule == second_rule then Some adopted else None

-- if it was, it was in a period that has begun
adopted_begun : (tables : Tables) (row : BookRow) → IsOwnRule tables row
    → (period : ℕ) → adopted_read row ≡ Some period
    → (0 < period) × (period ≤ open_by (ruled tables))
adopted_begun tables row (inl first) period is =
    absurd (none-some period (sym (ap (adopted_by row.adopted) first.0) ∙ is))
adopted_begun tables row (inr second) period is =
    let same : row.adopted ≡ period =
    same_Some row.adopted period (sym (ap (adopted_by row.adopted) second.0) ∙ is) in
    (subst (λ n. 0 < n) same second.1, subst (λ n. n ≤ open_by (ruled tables)) same second.2)

-- the number of the rule of identity, by the period in which the second one was adopted
abbrev number_of : Option ℕ → ℕ
number_of adopted = if is_some adopted then second_rule else first_rule

-- the row of the book says the rule and the period of adoption that are read from it
pub own_rule : (tables : Tables) (row : BookRow) → IsOwnRule tables row
    → (row.rule ≡ number_of (adopted_read row))
    × (row.adopted ≡ unwrap_or (adopted_read row) never_adopted)
own_rule tables row (inl first) =
    let none : None ≡ adopted_read row = sym (ap (adopted_by row.adopted) first.0) in (
      first.0 ∙ ap number_of none,
      first.1 ∙ ap (λ adopted. unwrap_or adopted never_adopted) none,
    )
own_rule tables row (inr second) =
    let some : Some row.adopted ≡ adopted_read row = sym (ap (adopted_by row.adopted) second.0) in (
      second.0 ∙ ap number_of some,
      ap (λ adopted. unwrap_or adopted never_adopted) some,
    )

module _ (naming : Naming) (tables : Tables) (whole : AreConsistent naming tables) where
  -- the tariffs rise
  pub rising : are_rising (ruled tables).tariffs ≡ true
  rising =
      tariffs_rise (ruled tables).tariffs
      (subst (λ es. T (is_sorted int_cmp es)) (sym whole.tariffs) (entries_sorted tables.tariffs))

  -- and the period of the adoption has begun
  pub adopted : (period : ℕ) → (ruled tables).adopted ≡ Some period
      → IsBegun (book_in tables) period
  adopted period is =
      let begun = adopted_begun tables tables.book whole.rule period is in
      record { numbered = begun.0; begun = begun.1 }

  -- the tables of tariffs and of closes are those of the book
  pub tariffs_are : tables.tariffs ≡ (tables_of naming (book_in tables)).tariffs
  tariffs_are =
      sym (made_again int_cmp_total int_cmp-IsAntisymmetric tables.tariffs)
      ∙ ap from_entries (sym whole.tariffs)

  pub closes_are : tables.closes ≡ (tables_of naming (book_in tables)).closes
  closes_are =
      sym (made_again nat_cmp_total nat_cmp-IsAntisymmetric tables.closes)
      ∙ ap from_entries whole.closes

  -- and so are those of the replaced tariffs and of the credits
  pub replaced_are : tables.replaced ≡ (tables_of naming (book_in tables)).replaced
  replaced_are =
      sym (made_again nat_cmp_total nat_cmp-IsAntisymmetric tables.replaced)
      ∙ ap from_entries whole.replaced

  pub credits_are : tables.credits ≡ (tables_of naming (book_in tables)).credits
  credits_are =
      sym (made_again nat_cmp_total nat_cmp-IsAntisymmetric tables.credits)
      ∙ ap from_entries whole.credits
