-- 64 bits with a sign hold the numbers of the tables.
use Rattle.std.proofs.Common.{◌≡◌, ℕ, suc, ◌+◌, List, [], ◌∷◌, length, refl, sym, ap, ◌∙◌, subst}
use Rattle.std.proofs.Common.{Bool, Option, Some, None, is_some, inl, inr, arith, ◌<◌, ◌≤◌}
use Rattle.std.proofs.Common.{if◌then◌else◌, slice_get, sum_by, unwrap_or, All, ℤ, length-append}
use Rattle.std.specs.FinMap.{find}
use Rattle.book_model.proofs.Std.{int_cmp-IsAntisymmetric, nat_cmp-IsAntisymmetric, int_cmp_total}
use Rattle.book_model.proofs.Std.{nat_cmp_total, AllByRecursion, nat_list_cmp_total, All-head}
use Rattle.book_model.proofs.Std.{All-tail, All-filter, tells_apart, slice_get_within}
use Rattle.book_model.specs.declared.row.ChargeRow.{ChargeRow}
use Rattle.book_model.specs.declared.row.RowKey.{RowKey}
use Rattle.book_model.specs.Words.{IsDay, IsName, IsPriced, Book, all_periods, open_period}
use Rattle.book_model.specs.Words.{last_period, Period, Naming, IsUsageRecord, key_of, by_key}
use Rattle.book_model.specs.Words.{same_key, charged_at, charged_of, AcceptedTerms, AreAmong}
use Rattle.book_model.specs.Words.{AreHeld, Choice, IsChoiceOf, most_choices, IsRule, first_rule}
use Rattle.book_model.specs.Words.{second_rule, Priced}
use Rattle.book_model.proofs.Lemmas.{by_key_total, by_key_exact, same_key_ties}
use Rattle.std.proofs.Common.{map}
use Rattle.book_model.specs.Words.{Credit, Replaced, most_credits, most_replaced}
use Rattle.table_model.specs.Fits.{CreditFits, ReplacedFits}
use Rattle.table_model.specs.Readable.{IsCredited, IsReplaced}
use Rattle.table_model.specs.Tables.{ReplacedRow}
use Rattle.table_model.specs.TablesOf.{replaced_row, under_numbers}
use Rattle.table_model.specs.Words.{ChoiceRow, RecordRow, never_adopted, tariff_entries}
use Rattle.table_model.specs.Words.{choice_entries, close_entries, day_entries, line_entries}
use Rattle.table_model.specs.Words.{record_row, tables_of, row_record, TablesFit, IsBegun, IsTimely}
use Rattle.table_model.specs.Words.{IsTexted, IsReadable}
use Rattle.book_core.proofs.KeyedRowLemmas.{row_of}
use Rattle.table_model.proofs.DayChanges.{days-found, found_at}
use Rattle.table_model.proofs.HeldPeriods.{one_of, all_held}
use Rattle.table_model.proofs.LineReading.{held_row}
use Rattle.table_model.specs.AnswerLaws.{NumbersFit}
use Rattle.table_model.specs.Fits.{IsPeriod, RecordFits, ChoiceFits, DayFits}
use Rattle.table_model.proofs.ChoiceReading.{choices_count}
use Rattle.table_model.proofs.Finding.{first_passes, get_numbered, get_one}
use Rattle.table_model.proofs.PriceSums.{part_within, FitSigned, costs, all_priced, some_within}
use Rattle.table_model.proofs.PriceSums.{within_fits}
use Rattle.table_model.proofs.RecordReading.{every_row}

-- tariffs have days
tariff_days : (tariffs : List AcceptedTerms) → All IsTexted tariffs
    → AllByRecursion (λ (row : ℤ × Option (List ℕ)). IsDay row.0) (tariff_entries tariffs)
tariff_days [] texted = tt
tariff_days (tariff ∷ tariffs) texted = (
  (All-head IsTexted tariff tariffs texted).day,
  tariff_days tariffs (All-tail IsTexted tariff tariffs texted),
)

-- closes have days and periods
close_days : (n : ℕ) (days : List ℤ) → 0 < n → n + length days ≤ last_period → All IsDay days
    → AllByRecursion (λ (row : ℕ × ℤ). IsPeriod row.0 × IsDay row.1) (close_entries n days)
close_days n [] some few dated = tt
close_days n (day ∷ days) some few dated = (
  (record { numbered = some; early = omega arith }, All-head IsDay day days dated),
  close_days (suc n) days (omega arith) (omega arith) (All-tail IsDay day days dated),
)

-- a record's row
record_fits : (row : RecordRow) → IsUsageRecord (row_record row) → IsPriced row.priced
    → RecordFits row
record_fits row usage priced =
    let cpu = priced.cpu in
    let excp = priced.excp in
    let amount = priced.amount in
    record {
      usage = usage;
      priced = priced;
      cpu = omega arith;
      excp = omega arith;
      amount = omega arith;
    }

module _ (naming : Naming) (book : Book) (whole : IsReadable naming book) where
  -- choices have numbers, names that have records, and periods
  choices_fit : (n : ℕ) (choices : List Choice) → 0 < n → n + length choices ≤ most_choices + 1
      → All (IsTimely book) choices → All (IsChoiceOf book.held) choices
      → AllByRecursion (λ (row : ℕ × ChoiceRow).
      ChoiceFits (tables_of naming book).records row.0 row.1) (choice_entries naming n choices)
  choices_fit n [] some few timely held = tt
  choices_fit n (choice ∷ choices) some few timely held =
      let was = All-head (IsTimely book) choice choices timely in
      let there = All-head (IsChoiceOf book.held) choice choices held in
      let numbered = was.numbered in
      let begun = was.begun in
      let closed = whole.limits.closes in (
        record {
          numbered = some;
          few = omega arith;
          named = ap is_some (held_row naming book whole.sound choice.chosen there).2;
          period = record { numbered = numbered; early = omega arith };
        },
        choices_fit (suc n) choices (omega arith) (omega arith)
            (All-tail (IsTimely book) choice choices timely)
            (All-tail (IsChoiceOf book.held) choice choices held),
      )

  -- and so have credits
  credits_fit : (n : ℕ) (credits : List Credit) → 0 < n → n + length credits ≤ most_credits + 1
      → All (IsCredited book) credits
      → AllByRecursion (λ (row : ℕ × Credit). CreditFits row.0 row.1) (under_numbers n credits)
  credits_fit n [] some few all = tt
  credits_fit n (credit ∷ credits) some few all =
      let was = All-head (IsCredited book) credit credits all in
      let numbered = was.begun.numbered in
      let begun = was.begun.begun in
      let closed = whole.limits.closes in (
        record {
          numbered = some;
          few = omega arith;
          period = record { numbered = numbered; early = omega arith };
          said = was.said;
        },
        credits_fit (suc n) credits (omega arith) (omega arith)
            (All-tail (IsCredited book) credit credits all),
      )

  -- and so have replaced tariffs
  replaced_fit : (n : ℕ) (replaced : List Replaced) → 0 < n
      → n + length replaced ≤ most_replaced + 1 → All (IsReplaced book) replaced
      → AllByRecursion (λ (row : ℕ × ReplacedRow). ReplacedFits row.0 row.1)
      (under_numbers n (map replaced_row replaced))
  replaced_fit n [] some few all = tt
  replaced_fit n (one ∷ replaced) some few all =
      let was = All-head (IsReplaced book) one replaced all in
      let numbered = was.begun.numbered in
      let begun = was.begun.begun in
      let closed = whole.limits.closes in (
        record {
          numbered = some;
          few = omega arith;
          day = was.texted.day;
          period = record { numbered = numbered; early = omega arith };
        },
        replaced_fit (suc n) replaced (omega arith) (omega arith)
            (All-tail (IsReplaced book) one replaced all),
      )

  -- a period of the book has a number
  its_number : (k number : ℕ) (period : Period) → slice_get (all_periods book) k ≡ Some period
      → number ≡ 1 + k → IsPeriod number
  its_number k number period there is =
      let within = slice_get_within (all_periods book) k period there in
      let all = length-append book.past (open_period book ∷ []) in
      let closed = whole.sound.closed in
      let few = whole.limits.closes in
      record { numbered = omega arith; early = omega arith }

  -- what is charged at a place is within what is held
  here_within : (f : Priced → ℕ) (period : Period) (key : RowKey)
      → AreAmong period.counted book.held
      → sum_by f (charged_at (costs naming book whole period.counted) key)
      ≤ sum_by f (costs naming book whole book.held)
  here_within f period key held =
      let part = part_within f (λ one. same_key (key_of one) key)
      (costs naming book whole period.counted) in
      let some = some_within naming book whole f period.counted held in
      omega arith

  -- so its sums fit,
  here_fits : (period : Period) (key : RowKey) → AreAmong period.counted book.held
      → FitSigned (charged_at (costs naming book whole period.counted) key)
  here_fits period key held =
      within_fits naming book whole (charged_at (costs naming book whole period.counted) key)
      (λ f. here_within f period key held)

  -- and any price that is charged at a place determines the place
  here_priced : (period : Period) (key : RowKey) (one : Priced) (rest : List Priced)
      → AreAmong period.counted book.held
      → charged_at (costs naming book whole period.counted) key ≡ one ∷ rest
      → IsPriced one × (key_of one ≡ key)
  here_priced period key one rest held is =
      let all : List Priced = costs naming book whole period.counted in
      let here : Priced → Bool = λ one. same_key (key_of one) key in
      let same = tells_apart by_key_exact (key_of one) key
      (sym (same_key_ties (key_of one) key) ∙ first_passes here all one rest is) in
      let priced = All-filter here IsPriced all
      (all_priced naming book whole period.counted held) in
      (All-head IsPriced one rest (subst (All IsPriced) is priced), same)

  -- a charge row of a period
  place_fits : (number : ℕ) (key : RowKey) (row : ChargeRow) (period : Period)
      → AreAmong period.counted book.held → IsPeriod number
      → find by_key key (day_entries book.rulings period) ≡ Some row
      → DayFits (number, key) row
  place_fits number key row period held named found =
      let all : List Priced = costs naming book whole period.counted in
      by_here (charged_at all key) refl (sym (days-found all key) ∙ found)
    where
      by_here : (here : List Priced)
          → charged_at (costs naming book whole period.counted) key ≡ here
          → found_at key here ≡ Some row
          → DayFits (number, key) row
      by_here [] none is = cc
      by_here (one ∷ rest) some is =
          let fits = subst FitSigned some (here_fits period key held) in
          let own : row_of key (one ∷ rest) ≡ row = cc in
          let priced = here_priced period key one rest held some in
          subst (DayFits (number, key)) own (record {
            period = named;
            placed = refl;
            day = subst (λ (key : RowKey). IsDay key.day) priced.1 priced.0.day;
            centre = subst (λ (key : RowKey). IsName key.centre) priced.1 priced.0.centre;
            shift = subst (λ (key : RowKey). IsName key.shift) priced.1 priced.0.shift;
            count = fits.count;
            cpu = fits.cpu;
            blocks = fits.blocks;
            amount = fits.amount;
          })

  -- the rule of identity is one of the two
  is_rule : (adopted : Option ℕ) → IsRule (if is_some adopted then second_rule else first_rule)
  is_rule None = inl refl
  is_rule (Some period) = inr refl

  -- and its adoption has a period, or none
  adopted_fits : (adopted : Option ℕ)
      → ((period : ℕ) → adopted ≡ Some period → IsBegun book period)
      → unwrap_or adopted never_adopted ≤ last_period
  adopted_fits None begun = omega arith
  adopted_fits (Some period) begun =
      let was = (begun period refl).begun in
      let few = whole.limits.closes in
      omega arith

  -- all tables
  tables_fit : TablesFit (tables_of naming book)
  tables_fit =
      let tariffs : List AcceptedTerms = book.rulings.tariffs in
      let closes : List ℤ = book.rulings.closes in
      let choices : List Choice = book.rulings.choices in
      let all : List Period = all_periods book in
      let few = whole.limits.closes in
      let some = whole.limits.choices in
      record {
        rule = is_rule book.rulings.adopted;
        adopted = adopted_fits book.rulings.adopted whole.adopted;
        held = whole.limits.held;
        amount = whole.limits.cost;
        chosen = subst (λ n. n ≤ most_choices) (sym (choices_count naming book)) some;
        tariffs = get_one int_cmp_total int_cmp-IsAntisymmetric
            (λ day (text : Option (List ℕ)). IsDay day) (tariff_entries tariffs)
            (tariff_days tariffs whole.texts);
        closes = get_one nat_cmp_total nat_cmp-IsAntisymmetric
            (λ number day. IsPeriod number × IsDay day) (close_entries 1 closes)
            (close_days 1 closes (omega arith) (omega arith) whole.days);
        choices = get_one nat_cmp_total nat_cmp-IsAntisymmetric
            (ChoiceFits (tables_of naming book).records) (choice_entries naming 1 choices)
            (choices_fit 1 choices (omega arith) (omega arith) whole.timely whole.sound.chosen);
        credits =
            let given = whole.limits.credits in
            get_one nat_cmp_total nat_cmp-IsAntisymmetric CreditFits
            (under_numbers 1 book.rulings.credits)
            (credits_fit 1 book.rulings.credits (omega arith) (omega arith) whole.credited);
        replaced =
            let given = whole.limits.replaced in
            get_one nat_cmp_total nat_cmp-IsAntisymmetric ReplacedFits
            (under_numbers 1 (map replaced_row book.rulings.replaced))
            (replaced_fit 1 book.rulings.replaced (omega arith) (omega arith) whole.replaced);
        records = every_row naming book whole.sound (λ row. RecordFits row.1)
            (λ bytes priced there price.
            record_fits (record_row book.rulings (charged_of book) book.posted bytes priced)
            (subst IsUsageRecord (whole.usage bytes there).framed.is (whole.usage bytes there))
            (whole.priced bytes priced there price));
        days = λ place row.
            get_numbered by_key_total (day_entries book.rulings) (DayFits place row) all place row
            (λ k period there is.
            place_fits place.0 place.1 row period
            (one_of (AreHeld book.held) all k period (all_held naming book whole.sound)
            there).counted
            (its_number k place.0 period there is));
        lines = λ place plus.
            get_numbered nat_list_cmp_total (line_entries naming) (IsPeriod place.0) all place plus
            (λ k period there is found. its_number k place.0 period there is);
      }

-- the law of it
pub numbers_fit : NumbersFit
numbers_fit naming book whole = tables_fit naming book whole
