-- The lists of a period, and the list of rulings, are answered from the tables.
use Rattle.std.proofs.Common.{◌≡◌, ℕ, ◌-◌, length, refl, sym, ap, ◌∙◌, true, false, true≢false}
use Rattle.std.proofs.Common.{Bool, not, ◌&&◌, Option, Some, None, Result, Ok, get_or, arith, ◌<◌}
use Rattle.std.proofs.Common.{◌≤◌, ◌==◌, nat_le, if◌then◌else◌, slice_get, ok_or, option_map}
use Rattle.book_model.proofs.Std.{nat_tests, slice_get-get_or, slice_get_past}
use Rattle.book_model.specs.declared.fault.LedgerFault.{LedgerFault}
use Rattle.book_model.specs.declared.fault.LedgerFault.TheVariants.{NoSuchPeriod}
use Rattle.book_model.specs.Words.{Book, open_number, open_period, period_of, lines_of, no_event}
use Rattle.book_model.specs.Words.{AreHeld, IsSound, Naming, Period, all_periods, rows_for}
use Rattle.table_model.specs.Words.{rows_read, lines_read, tables_of, is_period, of_period}
use Rattle.table_model.proofs.HeldPeriods.{all_held, one_of}
use Rattle.table_model.proofs.LineReading.{lines_follow}
use Rattle.table_model.proofs.PeriodPlaces.{at_place}
use Rattle.table_model.proofs.RowReading.{rows_follow}
use Rattle.table_model.specs.ListLaws.{ListsFollow}
use Rattle.table_model.proofs.ListedChoices.{choice_listed, rulings_listed-read}
use Rattle.table_model.proofs.UnderNumbers.{values-numbers}

module _ (book : Book) (closed : length book.past ≡ length book.rulings.closes) (number : ℕ) where
  -- the period by the tests of its number
  period_is : (is_zero is_open : Bool) → (number == 0) ≡ is_zero
      → (number == open_number book) ≡ is_open
      → period_of book number
      ≡ (if is_zero then None
      else if is_open then Some (open_period book)
      else slice_get book.past (number - 1))
  period_is is_zero is_open zeroth last =
      (λ i. if zeroth i then None
      else if last i then Some (open_period book)
      else slice_get book.past (number - 1))

  -- a number of a period has one
  by_tests : (is_zero is_open : Bool) → (number == 0) ≡ is_zero
      → (number == open_number book) ≡ is_open
      → (not is_zero && nat_le number (open_number book)) ≡ true
      → (period : Period) × (period_of book number ≡ Some period)
  by_tests true is_open zeroth last early = absurd (true≢false (sym early))
  by_tests false true some last early = (open_period book, period_is false true some last)
  by_tests false false some other early =
      let within : number - 1 < length book.past = grind (arith, nat_tests) in (
        get_or book.past (number - 1) (open_period book),
        period_is false false some other
            ∙ slice_get-get_or book.past (number - 1) (open_period book) within,
      )

  -- any other has none
  by_no_tests : (is_zero is_open : Bool) → (number == 0) ≡ is_zero
      → (number == open_number book) ≡ is_open
      → (not is_zero && nat_le number (open_number book)) ≡ false → period_of book number ≡ None
  by_no_tests true is_open zeroth last late = period_is true is_open zeroth last
  by_no_tests false true some last late =
      let early : nat_le number (open_number book) ≡ true = grind (arith, nat_tests) in
      absurd (true≢false (sym early ∙ late))
  by_no_tests false false some other late =
      let behind : length book.past ≤ number - 1 = grind (arith, nat_tests) in
      period_is false false some other ∙ slice_get_past book.past (number - 1) behind

  -- so a period that exists by its number is one of the book
  pub period_there : is_period number book.rulings ≡ true
      → (period : Period) × (period_of book number ≡ Some period)
  period_there is =
      by_tests (number == 0) (number == open_number book) refl refl is

  -- what is told by a period, if there is one, is told by the test of its number
  pub told : {X : Type 0} (by_period : Option Period → X) (found : X)
      → ((period : Period) → period_of book number ≡ Some period → found ≡ by_period (Some period))
      → by_period (period_of book number)
      ≡ (if is_period number book.rulings then found else by_period None)
  told by_period found reads =
      elim (is_period number book.rulings) as (λ b. is_period number book.rulings ≡ b
      → by_period (period_of book number) ≡ (if b then found else by_period None)) [
        | true ↦ λ is.
            let its = period_there is in
            ap by_period its.1 ∙ sym (reads its.0 its.1)
        | false ↦ λ is_not.
            ap by_period
            (by_no_tests (number == 0) (number == open_number book) refl refl is_not)
      ] refl

  -- what is answered for a period
  pub answered : {A : Type 0} (f : Period → A) (found : A)
      → ((period : Period) → period_of book number ≡ Some period → found ≡ f period)
      → ok_or (option_map f (period_of book number)) NoSuchPeriod
      ≡ of_period number book.rulings found
  answered {A} f found reads =
      let answer : A → Result A LedgerFault = λ list. Ok list in
      told (λ period. ok_or (option_map f period) NoSuchPeriod) (answer found)
      (λ period is. ap answer (reads period is))

module _ (naming : Naming) (book : Book) (sound : IsSound naming book) (number : ℕ) where
  -- what a period of the book counts, adds and reverses is held
  pub held_in : (period : Period) → period_of book number ≡ Some period → AreHeld book.held period
  held_in period is =
      let place = at_place naming book sound number period is in
      one_of (AreHeld book.held) (all_periods book) place.0 period (all_held naming book sound)
      place.2

  -- so a period that exists by its number is one of records that are held
  pub period_held : is_period number book.rulings ≡ true
      → (period : Period) × (period_of book number ≡ Some period) × AreHeld book.held period
  period_held is =
      let period = period_there book sound.closed number is in
      (period.0, period.1, held_in period.0 period.1)

-- the law
pub lists_follow : ListsFollow
lists_follow = record {
  charges = λ naming book number whole.
      ap no_event (answered book whole.sound.closed number
      (λ period. rows_for book.rulings period.counted)
      (rows_read number (tables_of naming book).days)
      (λ period is. rows_follow naming book number period whole.sound is));
  adjustments = λ naming book number whole.
      ap no_event (answered book whole.sound.closed number (lines_of naming book.rulings)
      (lines_read number (tables_of naming book))
      (λ period is. lines_follow naming book number period whole.sound whole.lines is));
  periods = λ naming book whole.
      ap (λ days. no_event (Ok days)) (sym (values-numbers book.rulings.closes));
  rulings = λ naming book number whole.
      ap (λ list. no_event (Ok (slice_get list number))) (rulings_listed-read naming book);
  choices = λ naming book place whole. choice_listed naming book place;
}
