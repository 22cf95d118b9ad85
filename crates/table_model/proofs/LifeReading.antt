-- The life of a record is read from its row and its lines: the periods before that of its day did
-- nothing with it, that one counted it or not, and what the later ones did is in their lines.
use Rattle.std.proofs.Common.{◌≡◌, ◌∙◌, ℕ, zero, suc, ◌+◌, ◌-◌, ◌<◌, ◌≤◌, List, [], ◌∷◌, ◌++◌}
use Rattle.std.proofs.Common.{length, refl, sym, ap, subst, true, false, true≢false, Bool, cond}
use Rattle.std.proofs.Common.{not, ◌&&◌, Option, Some, None, arith, ℤ, pos, slice_get}
use Rattle.std.proofs.Common.{length-append}
use Rattle.book_model.proofs.Std.{get, false_from_ne_true, slice_get-get_or, slice_get_past}
use Rattle.book_model.specs.declared.trail.Deed.TheVariants.{Charged, Added, Reversed}
use Rattle.book_model.specs.declared.trail.Turn.{Turn}
use Rattle.book_model.specs.Words.{Priced, Book, Naming, Period, Records, all_periods, charged_of}
use Rattle.book_model.specs.Words.{day_of, has, is_dated_after, life_from, life_of, name_of}
use Rattle.book_model.specs.Words.{open_by, open_period, period_by, period_on, price_in, turn_if}
use Rattle.book_model.specs.Words.{turns_in, without}
use Rattle.book_model.proofs.Lemmas.{else_find, has_those}
use Rattle.table_model.specs.Words.{tables_of, close_after, charged_before_lines, first_line}
use Rattle.table_model.specs.Words.{IsReadable, life_read, line_turns}
use Rattle.table_model.specs.TrailRead.{line_turn}
use Rattle.table_model.proofs.CostLemmas.{day-price}
use Rattle.table_model.proofs.CountedReading.{charged_back, in_added, in_counted, in_taken}
use Rattle.table_model.proofs.CountedReading.{its_period, line_there, next_early, period_after}
use Rattle.table_model.proofs.CountedReading.{sets, sets_past}
use Rattle.table_model.proofs.DayPeriods.{came_before, closes_before, comes_later, few_before}
use Rattle.table_model.proofs.RecordReading.{entry_at}

-- nothing is not something
none_some : {X : Type 0} {x : X} → ◌≡◌ {A = Option X} None (Some x) → ⊥
none_some is = cc

-- what a period did with a record that is dated before it, by its sides: whether it was charged
-- before the period, and is charged at its end
by_sides : (number : ℕ) (was is_now : Bool)
    → turn_if (false && is_now) number Charged ++ turn_if (not was && is_now) number Added
    ++ turn_if (not is_now && was) number Reversed
    ≡ line_turn number (else_find (cond (not was && is_now) (Some true) None)
    (cond (not is_now && was) (Some false) None))
by_sides number true true = refl
by_sides number true false = refl
by_sides number false true = refl
by_sides number false false = refl

-- and with one that is dated in it, and was not charged before it
by_day : (number : ℕ) (is_now : Bool)
    → turn_if (true && is_now) number Charged ++ turn_if false number Added
    ++ turn_if (not is_now && false) number Reversed
    ≡ turn_if is_now number Charged
by_day number true = refl
by_day number false = refl

-- a period adds no record that is dated after the close before it
not_added : (last : Option ℤ) (before now : Records) (bytes : List ℕ)
    → is_dated_after last bytes ≡ true → has (period_by last before now).added bytes ≡ false
not_added last before now bytes late =
    has_those (λ b. not (is_dated_after last b)) (without now before) bytes
    ∙ ap (λ b. not b && has (without now before) bytes) late

module _ (naming : Naming) (book : Book) (whole : IsReadable naming book) (bytes : List ℕ)
    (there : has book.held bytes ≡ true) where
  abbrev name : List ℕ
  name = name_of naming bytes

  abbrev day : ℤ
  day = day_of bytes

  -- as many closes come before its day
  abbrev place : ℕ
  place = closes_before day book.rulings.closes

  few : place ≤ length book.rulings.closes
  few = few_before day book.rulings.closes

  -- it is dated after each of them,
  is_late : (k : ℕ) → k ≤ place → is_dated_after (close_after k book.rulings.closes) bytes ≡ true
  is_late zero within = refl
  is_late (suc k) within = by_close (slice_get book.rulings.closes k) refl
    where
      by_close : (found : Option ℤ) → slice_get book.rulings.closes k ≡ found
          → is_dated_after found bytes ≡ true
      by_close None none = refl
      by_close (Some close) some =
          came_before day book.rulings.closes k close whole.in_order (omega (arith, within)) some

  -- and not after the next one
  is_early : suc place ≤ length book.rulings.closes
      → is_dated_after (close_after (suc place) book.rulings.closes) bytes ≡ false
  is_early within = by_close (slice_get book.rulings.closes place) refl
    where
      by_close : (found : Option ℤ) → slice_get book.rulings.closes place ≡ found
          → is_dated_after found bytes ≡ false
      by_close None none =
          absurd (none_some (sym none
          ∙ slice_get-get_or book.rulings.closes place (pos 0) (omega (arith, within))))
      by_close (Some close) some = comes_later day book.rulings.closes close whole.in_order some

  -- so it was not charged before the period of its day
  uncharged : (k : ℕ) → k ≤ place → has (sets naming book whole k) bytes ≡ false
  uncharged k within =
      let before : k ≤ length book.rulings.closes = (let most = few in omega (arith, most, within)) in
      ap (λ records. has records bytes) (sets_past naming book whole k before)
      ∙ false_from_ne_true (has (whole.past.charged k) bytes) (λ was.
      true≢false (sym (is_late k within) ∙ whole.past.dated k before bytes was))

  -- ---- what one period did

  abbrev own : ℕ → Period
  own = period_after naming book whole

  abbrev before : ℕ → Bool
  before k = has (sets naming book whole k) bytes

  abbrev now : ℕ → Bool
  now k = has (sets naming book whole (suc k)) bytes

  -- one before its day did nothing with it
  nothing_done : (k : ℕ) → suc k ≤ place → turns_in (suc k) (own k) bytes ≡ []
  nothing_done k within =
      let last : Option ℤ = close_after k book.rulings.closes in
      let was : Records = sets naming book whole k in
      let is_now : Records = sets naming book whole (suc k) in
      let was_not = uncharged k (omega (arith, within)) in
      let is_not = uncharged (suc k) within in
      let late = is_late k (omega (arith, within)) in
      (λ i. turn_if ((in_counted last was is_now bytes ∙ (λ j. late j && is_not j)) i) (suc k) Charged
      ++ turn_if (not_added last was is_now bytes late i) (suc k) Added
      ++ turn_if ((in_taken last was is_now bytes ∙ (λ j. not (is_not j) && was_not j)) i) (suc k)
      Reversed)

  -- that of its day counted it where it was charged at the end
  in_its_period : turns_in (suc place) (own place) bytes ≡ turn_if (now place) (suc place) Charged
  in_its_period =
      let last : Option ℤ = close_after place book.rulings.closes in
      let was : Records = sets naming book whole place in
      let is_now : Records = sets naming book whole (suc place) in
      let was_not = uncharged place (omega arith) in
      let late = is_late place (omega arith) in
      (λ i. turn_if ((in_counted last was is_now bytes ∙ (λ j. late j && now place)) i) (suc place)
      Charged
      ++ turn_if (not_added last was is_now bytes late i) (suc place) Added
      ++ turn_if ((in_taken last was is_now bytes ∙ (λ j. not (now place) && was_not j)) i)
      (suc place) Reversed)
      ∙ by_day (suc place) (now place)

  -- and what one after it did is its line
  by_line : (k : ℕ) → k ≤ length book.rulings.closes
      → is_dated_after (close_after k book.rulings.closes) bytes ≡ false
      → turns_in (suc k) (own k) bytes
      ≡ line_turn (suc k) (get (tables_of naming book).lines (suc k, name))
  by_line k within early =
      let last : Option ℤ = close_after k book.rulings.closes in
      let was : Records = sets naming book whole k in
      let is_now : Records = sets naming book whole (suc k) in
      (λ i. turn_if ((in_counted last was is_now bytes ∙ (λ j. early j && now k)) i) (suc k) Charged
      ++ turn_if (in_added last was is_now bytes early i) (suc k) Added
      ++ turn_if (in_taken last was is_now bytes i) (suc k) Reversed)
      ∙ by_sides (suc k) (before k) (now k)
      ∙ ap (line_turn (suc k)) (sym (line_there naming book whole bytes there k within early))

  -- ---- what all of them did

  -- these are all periods from one on
  abbrev AreFrom : ℕ → List Period → Type 0
  AreFrom k periods = (j : ℕ) → slice_get periods j ≡ slice_get (all_periods book) (k + j)

  -- so the later ones are those from the next on,
  from_next : (k : ℕ) (period : Period) (later : List Period) → AreFrom k (period ∷ later)
      → AreFrom (suc k) later
  from_next k period later are j =
      let same : k + suc j ≡ suc k + j = omega arith in
      are (suc j) ∙ ap (slice_get (all_periods book)) same

  -- and the first is its own
  first_of_them : (k : ℕ) (found : Option Period) → k ≤ length book.rulings.closes
      → found ≡ slice_get (all_periods book) (k + 0) → found ≡ Some (own k)
  first_of_them k found within is =
      let same : k + 0 ≡ k = omega arith in
      is ∙ ap (slice_get (all_periods book)) same ∙ its_period naming book whole k within

  first_own : (k : ℕ) (period : Period) (later : List Period) → k ≤ length book.rulings.closes
      → AreFrom k (period ∷ later) → period ≡ own k
  first_own k period later within are =
      let is : Some period ≡ Some (own k) = first_of_them k (Some period) within (are 0) in
      cc

  some_left : (k : ℕ) → k ≤ length book.rulings.closes → AreFrom k [] → ⊥
  some_left k within are = none_some (first_of_them k None within (are 0))

  none_left : (k : ℕ) (period : Period) (later : List Period) → length book.rulings.closes < k
      → AreFrom k (period ∷ later) → ⊥
  none_left k period later past are =
      let count = whole.sound.closed in
      let all = length-append book.past (open_period book ∷ []) in
      none_some (sym (are 0
      ∙ slice_get_past (all_periods book) (k + 0) (omega (arith, past, count, all))))

  -- those after its day
  later_turns : (later k : ℕ) (periods : List Period)
      → k + later ≡ suc (length book.rulings.closes) → AreFrom k periods
      → (k ≤ length book.rulings.closes
      → is_dated_after (close_after k book.rulings.closes) bytes ≡ false)
      → life_from (suc k) periods bytes
      ≡ line_turns (tables_of naming book).lines name (suc k) later
  later_turns zero k [] counts are early = refl
  later_turns zero k (period ∷ periods) counts are early =
      absurd (none_left k period periods (omega (arith, counts)) are)
  later_turns (suc later) k [] counts are early =
      absurd (some_left k (omega (arith, counts)) are)
  later_turns (suc later) k (period ∷ periods) counts are early =
      let within : k ≤ length book.rulings.closes = omega (arith, counts) in
      let rest = later_turns later (suc k) periods (omega (arith, counts))
      (from_next k period periods are)
      (λ inside. next_early naming book whole bytes there k inside (early within)) in
      ap (λ (one : Period). turns_in (suc k) one bytes ++ life_from (suc (suc k)) periods bytes)
      (first_own k period periods within are)
      ∙ (λ i. by_line k within (early within) i ++ rest i)

  -- its life from the period of its day on
  abbrev own_life : List Turn
  own_life =
      turn_if (now place) (suc place) Charged
      ++ line_turns (tables_of naming book).lines name (suc (suc place))
      (open_by book.rulings - suc place)

  from_its_day : (periods : List Period) → AreFrom place periods
      → life_from (suc place) periods bytes ≡ own_life
  from_its_day [] are = absurd (some_left place few are)
  from_its_day (period ∷ periods) are =
      let most = few in
      let rest = later_turns (open_by book.rulings - suc place) (suc place) periods
      (omega (arith, most)) (from_next place period periods are) is_early in
      ap (λ (one : Period). turns_in (suc place) one bytes
      ++ life_from (suc (suc place)) periods bytes) (first_own place period periods few are)
      ∙ (λ i. in_its_period i ++ rest i)

  -- is all of it
  earlier_turns : (more k : ℕ) (periods : List Period) → k + more ≡ place → AreFrom k periods
      → life_from (suc k) periods bytes ≡ own_life
  earlier_turns zero k periods counts are =
      let same : place ≡ k = omega (arith, counts) in
      subst (λ (at : ℕ). AreFrom at periods → life_from (suc at) periods bytes ≡ own_life) same
      (from_its_day periods) are
  earlier_turns (suc more) k [] counts are =
      let most = few in
      absurd (some_left k (omega (arith, counts, most)) are)
  earlier_turns (suc more) k (period ∷ periods) counts are =
      let most = few in
      ap (λ (one : Period). turns_in (suc k) one bytes ++ life_from (suc (suc k)) periods bytes)
      (first_own k period periods (omega (arith, counts, most)) are)
      ∙ ap (λ (turns : List Turn). turns ++ life_from (suc (suc k)) periods bytes)
      (nothing_done k (omega (arith, counts)))
      ∙ earlier_turns more (suc k) periods (omega (arith, counts)) (from_next k period periods are)

  -- So its life is that which is read.
  pub life_is : (priced : Priced) → price_in book.rulings bytes ≡ Some priced
      → life_of book bytes
      ≡ life_read book.rulings (tables_of naming book).lines
      (entry_at naming book whole.sound bytes priced)
  life_is priced price =
      let most = few in
      let later : ℕ = open_by book.rulings - suc place in
      let counted = charged_back naming book whole bytes there later (suc place)
      (omega (arith, most)) is_early in
      earlier_turns place 0 (all_periods book) (omega arith) (λ j.
      let same : j ≡ 0 + j = omega arith in
      ap (slice_get (all_periods book)) same)
      ∙ ap (λ (charged : Bool). turn_if charged (suc place) Charged
      ++ line_turns (tables_of naming book).lines name (suc (suc place)) later) (sym counted)
      ∙ ap (λ (number : ℕ). turn_if (charged_before_lines
      (first_line (tables_of naming book).lines name (suc number) (open_by book.rulings - number))
      (has (charged_of book) bytes)) number Charged
      ++ line_turns (tables_of naming book).lines name (suc number) (open_by book.rulings - number))
      (ap (period_on book.rulings.closes) (sym (day-price book.rulings bytes priced price)))
