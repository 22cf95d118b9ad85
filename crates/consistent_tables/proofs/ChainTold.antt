-- What the mark and the lines of a record tell: whether it was charged before the last periods,
-- counted back from the open one to that of its day. Its lines are in turn.
use Rattle.std.proofs.Common.{◌≡◌, ◌∙◌, ℕ, zero, suc, ◌+◌, ◌-◌, ◌<◌, ◌≤◌, List, length, refl, sym}
use Rattle.std.proofs.Common.{ap, subst, true, false, Bool, cond, not, ◌&&◌, Option, Some, None}
use Rattle.std.proofs.Common.{IfSome, arith, if◌then◌else◌}
use Rattle.std.specs.Option.{option_map_or}
use Rattle.std.proofs.lemmas.Bool.{le-ltb, lt-leb}
use Rattle.tariff_rules.specs.declared.priced.Priced.{Priced}
use Rattle.book_model.specs.Words.{Book, Naming, charged_of, day_of, has, is_dated_after, name_of}
use Rattle.book_model.specs.Words.{open_by, price_in}
use Rattle.book_model.proofs.MapLemmas.{else_find}
use Rattle.table_model.specs.BookIn.{close_after}
use Rattle.table_model.specs.Readable.{IsReadable}
use Rattle.table_model.specs.Tables.{Tables}
use Rattle.table_model.specs.TablesOf.{record_row, tables_of}
use Rattle.table_model.proofs.BookLemmas.{rulings_back}
use Rattle.table_model.proofs.CostLemmas.{day-price}
use Rattle.table_model.proofs.CountedReading.{line_there, sets}
use Rattle.consistent_tables.specs.Consistent.{AreInTurn, charged_back, line_at, periods_after}
use Rattle.consistent_tables.specs.Consistent.{ruled}
use Rattle.consistent_tables.specs.DueRows.{period_from}
use Rattle.consistent_tables.proofs.ClosePeriods.{after_close, least_period, most_period}

-- the line of a record in a period, by whether it was charged before it and is at its end
abbrev line_by : Bool → Bool → Option Bool
line_by was is_now =
    else_find (cond (not was && is_now) (Some true) None) (cond (not is_now && was) (Some false) None)

-- so the line tells whether it was charged before,
told_before : (was is_now : Bool) → option_map_or not (line_by was is_now) is_now ≡ was
told_before true true = refl
told_before true false = refl
told_before false true = refl
told_before false false = refl

-- and, if there is one, whether it is at the end
turns_to : (was is_now : Bool) → IfSome (line_by was is_now) (λ plus. plus ≡ is_now)
turns_to true true = tt
turns_to true false = refl
turns_to false true = refl
turns_to false false = tt

-- the tables say the rulings of the book
pub ruled_back : (naming : Naming) (book : Book) → IsReadable naming book
    → ruled (tables_of naming book) ≡ book.rulings
ruled_back naming book whole = rulings_back naming book whole

-- the number of a period, counted back from the open one
counted_from : (last closed k m : ℕ) → last ≡ closed + 1 → suc k + m ≡ suc closed → last - k ≡ suc m
counted_from last closed k m is place = omega (arith, is, place)

module _ (naming : Naming) (book : Book) (whole : IsReadable naming book) (bytes : List ℕ)
    (there : has book.held bytes ≡ true) where
  abbrev tables : Tables
  tables = tables_of naming book

  abbrev name : List ℕ
  name = name_of naming bytes

  -- whether it is charged now
  abbrev now : Bool
  now = has (charged_of book) bytes

  -- the number of the period of its day
  abbrev pub own : ℕ
  own = period_from 1 book.rulings.closes (day_of bytes)

  -- it has begun
  pub own_begun : own ≤ suc (length book.rulings.closes)
  own_begun =
      let most = most_period 1 book.rulings.closes (day_of bytes) in
      omega (arith, most)

  pub own_numbered : 0 < own
  own_numbered =
      let least = least_period 1 book.rulings.closes (day_of bytes) in
      omega (arith, least)

  -- the close before a later period is not before its day
  early : (m : ℕ) → m ≤ length book.rulings.closes → own ≤ m
      → is_dated_after (close_after m book.rulings.closes) bytes ≡ false
  early m within later =
      after_close bytes book.rulings.closes m whole.in_order within ∙ le-ltb m own later

  -- so its line there is the one by what was charged before and at the end
  line_is : (k m : ℕ) → suc k + m ≡ suc (length book.rulings.closes) → own ≤ m
      → line_at tables name (open_by (ruled tables) - k)
      ≡ line_by (has (sets naming book whole m) bytes) (has (sets naming book whole (suc m)) bytes)
  line_is k m place later =
      let within : m ≤ length book.rulings.closes = omega (arith, place) in
      ap (line_at tables name)
      (counted_from (open_by (ruled tables)) (length book.rulings.closes) k m
      (ap open_by (ruled_back naming book whole)) place)
      ∙ line_there naming book whole bytes there m within (early m within later)

  -- and whether it was charged before the last k periods is told by its mark and its lines
  pub told : (k m : ℕ) → k + m ≡ suc (length book.rulings.closes) → own ≤ m
      → charged_back tables name k now ≡ has (sets naming book whole m) bytes
  told zero m place later =
      let past = lt-leb m (length book.rulings.closes) (omega (arith, place)) in
      ap (λ b. has (if b then whole.past.charged m else charged_of book) bytes) (sym past)
  told (suc k) m place later =
      let rest = told k (suc m) (omega (arith, place)) (omega (arith, later)) in
      (λ i. option_map_or not (line_is k m place later i) (rest i))
      ∙ told_before (has (sets naming book whole m) bytes)
      (has (sets naming book whole (suc m)) bytes)

  -- and its lines are in turn
  pub in_turn : (k m : ℕ) → k + m ≡ suc (length book.rulings.closes) → own ≤ m
      → AreInTurn tables name k now
  in_turn zero m place later = tt
  in_turn (suc k) m place later =
      let ended : Bool = has (sets naming book whole (suc m)) bytes in
      let last = told k (suc m) (omega (arith, place)) (omega (arith, later)) in (
        subst (λ (is_now : Bool). IfSome (line_at tables name (open_by (ruled tables) - k))
            (λ plus. plus ≡ is_now)) (sym last)
            (subst (λ (line : Option Bool). IfSome line (λ plus. plus ≡ ended))
            (sym (line_is k m place later))
            (turns_to (has (sets naming book whole m) bytes) ended)),
        in_turn k (suc m) (omega (arith, place)) (omega (arith, later)),
      )

  -- how many periods there are after that of its day
  abbrev pub later_periods : ℕ
  later_periods = open_by book.rulings - own

  pub all_later : later_periods + own ≡ suc (length book.rulings.closes)
  all_later =
      let begun = own_begun in
      omega (arith, begun)

  -- by its row there are as many
  pub later_are : (priced : Priced) → price_in book.rulings bytes ≡ Some priced
      → periods_after tables
      (record_row book.rulings (charged_of book) book.posted bytes priced)
      ≡ later_periods
  later_are priced price =
      let same = ruled_back naming book whole in
      λ i. open_by (same i)
      - period_from 1 (same i).closes (day-price book.rulings bytes priced price i)
