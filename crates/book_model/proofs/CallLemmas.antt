-- The calls let rulings go forward only, so what is settled keeps its price.
use Rattle.std.proofs.Common.{◌≡◌, ℕ, List, arith, not, true, false, true≢false, Option, Some, None}
use Rattle.std.proofs.Common.{Ok, ℤ, ◌<ℤ◌, MatchOption}
use Rattle.std.proofs.lemmas.Int.{ints}
use Rattle.book_model.specs.declared.answer.Ruled.TheVariants.{Done}
use Rattle.book_model.specs.Words.{day_of, Terms, Book, is_dated_after, is_after, IsAfterLastClose}
use Rattle.book_model.specs.Words.{last_close, terms_answer, close_answer}
use Rattle.book_model.specs.Laws.{CallsGoForward, ClosedPricesStay}
use Rattle.book_model.proofs.LatestLemmas.{later-after}
use Rattle.book_model.proofs.PricingLemmas.{earlier_prices_stay}
use Rattle.book_model.proofs.TestLemmas.{close_passes, tariff_passes}

-- a day that is after the last close, if there was one
later_than : (last : Option ℤ) (day : ℤ) → is_after last day ≡ true
    → MatchOption last (Unit {0}) (λ close. close <ℤ day)
later_than None day is = tt
later_than (Some close) day is = grind (arith, ints)

-- a tariff that is put in force begins after the last close
tariff_done : (book : Book) (text : List ℕ) (terms : Terms) → terms_answer book text terms ≡ Ok Done
    → IsAfterLastClose book.rulings terms.effective
tariff_done book text terms is =
    later_than (last_close book.rulings) terms.effective
    (later-after terms.effective book.rulings (tariff_passes book text terms is).later)

-- a day that is not after the last close is before a day that is
before_it : (last : Option ℤ) (bytes : List ℕ) (day : ℤ) → is_dated_after last bytes ≡ false
    → MatchOption last (Unit {0}) (λ close. close <ℤ day) → day_of bytes <ℤ day
before_it None bytes day early after = absurd (true≢false early)
before_it (Some close) bytes day early after = grind (arith, ints)

-- so a tariff that is put in force changes no price of a record that is settled
pub closed_prices_stay : ClosedPricesStay
closed_prices_stay book text terms bytes is early =
    earlier_prices_stay book.rulings (Some text) terms bytes
    (before_it (last_close book.rulings) bytes terms.effective early
    (tariff_done book text terms is))

-- or is not early
not_early : (last : Option ℤ) (day : ℤ) → not (is_after last day) ≡ false
    → MatchOption last (Unit {0}) (λ close. close <ℤ day)
not_early None day is = tt
not_early (Some close) day is = grind (arith, ints)

-- a period is closed through a day after the last close
close_done : (book : Book) (number : ℕ) (day : ℤ) → close_answer book.rulings number day ≡ Ok Done
    → IsAfterLastClose book.rulings day
close_done book number day is =
    not_early (last_close book.rulings) day (close_passes book number day is).later

-- the law of it
pub calls_go_forward : CallsGoForward
calls_go_forward = record { tariff = tariff_done; close = close_done }
