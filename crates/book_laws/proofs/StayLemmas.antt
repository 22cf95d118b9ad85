-- Details of closed periods stay, and come one after another.
use Rattle.std.proofs.Common.{◌≡◌, ℕ, List, [], ◌∷◌, ◌++◌, refl, sym, ap, ◌∙◌, subst, true, false}
use Rattle.std.proofs.Common.{true≢false, Bool, cond, Option, Some, None, suc, length, append-nil}
use Rattle.std.proofs.Common.{ℤ, int_lt, filter, ok_or, option_map}
use Rattle.book_model.proofs.Std.{IsStrictlySortedBy, filter-append}
use Rattle.book_model.specs.Words.{day_of, AreAllDatedThrough, Book, Event, IsSound, Naming}
use Rattle.book_model.specs.Words.{Period, PeriodClosed, RulingGiven, Rulings, TariffAccepted}
use Rattle.book_model.specs.Words.{TariffReplaced}
use Rattle.book_model.specs.Words.{book_after, is_dated_after, last_close, members, no_event}
use Rattle.book_model.specs.Words.{open_number, period_of, period_on, price_in, set_of, by_detail}
use Rattle.book_model.specs.Words.{after_all, detail_by, detail_of, details_asked, details_for}
use Rattle.book_model.specs.Words.{details_of, details_outcome, next_after}
use Rattle.book_model.proofs.Lemmas.{calls_go_forward, closed_prices_stay, last_or-behind}
use Rattle.book_model.proofs.Lemmas.{pick-agree}
use Rattle.book_model.proofs.DetailLemmas.{asked_rise, details_rise}
use Rattle.book_model.proofs.DetailOrder.{next_in}
use Rattle.book_model.proofs.ReplacedLemmas.{replaced_prices_stay}
use Rattle.book_model.proofs.SoundLemmas.{later_still}
use Rattle.book_laws.proofs.ClosedLemmas.{found_past, past_period, stays_alike}
use Rattle.book_laws.proofs.LaterLemmas.{made_later, of_history, sound_before}
use Rattle.book_laws.proofs.Words.{NoSuchPeriod, IsClosed}
use Rattle.book_laws.specs.DetailStays.{BooksKeepDetails, DetailsStay, NextIsNext}
use Rattle.book_model.specs.MadeByCalls.{AreMadeOf}

-- one more close is none of those before a day that it is not before
place_stays : (closes : List ℤ) (close day : ℤ) → int_lt close day ≡ false
    → period_on (closes ++ close ∷ []) day ≡ period_on closes day
place_stays closes close day late =
    let before : ℤ → Bool = λ one. int_lt one day in
    ap (λ (days : List ℤ). suc (length days))
    (filter-append before closes (close ∷ [])
    ∙ ap (λ b. filter before closes ++ cond b (close ∷ []) []) late
    ∙ append-nil (filter before closes))

-- A record that is dated no later than the last close of some books stays so, costs the same, and
-- belongs to the same period, whatever calls follow.
pub record Keeps (old new : Book) (bytes : List ℕ) : Type 0 where
  pub early : is_dated_after (last_close new.rulings) bytes ≡ false
  pub price : price_in new.rulings bytes ≡ price_in old.rulings bytes
  pub place : period_on new.rulings.closes (day_of bytes)
      ≡ period_on old.rulings.closes (day_of bytes)

pub keeps : (naming : Naming) (later : List Event) (start : Book) (bytes : List ℕ)
    → AreMadeOf naming start later → is_dated_after (last_close start.rulings) bytes ≡ false
    → Keeps start (after_all later start) bytes
keeps naming [] start bytes made early = record { early = early; price = refl; place = refl }
keeps naming (PeriodClosed said day ∷ later) start bytes made early =
    let before = keeps naming later start bytes made.1 early in
    let book : Book = after_all later start in
    let late = later_still (last_close book.rulings) day bytes
    (calls_go_forward.close book (open_number book) day made.0) before.early in record {
      early = ap (λ close. is_dated_after close bytes) (last_or-behind None book.rulings.closes day)
          ∙ late;
      price = before.price;
      place = place_stays book.rulings.closes day (day_of bytes) late ∙ before.place;
    }
keeps naming (RulingGiven said (TariffAccepted (Some text) terms) ∷ later) start bytes made early =
    let before = keeps naming later start bytes made.1 early in record {
      early = before.early;
      price = closed_prices_stay (after_all later start) text terms bytes made.0 before.early
          ∙ before.price;
      place = before.place;
    }
keeps naming (RulingGiven said (TariffAccepted None terms) ∷ later) start bytes made early =
    let before = keeps naming later start bytes made.1 early in
    let never : true ≡ false =
    subst (λ (book : Book). is_dated_after (last_close book.rulings) bytes ≡ false) made.0
    before.early in
    absurd (true≢false never)
keeps naming (RulingGiven said (TariffReplaced text terms) ∷ later) start bytes made early =
    let before = keeps naming later start bytes made.1 early in record {
      early = before.early;
      price = replaced_prices_stay (after_all later start) text terms bytes made.0 before.early
          ∙ before.price;
      place = before.place;
    }
keeps naming (event ∷ later) start bytes made early =
    let before = keeps naming later start bytes made.1 early in
    record { early = before.early; price = before.price; place = before.place }

-- A closed period stays the one of its number, with its details.
pub record KeepsPeriod (naming : Naming) (number : ℕ) (old new : Book) : Type 0 where
  pub period : Period
  pub dated : AreAllDatedThrough (last_close old.rulings) period
  pub was : period_of old number ≡ Some period
  pub is : period_of new number ≡ Some period
  pub details : details_of naming new.rulings period ≡ details_of naming old.rulings period

pub keeps_period : (naming : Naming) (later : List Event) (old : Book) (number : ℕ)
    → IsSound naming old → AreMadeOf naming old later → IsClosed number old
    → KeepsPeriod naming number old (after_all later old)
keeps_period naming later old number sound made closed =
    let new : Book = after_all later old in
    let there = past_period naming number old sound closed in
    let was : period_of old number ≡ Some there.0 = found_past number old closed ∙ there.1 in
    record {
      period = there.0;
      dated = there.2;
      was = was;
      is = (stays_alike naming later old number sound made closed).period ∙ was;
      details =
          ap (λ details. members (set_of by_detail details))
          (pick-agree (detail_of naming new.rulings) (detail_of naming old.rulings) there.0.counted
          (λ bytes counted. ap (option_map (detail_by naming bytes))
          (keeps naming later old bytes made (there.2.counted bytes counted)).price));
    }

-- so its details are answered as they were
answered_alike : (naming : Naming) (later : List Event) (old : Book) (number : ℕ)
    (centre : Option (List ℕ)) → IsSound naming old → AreMadeOf naming old later
    → IsClosed number old
    → details_outcome naming number centre (after_all later old)
    ≡ details_outcome naming number centre old
answered_alike naming later old number centre sound made closed =
    let new : Book = after_all later old in
    let kept = keeps_period naming later old number sound made closed in
    let by = λ (ruled : Rulings) (found : Option Period).
    no_event (ok_or (option_map (λ period. details_asked centre (details_of naming ruled period))
    found) NoSuchPeriod) in
    ap (by new.rulings) kept.is
    ∙ ap (λ details. no_event (ok_or (Some (details_asked centre details)) NoSuchPeriod)) kept.details
    ∙ sym (ap (by old.rulings) kept.was)

-- the law, of books that can be read back
pub books_keep_details : BooksKeepDetails
books_keep_details naming book later number centre whole made closed =
    answered_alike naming later book number centre whole.sound made closed

-- and of histories
pub details_stay : DetailsStay
details_stay naming later earlier number centre answered closed =
    let old : Book = book_after earlier in
    of_history (λ new. details_outcome naming number centre new
    ≡ details_outcome naming number centre old) later earlier
    (answered_alike naming later old number centre (sound_before naming later earlier answered)
    (made_later naming later earlier answered) closed)

-- the law
pub next_is_next : NextIsNext
next_is_next naming rulings records centre read last rest is =
    ap (next_after (Some last)) is
    ∙ next_in read last rest
    (subst (IsStrictlySortedBy by_detail) is
    (asked_rise centre (details_for naming rulings records) (details_rise naming rulings records)))
