-- The laws of withheld works and of credits over whole histories.
use Rattle.std.specs.Prelude.{◌≡◌, ℕ, true, ◌||◌, All, length, List, ◌++◌, pos, ℤ, Option, Some}
use Rattle.std.specs.Prelude.{if◌then◌else◌, nat_le, Result, Ok, Err}
use Rattle.book_model.specs.declared.answer.Ruled.{Ruled}
use Rattle.book_model.specs.declared.answer.Ruled.TheVariants.{Already, Done}
use Rattle.book_model.specs.declared.fault.LedgerFault.{LedgerFault}
use Rattle.book_model.specs.declared.fault.LedgerFault.TheVariants.{Full, NotDisputed}
use Rattle.book_model.specs.Words.{Book, Event, Naming, Period, Records, Rulings, CreditGiven}
use Rattle.book_model.specs.Words.{adjustments_outcome, all_periods, bill_of, book_after}
use Rattle.book_model.specs.Words.{charges_outcome, chosen_answer, credits_asked, credits_in}
use Rattle.book_model.specs.Words.{disputes_outcome, give, is_chosen, is_undisputed, is_unrivalled}
use Rattle.book_model.specs.Words.{is_withheld, most_choices, periods_outcome, with_credit}
use Rattle.book_model.specs.Words.{Terms, replace_answer, tariffs_in, with_replaced}
use Rattle.table_model.specs.Words.{IsReadable}
use Rattle.book_laws.specs.ClosedPeriods.{IsClosed}
use Rattle.book_laws.specs.NetCounts.{net_count}

-- Over all periods of the book that a history leaves each record of a work that is withheld nets to
-- nothing, whichever of them were charged before.
abbrev pub WithheldNetsToNothing : Type 0
WithheldNetsToNothing =
    (history : List Event) (bytes : List ℕ)
    → is_withheld (book_after history).rulings bytes ≡ true
    → net_count (all_periods (book_after history)) bytes ≡ pos 0

-- Whatever events follow, a closed period has the credits, of a centre or of all, that it had.
abbrev pub ClosedCreditsStay : Type 0
ClosedCreditsStay =
    (later earlier : List Event) (number : ℕ) (centre : Option (List ℕ))
    → IsClosed number (book_after earlier)
    → credits_asked centre (credits_in number (book_after (later ++ earlier)).rulings)
    ≡ credits_asked centre (credits_in number (book_after earlier).rulings)

-- A credit changes what a bill says of credits, and nothing else of it; and no statement, no list of
-- adjustments, of disputes or of periods.
pub record CreditsChangeBillsAlone : Type 0 where
  pub bills :
      (naming : Naming) (book : Book) (number : ℕ) (of : Option (List ℕ)) (period : Period)
      (centre : List ℕ) (amount : ℤ) (reason : List ℕ)
      → bill_of naming (give (CreditGiven centre amount reason) book) number of period
      ≡ record (bill_of naming book number of period) {
        credits = credits_asked of
            (credits_in number (with_credit centre amount reason book.rulings));
      }
  pub charges :
      (book : Book) (number : ℕ) (centre : List ℕ) (amount : ℤ) (reason : List ℕ)
      → charges_outcome number (give (CreditGiven centre amount reason) book)
      ≡ charges_outcome number book
  pub adjustments :
      (naming : Naming) (book : Book) (number : ℕ) (centre : List ℕ) (amount : ℤ) (reason : List ℕ)
      → adjustments_outcome naming number (give (CreditGiven centre amount reason) book)
      ≡ adjustments_outcome naming number book
  pub disputes :
      (naming : Naming) (book : Book) (centre : List ℕ) (amount : ℤ) (reason : List ℕ)
      → disputes_outcome naming (give (CreditGiven centre amount reason) book)
      ≡ disputes_outcome naming book
  pub periods :
      (book : Book) (centre : List ℕ) (amount : ℤ) (reason : List ℕ)
      → periods_outcome (give (CreditGiven centre amount reason) book) ≡ periods_outcome book

-- each choice is of a record
abbrev pub AreOfRecords : Rulings → Type 0
AreOfRecords rulings = All (λ choice. choice.counts ≡ true) rulings.choices

-- the answer to a choice where none was of none
abbrev pub plain_answer : Book → List ℕ → Result Ruled LedgerFault
plain_answer book bytes =
    if is_unrivalled book.rulings book.held bytes then Err NotDisputed
    else if is_chosen book.rulings bytes then Ok Already
    else if nat_le most_choices (length book.rulings.choices) then Err Full
    else Ok Done

-- Where no work was ever withheld, a record is undisputed that no other contradicts, or that was chosen
-- last of its work; and a choice is answered by that alone.
pub record UnusedChangesNothing : Type 0 where
  pub undisputed :
      (rulings : Rulings) (held : Records) (bytes : List ℕ) → AreOfRecords rulings
      → is_undisputed rulings held bytes ≡ (is_unrivalled rulings held bytes || is_chosen rulings bytes)
  pub answer :
      (book : Book) (bytes : List ℕ) → AreOfRecords book.rulings
      → chosen_answer book (Some bytes) ≡ plain_answer book bytes

-- No text that takes the place of a tariff changes the tariffs of a closed period: so the bill of that
-- period has the same rates and the same letterhead.
abbrev pub ClosedTariffsStay : Type 0
ClosedTariffsStay =
    (naming : Naming) (book : Book) (text : List ℕ) (terms : Terms) (number : ℕ)
    → IsReadable naming book → IsClosed number book
    → replace_answer book text terms ≡ Ok Done
    → tariffs_in number (with_replaced text terms book.rulings) ≡ tariffs_in number book.rulings
