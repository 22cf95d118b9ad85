-- What the definitions answer leaves open books open: they tell no fault of a store, and not that
-- books are to be reopened.
use Rattle.std.proofs.Common.{◌≡◌, ℕ, List, refl, Bool, true, false, not, Option, None, Some}
use Rattle.std.proofs.Common.{Result, Ok, Err, length, ℤ, ◌==◌, if◌then◌else◌, ok_or, nat_le}
use Rattle.std.proofs.Common.{◌&&◌, ◌||◌, nat_lt, sum_by}
use Rattle.std.specs.List.{list_any}
use Rattle.book_model.specs.declared.fault.LedgerFault.{LedgerFault}
use Rattle.book_model.specs.declared.fault.LedgerFault.TheVariants.{NoSuchPeriod, NoSuchRecord}
use Rattle.book_model.specs.Words.{TariffFault, Priced, terms_ruled, Book, Naming, Period, Rulings}
use Rattle.book_model.specs.Words.{Terms, accept_answer, accept_priced, adopt_answer, chosen_answer}
use Rattle.book_model.specs.Words.{clashes, close_answer, costs_under, has, has_text, is_chosen}
use Rattle.book_model.specs.Words.{is_closed, is_early, is_effective, is_full, is_later}
use Rattle.book_model.specs.Words.{is_too_dear, is_unrivalled, last_period, most_cost}
use Rattle.book_model.specs.Words.{open_by, price_in, rule_by, second_rule, tariff_answer}
use Rattle.book_model.specs.Words.{what_if_answer, with_tariff, AdoptionAsked, ChoiceAsked}
use Rattle.book_model.specs.Words.{CloseAsked, RulingAsked, TariffAsked, record_named, rule_outcome}
use Rattle.book_model.specs.Words.{terms_in, is_withheld, was_withheld, CreditAsked}
use Rattle.book_model.specs.Words.{ReplacementAsked, WithholdingAsked, credit_ruled, is_after}
use Rattle.book_model.specs.Words.{has_most_choices, is_credit, is_known_centre, last_close, most_credits}
use Rattle.book_model.specs.Words.{most_replaced, replace_ruled, replacing_answer, with_replaced}
use Rattle.book_model.specs.Words.{Note, withheld_answer}
use Rattle.book_core.specs.Calls.{LeavesOpen, is_reopen, is_store}

-- an answer leaves books open
pub opens : {V : Type 0} {answer : Result V LedgerFault} → is_store answer ≡ false
    → is_reopen answer ≡ false → LeavesOpen answer
opens stored served = record { stored = stored; served = served }

-- so does one of two that do, by a test
pub opens_if : {V : Type 0} {one other : Result V LedgerFault} (test : Bool) → LeavesOpen one
    → LeavesOpen other → LeavesOpen (if test then one else other)
opens_if true first second = first
opens_if false first second = second

-- what is there in any case,
pub answered_open : {A : Type 0} (list : A) → LeavesOpen {V = A} (Ok list)
answered_open list = opens refl refl

-- and what is found, where there is such a period
pub listed_open : {A : Type 0} (found : Option A) → LeavesOpen (ok_or found NoSuchPeriod)
listed_open None = opens refl refl
listed_open (Some list) = opens refl refl

-- or such a record
pub named_open : {A : Type 0} (found : Option A) → LeavesOpen (ok_or found NoSuchRecord)
named_open None = opens refl refl
named_open (Some one) = opens refl refl

-- the rows by another tariff
pub what_if_open : (terms : Terms) (found : Option Period) → LeavesOpen (what_if_answer terms found)
what_if_open terms None = opens refl refl
what_if_open terms (Some period) =
    opens_if (nat_lt most_cost (sum_by (λ one. one.amount) (costs_under terms period.counted)))
    (opens refl refl) (opens refl refl)

-- a record
by_price : (book : Book) (price : Option Priced) → LeavesOpen (accept_priced book price)
by_price book None = opens refl refl
by_price book (Some priced) =
    opens_if (is_full book priced.amount) (opens refl refl) (opens refl refl)

pub accept_open : (naming : Naming) (book : Book) (bytes : List ℕ)
    → LeavesOpen (accept_answer naming book bytes)
accept_open naming book bytes =
    opens_if (has book.held bytes) (opens refl refl)
    (opens_if (clashes naming book.held bytes) (opens refl refl)
    (by_price book (price_in book.rulings bytes)))

-- a tariff
pub terms_open : (rulings : Rulings) (dear : Bool) (text : List ℕ) (terms : Terms)
    → LeavesOpen (terms_ruled rulings dear text terms)
terms_open rulings dear text terms =
    opens_if (list_any (has_text text) rulings.tariffs) (opens refl refl)
    (opens_if (list_any (is_effective terms.effective) rulings.tariffs) (opens refl refl)
    (opens_if (not (is_later terms.effective rulings)) (opens refl refl)
    (opens_if dear (opens refl refl) (opens refl refl))))

tariff_open : (book : Book) (text : List ℕ) (said : Result Terms TariffFault)
    → LeavesOpen (tariff_answer book text said)
tariff_open book text (Err fault) = opens refl refl
tariff_open book text (Ok terms) =
    terms_open book.rulings (is_too_dear (with_tariff (Some text) terms book.rulings) book.held) text
    terms

-- a close
pub close_open : (rulings : Rulings) (number : ℕ) (day : ℤ)
    → LeavesOpen (close_answer rulings number day)
close_open rulings number day =
    opens_if (is_closed number day rulings) (opens refl refl)
    (opens_if (not (number == open_by rulings)) (opens refl refl)
    (opens_if (is_early day rulings) (opens refl refl)
    (opens_if (number == last_period) (opens refl refl) (opens refl refl))))

-- a choice
choose_open : (book : Book) (meant : Option (List ℕ)) → LeavesOpen (chosen_answer book meant)
choose_open book None = opens refl refl
choose_open book (Some bytes) =
    opens_if (is_unrivalled book.rulings book.held bytes && not (was_withheld book.rulings bytes))
    (opens refl refl)
    (opens_if (is_chosen book.rulings bytes && not (is_withheld book.rulings bytes))
    (opens refl refl)
    (opens_if (has_most_choices book.rulings) (opens refl refl) (opens refl refl)))

-- a rule of identity
adopt_open : (rulings : Rulings) (rule : ℕ) → LeavesOpen (adopt_answer rulings rule)
adopt_open rulings rule =
    opens_if (rule == rule_by rulings) (opens refl refl)
    (opens_if (rule == second_rule) (opens refl refl) (opens refl refl))

-- a tariff in the place of another
pub replaced_open : (rulings : Rulings) (full : Bool) (text : List ℕ) (terms : Terms)
    → LeavesOpen (replace_ruled rulings full text terms)
replaced_open rulings full text terms =
    opens_if (list_any (has_text text) rulings.tariffs) (opens refl refl)
    (opens_if (not (list_any (is_effective terms.effective) rulings.tariffs)) (opens refl refl)
    (opens_if (not (is_after (last_close rulings) terms.effective)) (opens refl refl)
    (opens_if full (opens refl refl) (opens refl refl))))

replace_open : (book : Book) (text : List ℕ) (said : Result Terms TariffFault)
    → LeavesOpen (replacing_answer book text said)
replace_open book text (Err fault) = opens refl refl
replace_open book text (Ok terms) =
    replaced_open book.rulings
    (is_too_dear (with_replaced text terms book.rulings) book.held
    || nat_le most_replaced (length book.rulings.replaced))
    text terms

-- the choice of none
withhold_open : (book : Book) (meant : Option (List ℕ)) → LeavesOpen (withheld_answer book meant)
withhold_open book None = opens refl refl
withhold_open book (Some bytes) =
    opens_if (is_withheld book.rulings bytes) (opens refl refl)
    (opens_if (has_most_choices book.rulings) (opens refl refl) (opens refl refl))

-- a credit
pub credit_open : (rulings : Rulings) (given full : Bool) (number : ℕ) (centre : List ℕ)
    → LeavesOpen (credit_ruled rulings given full number centre)
credit_open rulings given full number centre =
    opens_if given (opens refl refl)
    (opens_if (not (number == open_by rulings)) (opens refl refl)
    (opens_if (not (is_known_centre rulings centre)) (opens refl refl)
    (opens_if full (opens refl refl) (opens refl refl))))

-- any of these rulings
pub ruling_open : (naming : Naming) (noted : Option Note) (book : Book) (ruling : RulingAsked)
    → LeavesOpen (rule_outcome naming noted ruling book).answer
ruling_open naming noted book (TariffAsked text) = tariff_open book text (terms_in text)
ruling_open naming noted book (CloseAsked number day) = close_open book.rulings number day
ruling_open naming noted book (ChoiceAsked name) =
    choose_open book (record_named naming book.held name)
ruling_open naming noted book (AdoptionAsked rule) = adopt_open book.rulings rule
ruling_open naming noted book (ReplacementAsked text) = replace_open book text (terms_in text)
ruling_open naming noted book (WithholdingAsked name) =
    withhold_open book (record_named naming book.held name)
ruling_open naming noted book (CreditAsked number centre amount reason) =
    credit_open book.rulings
    (list_any (is_credit number centre amount reason) book.rulings.credits)
    (nat_le most_credits (length book.rulings.credits)) number centre
