-- What passed the tests of a call: a record that is kept, and a ruling that is done.
use Rattle.std.proofs.Common.{◌≡◌, ℕ, List, Bool, true, false, not, Option, Some, None, Result, Ok}
use Rattle.std.proofs.Common.{Err, refl, length, if◌then◌else◌, ◌==◌, ◌&&◌, ◌||◌, ℤ, IsSome, nat_le}
use Rattle.std.proofs.Common.{eqb-true}
use Rattle.std.specs.List.{list_any}
use Rattle.book_model.specs.declared.answer.Accepted.{Accepted}
use Rattle.book_model.specs.declared.answer.Accepted.TheVariants.{Kept, Known}
use Rattle.book_model.specs.declared.answer.Ruled.{Ruled}
use Rattle.book_model.specs.declared.answer.Ruled.TheVariants.{Done, Already}
use Rattle.book_model.specs.declared.fault.LedgerFault.{LedgerFault}
use Rattle.book_model.specs.declared.fault.LedgerFault.TheVariants.{DigestClash, Full, NotDisputed}
use Rattle.book_model.specs.declared.fault.LedgerFault.TheVariants.{NotLater, TariffDate}
use Rattle.book_model.specs.declared.fault.LedgerFault.TheVariants.{TariffExists, WrongPeriod}
use Rattle.book_model.specs.declared.fault.LedgerFault.TheVariants.{NoSuchCentre, NoSuchTariff}
use Rattle.book_model.specs.Words.{Terms, Priced, accept_answer, accept_priced, clashes, Book}
use Rattle.book_model.specs.Words.{open_number, is_chosen, is_unrivalled, last_period, most_choices}
use Rattle.book_model.specs.Words.{Naming, chosen_answer, close_answer, has_text, is_closed}
use Rattle.book_model.specs.Words.{is_early, is_effective, is_later, is_too_dear, terms_answer}
use Rattle.book_model.specs.Words.{price_in, with_tariff, has, is_withheld, was_withheld, is_after}
use Rattle.book_model.specs.Words.{last_close, most_replaced, replace_answer, with_replaced}
use Rattle.book_model.specs.Words.{credit_answer, is_known_centre, is_credit, most_credits}
use Rattle.book_model.specs.Words.{withheld_answer}

-- a record that is kept: it is new, no other has its name, and there is room for its price
pub record KeptPasses (known clash : Bool) (priced : Result Accepted LedgerFault) : Type 0 where
  pub is_new : known ≡ false
  pub alone : clash ≡ false
  pub fits : priced ≡ Ok Kept

kept_tests : (known clash : Bool) (priced : Result Accepted LedgerFault)
    → (if known then Ok Known else if clash then Err DigestClash else priced) ≡ Ok Kept
    → KeptPasses known clash priced
kept_tests true clash priced is = cc
kept_tests false true priced is = cc
kept_tests false false priced is = record { is_new = refl; alone = refl; fits = is }

pub kept_passes : (naming : Naming) (book : Book) (bytes : List ℕ)
    → accept_answer naming book bytes ≡ Ok Kept
    → KeptPasses (has book.held bytes) (clashes naming book.held bytes)
    (accept_priced book (price_in book.rulings bytes))
kept_passes naming book bytes is =
    kept_tests (has book.held bytes) (clashes naming book.held bytes)
    (accept_priced book (price_in book.rulings bytes)) is

-- so it has a price
pub kept_price : (book : Book) (price : Option Priced) → accept_priced book price ≡ Ok Kept
    → IsSome price
kept_price book None is = cc
kept_price book (Some priced) is = refl

-- the answer to a tariff by what each test gives, in their order
abbrev pub by_tests : Bool → Bool → Bool → Bool → Result Ruled LedgerFault
by_tests told there late dear =
    if told then Ok Already
    else if there then Err TariffExists
    else if not late then Err TariffDate
    else if dear then Err Full
    else Ok Done

-- a tariff that is put in force: its text and its day are new, it is later than all that was ruled,
-- and there is room for the new prices
pub record TariffPasses (told there late dear : Bool) : Type 0 where
  pub is_new : told ≡ false
  pub free : there ≡ false
  pub later : late ≡ true
  pub fits : dear ≡ false

pub tariff_tests : (told there late dear : Bool) → by_tests told there late dear ≡ Ok Done
    → TariffPasses told there late dear
tariff_tests true there late dear is = cc
tariff_tests false true late dear is = cc
tariff_tests false false false dear is = cc
tariff_tests false false true true is = cc
tariff_tests false false true false is =
    record { is_new = refl; free = refl; later = refl; fits = refl }

pub tariff_passes : (book : Book) (text : List ℕ) (terms : Terms)
    → terms_answer book text terms ≡ Ok Done
    → TariffPasses (list_any (has_text text) book.rulings.tariffs)
    (list_any (is_effective terms.effective) book.rulings.tariffs)
    (is_later terms.effective book.rulings)
    (is_too_dear (with_tariff (Some text) terms book.rulings) book.held)
tariff_passes book text terms is =
    tariff_tests (list_any (has_text text) book.rulings.tariffs)
    (list_any (is_effective terms.effective) book.rulings.tariffs)
    (is_later terms.effective book.rulings)
    (is_too_dear (with_tariff (Some text) terms book.rulings) book.held) is

-- the answer to a close by the tests in their order
abbrev pub close_by : ℕ → Bool → Bool → Bool → Bool → Result Ruled LedgerFault
close_by number_open closed is_open early full =
    if closed then Ok Already
    else if not is_open then Err (WrongPeriod number_open)
    else if early then Err NotLater
    else if full then Err Full
    else Ok Done

-- a period that is closed: it was the open one, its day is later, and another can follow
pub record ClosePasses (is_open early full : Bool) : Type 0 where
  pub was_open : is_open ≡ true
  pub later : early ≡ false
  pub room : full ≡ false

close_tests : (number_open : ℕ) (closed is_open early full : Bool)
    → close_by number_open closed is_open early full ≡ Ok Done → ClosePasses is_open early full
close_tests number_open true is_open early full is = cc
close_tests number_open false false early full is = cc
close_tests number_open false true true full is = cc
close_tests number_open false true false true is = cc
close_tests number_open false true false false is =
    record { was_open = refl; later = refl; room = refl }

pub close_passes : (book : Book) (number : ℕ) (day : ℤ)
    → close_answer book.rulings number day ≡ Ok Done
    → ClosePasses (number == open_number book) (is_early day book.rulings) (number == last_period)
close_passes book number day is =
    close_tests (open_number book) (is_closed number day book.rulings) (number == open_number book)
    (is_early day book.rulings) (number == last_period) is

-- so its number is that of the open period
pub closed_open : (book : Book) (number : ℕ) (day : ℤ)
    → close_answer book.rulings number day ≡ Ok Done → number ≡ open_number book
closed_open book number day is =
    eqb-true number (open_number book) (close_passes book number day is).was_open

-- a record that is chosen: it has rivals, or its work was withheld; it is not the one that counts
-- already; and there is room for one more choice
pub record ChoicePasses (lone chosen full : Bool) : Type 0 where
  pub decides : lone ≡ false
  pub is_new : chosen ≡ false
  pub room : full ≡ false

choice_tests : (lone chosen full : Bool)
    → (if lone then Err NotDisputed else if chosen then Ok Already else if full then Err Full
    else Ok Done) ≡ Ok Done
    → ChoicePasses lone chosen full
choice_tests true chosen full is = cc
choice_tests false true full is = cc
choice_tests false false true is = cc
choice_tests false false false is = record { decides = refl; is_new = refl; room = refl }

pub choice_passes : (book : Book) (bytes : List ℕ) → chosen_answer book (Some bytes) ≡ Ok Done
    → ChoicePasses
    (is_unrivalled book.rulings book.held bytes && not (was_withheld book.rulings bytes))
    (is_chosen book.rulings bytes && not (is_withheld book.rulings bytes))
    (nat_le most_choices (length book.rulings.choices))
choice_passes book bytes is =
    choice_tests
    (is_unrivalled book.rulings book.held bytes && not (was_withheld book.rulings bytes))
    (is_chosen book.rulings bytes && not (is_withheld book.rulings bytes))
    (nat_le most_choices (length book.rulings.choices)) is

-- a work that is withheld: it was not, and there is room for one more choice
pub record WithholdPasses (withheld full : Bool) : Type 0 where
  pub is_new : withheld ≡ false
  pub room : full ≡ false

withhold_tests : (withheld full : Bool)
    → (if withheld then Ok Already else if full then Err Full else Ok Done) ≡ Ok Done
    → WithholdPasses withheld full
withhold_tests true full is = cc
withhold_tests false true is = cc
withhold_tests false false is = record { is_new = refl; room = refl }

pub withhold_passes : (book : Book) (bytes : List ℕ) → withheld_answer book (Some bytes) ≡ Ok Done
    → WithholdPasses (is_withheld book.rulings bytes)
    (nat_le most_choices (length book.rulings.choices))
withhold_passes book bytes is =
    withhold_tests (is_withheld book.rulings bytes)
    (nat_le most_choices (length book.rulings.choices)) is

-- a tariff that is replaced: the text is not in force, some tariff begins on its day, that day is
-- open, and there is room for the new prices
pub record ReplacePasses (told there late dear : Bool) : Type 0 where
  pub is_new : told ≡ false
  pub found : there ≡ true
  pub later : late ≡ true
  pub fits : dear ≡ false

pub replace_tests : (told there late dear : Bool)
    → (if told then Ok Already
    else if not there then Err NoSuchTariff
    else if not late then Err TariffDate
    else if dear then Err Full
    else Ok Done) ≡ Ok Done
    → ReplacePasses told there late dear
replace_tests true there late dear is = cc
replace_tests false false late dear is = cc
replace_tests false true false dear is = cc
replace_tests false true true true is = cc
replace_tests false true true false is =
    record { is_new = refl; found = refl; later = refl; fits = refl }

pub replace_passes : (book : Book) (text : List ℕ) (terms : Terms)
    → replace_answer book text terms ≡ Ok Done
    → ReplacePasses (list_any (has_text text) book.rulings.tariffs)
    (list_any (is_effective terms.effective) book.rulings.tariffs)
    (is_after (last_close book.rulings) terms.effective)
    (is_too_dear (with_replaced text terms book.rulings) book.held
    || nat_le most_replaced (length book.rulings.replaced))
replace_passes book text terms is =
    replace_tests (list_any (has_text text) book.rulings.tariffs)
    (list_any (is_effective terms.effective) book.rulings.tariffs)
    (is_after (last_close book.rulings) terms.effective)
    (is_too_dear (with_replaced text terms book.rulings) book.held
    || nat_le most_replaced (length book.rulings.replaced)) is

-- the answer to a credit by the tests in their order
abbrev pub credit_by : ℕ → Bool → Bool → Bool → Bool → Result Ruled LedgerFault
credit_by number_open given is_open there full =
    if given then Ok Already
    else if not is_open then Err (WrongPeriod number_open)
    else if not there then Err NoSuchCentre
    else if full then Err Full
    else Ok Done

-- a credit that is given: it is a new one, of the open period, for a centre that is there, and there
-- is room for one more
pub record CreditPasses (given is_open there full : Bool) : Type 0 where
  pub is_new : given ≡ false
  pub was_open : is_open ≡ true
  pub found : there ≡ true
  pub room : full ≡ false

pub credit_tests : (number_open : ℕ) (given is_open there full : Bool)
    → credit_by number_open given is_open there full ≡ Ok Done
    → CreditPasses given is_open there full
credit_tests number_open true is_open there full is = cc
credit_tests number_open false false there full is = cc
credit_tests number_open false true false full is = cc
credit_tests number_open false true true true is = cc
credit_tests number_open false true true false is =
    record { is_new = refl; was_open = refl; found = refl; room = refl }

pub credit_passes : (book : Book) (number : ℕ) (centre : List ℕ) (amount : ℤ) (reason : List ℕ)
    → credit_answer book.rulings number centre amount reason ≡ Ok Done
    → CreditPasses (list_any (is_credit number centre amount reason) book.rulings.credits)
    (number == open_number book) (is_known_centre book.rulings centre)
    (nat_le most_credits (length book.rulings.credits))
credit_passes book number centre amount reason is =
    credit_tests (open_number book)
    (list_any (is_credit number centre amount reason) book.rulings.credits)
    (number == open_number book) (is_known_centre book.rulings centre)
    (nat_le most_credits (length book.rulings.credits)) is

-- so its number is that of the open period
pub credited_open : (book : Book) (number : ℕ) (centre : List ℕ) (amount : ℤ) (reason : List ℕ)
    → credit_answer book.rulings number centre amount reason ≡ Ok Done
    → number ≡ open_number book
credited_open book number centre amount reason is =
    eqb-true number (open_number book)
    (credit_passes book number centre amount reason is).was_open
