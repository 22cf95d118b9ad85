-- The credits of a bill: those of its period, for the centre that is named or for the whole office.
use Rattle.std.specs.Prelude.{ℕ, ◌+◌, ◌==◌, ◌&&◌, Bool, true, if◌then◌else◌, List, map, filter_map}
use Rattle.std.specs.Prelude.{Option, Some, None, Ok, Vec}
use Rattle.std.specs.Global.{Global}
use Rattle.book_model.specs.declared.bill.Credit as billed
use Rattle.book_model.specs.Words.{Book, Credit, Outcome, credit_shown, no_event, same_bytes}
use Rattle.report_texts.specs.Charges.{plain_credit}

-- a centre is the one that is named, or none is
abbrev pub is_asked_of : Option (List ℕ) → List ℕ → Bool
is_asked_of None centre = true
is_asked_of (Some named) centre = same_bytes centre named

-- a credit of that period to that centre is on the bill
abbrev pub is_billed : ℕ → Option (List ℕ) → Credit → Bool
is_billed number named credit = credit.period == number && is_asked_of named credit.centre

abbrev pub credit_if : Bool → Credit → Option Credit
credit_if billed credit = if billed then Some credit else None

-- a credit, where it is on the bill
abbrev pub credit_of : ℕ → Option (List ℕ) → Credit → Option Credit
credit_of number named credit = credit_if (is_billed number named credit) credit

abbrev pub credits_of : ℕ → Option (List ℕ) → List Credit → List Credit
credits_of number named credits = filter_map (credit_of number named) credits

-- credits as they are gathered
abbrev pub credits_shown : Vec billed.Credit Global → List Credit
credits_shown credits = map credit_shown credits.items

-- what a book answers to it
abbrev pub credits_outcome : ℕ → Option (List ℕ) → Book → Outcome (List Credit)
credits_outcome number named book = no_event (Ok (credits_of number named book.rulings.credits))

-- and to all credits
abbrev pub given_outcome : Book → Outcome (List Credit)
given_outcome book = no_event (Ok book.rulings.credits)

-- what a credit comes to, whatever its sign
abbrev pub size_of : Credit → ℕ
size_of credit = (plain_credit credit).credited + (plain_credit credit).debited
