-- What is answered to a record that is submitted.
use Rattle.std.specs.Prelude.{ℕ, Bool, ◌+◌, ◌||◌, nat_lt, nat_le, if◌then◌else◌, List, length}
use Rattle.std.specs.Prelude.{sum_by, Option, Some, None, Result, Ok, Err}
use Rattle.std.specs.List.{list_any}
use Rattle.tariff_rules.specs.declared.priced.Priced.{Priced}
use Rattle.book_model.specs.declared.fault.LedgerFault.{LedgerFault}
use Rattle.book_model.specs.declared.fault.LedgerFault.TheVariants.{Full, DigestClash}
use Rattle.book_model.specs.declared.answer.Accepted.{Accepted}
use Rattle.book_model.specs.declared.answer.Accepted.TheVariants.{Kept, Known, Unpriced}
use Rattle.book_model.specs.Limits.{most_held, most_cost}
use Rattle.book_model.specs.Sets.{members, has}
use Rattle.book_model.specs.Records.{Records, Naming, name_of, same_bytes}
use Rattle.book_model.specs.Rulings.{Rulings, price_in, prices}
use Rattle.book_model.specs.Books.{Book}

-- a record that is held has the name of this one
abbrev pub clashes : Naming → Records → List ℕ → Bool
clashes naming held bytes =
    list_any (λ other. same_bytes (name_of naming other) (name_of naming bytes)) (members held)

-- what records cost together
abbrev pub total_of : Rulings → Records → ℕ
total_of rulings records = sum_by (λ priced. priced.amount) (prices rulings records)

-- the record cannot be held too: too many are held, or they would cost too much with this one
abbrev pub is_full : Book → ℕ → Bool
is_full book amount =
    nat_le most_held (length (members book.held))
    || nat_lt most_cost (total_of book.rulings book.held + amount)

-- the answer to a record that is new, by what it costs, if a tariff is in force on its day
abbrev pub accept_priced : Book → Option Priced → Result Accepted LedgerFault
accept_priced book None = Ok Unpriced
accept_priced book (Some priced) = if is_full book priced.amount then Err Full else Ok Kept

-- The answer to a record. One that is held already is known, whatever else is so of it.
abbrev pub accept_answer : Naming → Book → List ℕ → Result Accepted LedgerFault
accept_answer naming book bytes =
    if has book.held bytes then Ok Known
    else if clashes naming book.held bytes then Err DigestClash
    else accept_priced book (price_in book.rulings bytes)
