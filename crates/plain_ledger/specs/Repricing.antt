-- What the records that are held cost under one more tariff, which begins later than every other
-- one, or under a tariff in the place of another.
use Rattle.std.specs.Prelude.{◌≡◌, ℕ, List, map, sum_by, int_lt, if◌then◌else◌, Option, Some, None}
use Rattle.std.specs.Prelude.{Result, Ok, Err}
use Rattle.book_model.specs.declared.answer.Ruled.{Ruled}
use Rattle.book_model.specs.declared.answer.Ruled.TheVariants.{Done, Already}
use Rattle.book_model.specs.declared.fault.LedgerFault.{LedgerFault}
use Rattle.book_model.specs.Words.{AcceptedTerms, Priced, Terms, day_of, price_by}
use Rattle.book_core.specs.Words.{is_last_begun}
use Rattle.plain_ledger.specs.declared.held.HeldRecord.{HeldRecord}
use Rattle.plain_ledger.specs.Plain.{Entry, record_of}

-- a record costs what the tariff says where it is dated on the tariff's first day or later
abbrev pub price_anew : Terms → HeldRecord → Priced
price_anew terms held =
    if int_lt held.priced.day terms.effective then held.priced
    else price_by terms (record_of held)

-- or where its day has the tariff, of these, that begins on that first day
abbrev pub price_replaced : List AcceptedTerms → Terms → HeldRecord → Priced
price_replaced tariffs terms held =
    if is_last_begun tariffs terms (day_of (record_of held)) then price_by terms (record_of held)
    else held.priced

-- what records cost together at such prices
abbrev pub cost_at : (HeldRecord → Priced) → List HeldRecord → ℕ
cost_at price records = sum_by (λ held. (price held).amount) records

abbrev pub cost_anew : Terms → List HeldRecord → ℕ
cost_anew terms records = cost_at (price_anew terms) records

abbrev pub cost_replaced : List AcceptedTerms → Terms → List HeldRecord → ℕ
cost_replaced tariffs terms records = cost_at (price_replaced tariffs terms) records

-- a record with its name, whatever it costs
abbrev pub unpriced : Entry → List ℕ × List ℕ
unpriced entry = (entry.0, record_of entry.1)

-- the same records under the same names, each at its new price
pub record AreRepriced (price : HeldRecord → Priced) (entries anew : List Entry) : Type 0 where
  pub same : map unpriced anew ≡ map unpriced entries
  pub priced : map (λ entry. entry.1.priced) anew ≡ map (λ entry. price entry.1) entries

-- the answer to a tariff, by what all records cost under it: none where it is in force already
abbrev pub ruled_by_cost : Result (Option ℕ) LedgerFault → Result Ruled LedgerFault
ruled_by_cost (Ok None) = Ok Already
ruled_by_cost (Ok (Some cost)) = Ok Done
ruled_by_cost (Err fault) = Err fault
