-- A list that is read is answered with no event, and the ledger stays ready.
use Rattle.std.proofs.Common.{◌≡◌, ◌∙◌, Bool, true, ℕ, [], Result, Ok, Err, refl, sym, ap}
use Rattle.std.proofs.Common.{if◌then◌else◌}
use Rattle.book_model.specs.Words.{Book, Outcome, no_event, Naming, Rulings}
use Rattle.book_core.specs.Words.{Makes, listed, ruled_in}
use Rattle.table_model.specs.Words.{Tables, tables_of, is_period, of_period, IsReadable}
use Rattle.table_ledger.proofs.Words.{State, LedgerFault, NoSuchPeriod, Saw, Remembers, AttemptsOne}
use Rattle.table_ledger.specs.declared.summary.Summary.{Summary}
use Rattle.table_ledger.proofs.Remembered.{rulings_are}
use Rattle.table_ledger.proofs.TryLemmas.{try_answered}

-- a list that was read makes no event
read_makes : {V A : Type 0} (view : V → A) (outcome : Outcome A) (said : Result A LedgerFault)
    (value : V) → outcome ≡ no_event said → said ≡ Ok (view value) → Makes view outcome (Ok value) []
read_makes view outcome said value is says = (
  ap (λ (of : Outcome _). of.answer) is ∙ says,
  sym (ap (λ (of : Outcome _). listed of.event) is),
)

-- A list that is read is answered.
pub list_read : {V A : Type 0} {view : V → A} {naming : Naming} {summary : Summary}
    {outcome : Book → Outcome A} {old new : State} {Known : Tables → Type 0} (read : Tables → A)
    → ((book : Book) → IsReadable naming book
    → outcome book ≡ no_event (Ok (read (tables_of naming book))))
    → (value : V) → Saw old new Known
    → ((book : Book) → IsReadable naming book → Known (tables_of naming book)
    → read (tables_of naming book) ≡ view value)
    → AttemptsOne view naming summary summary old new outcome (Ok (Ok value))
list_read {view = view} {naming = naming} {outcome = outcome} read law value saw says =
    try_answered outcome saw (record { stored = refl; served = refl }) (λ book ready known.
    let whole = ready.kept.readable in
    read_makes view (outcome book) _ value (law book whole) (ap Ok (says book whole known)))

-- what is answered of a period that exists, by what is remembered
pub of_there : {A : Type 0} {summary : Summary} {book : Book} (number : ℕ) (value : A)
    → Remembers summary book → is_period number (ruled_in summary.rulings) ≡ true
    → of_period number book.rulings value ≡ Ok value
of_there number value remembers there =
    ap (λ (rulings : Rulings). of_period number rulings value) (rulings_are remembers)
    ∙ ap (λ (found : Bool). if found then Ok value else Err NoSuchPeriod) there

module _ {V A : Type 0} {view : V → A} {naming : Naming} {summary : Summary}
    {outcome : Book → Outcome A} (number : ℕ) (read : Tables → A)
    (law : (book : Book) → IsReadable naming book
    → outcome book ≡ no_event (of_period number book.rulings (read (tables_of naming book)))) where
  -- A list of a period that exists.
  pub period_read : {old new : State} {Known : Tables → Type 0} (value : V)
      → is_period number (ruled_in summary.rulings) ≡ true → Saw old new Known
      → ((tables : Tables) → Known tables → read tables ≡ view value)
      → AttemptsOne view naming summary summary old new outcome (Ok (Ok value))
  period_read value there saw says =
      try_answered outcome saw (record { stored = refl; served = refl }) (λ book ready known.
      let whole = ready.kept.readable in
      read_makes view (outcome book) _ value (law book whole)
      (of_there number (read (tables_of naming book)) ready.remembers there
      ∙ ap Ok (says (tables_of naming book) known)))
