-- A text that is written while it is made, and a report of books that is.
use Rattle.std.specs.Prelude.{◌≡◌, ◌⊎◌, ◌<◌, Bool, true, false, ℕ, List, [], ◌++◌, length, Option}
use Rattle.std.specs.Prelude.{IfErr, IsErrAnd, Result, Ok, Err}
use Rattle.std.specs.Io.KnownBytes.{Appends}
use Rattle.book_model.specs.declared.fault.LedgerFault.{LedgerFault}
use Rattle.book_model.specs.declared.fault.LedgerFault.TheVariants as ledger
use Rattle.book_model.specs.Words.{Book, Event, Naming}
use Rattle.book_core.specs.Calls.{Reopens}
use Rattle.book_lists.specs.declared.fault.ReportFault.{ReportFault}
use Rattle.book_lists.specs.declared.fault.ReportFault.TheVariants.{Write, Memory, Ledger}
use Rattle.book_lists.specs.Writing.{WritesPrefix, WritesUntil}

-- the first bytes of a text were written, where what the writer holds is known, and this rest was
-- not
pub record WritesFirst (text rest : List ℕ) (held holds : Option (List ℕ)) : Type 0 where
  pub first : List ℕ
  pub grown : Appends held holds first
  pub parts : text ≡ first ++ rest

-- a text was written but for this rest, or before a fault but for some rest
abbrev pub WritesAllBut : List ℕ → List ℕ → Option (List ℕ) → Option (List ℕ)
    → Result (Unit {0}) ReportFault → Type 0
WritesAllBut text rest held holds (Ok done) = WritesFirst text rest held holds
WritesAllBut text rest held holds (Err fault) = (left : List ℕ) × WritesFirst text left held holds

-- and something was not: this rest, or, before a fault, some rest
abbrev pub LeavesSome : List ℕ → List ℕ → Option (List ℕ) → Option (List ℕ)
    → Result (Unit {0}) ReportFault → Type 0
LeavesSome text rest held holds (Ok done) = 0 < length rest
LeavesSome text rest held holds (Err fault) =
    (left : List ℕ) × (0 < length left) × WritesFirst text left held holds

-- what the ledger answered at the end of a report: that it refused a call, or nothing of the kind
abbrev pub refusal_in : Result (Unit {0}) ReportFault → Result (Unit {0}) LedgerFault
refusal_in (Err (Ledger fault)) = Err fault
refusal_in result = Ok tt

-- a fault of the writer, a lack of memory, or one of the ledger's store: what may hinder any report
abbrev pub is_hindrance : ReportFault → Bool
is_hindrance Write = true
is_hindrance Memory = true
is_hindrance (Ledger ledger.Store) = true
is_hindrance (Ledger ledger.Reopen) = true
is_hindrance (Ledger fault) = false

-- whatever the book is, what was written is such a text, or a prefix of one
abbrev pub WritesSome : {X : Type 0} → (X → List ℕ) → Option (List ℕ) → Option (List ℕ)
    → Result (Unit {0}) ReportFault → Type 0
WritesSome {X} text held holds result = (made : X) × WritesPrefix (text made) held holds result

-- The text was written, or, before a fault that may hinder any report, a prefix of it that is not
-- the whole. Or the books refused it, or were hindered before, and nothing was written.
abbrev pub WritesUntilOrRefuses : Result (List ℕ) LedgerFault → Option (List ℕ) → Option (List ℕ)
    → Result (Unit {0}) ReportFault → Type 0
WritesUntilOrRefuses (Ok text) held holds result =
    WritesUntil text held holds result × IfErr result (λ fault. is_hindrance fault ≡ true)
WritesUntilOrRefuses (Err refused) held holds result =
    (holds ≡ held)
    × IsErrAnd result (λ fault. (fault ≡ Ledger refused) ⊎ (is_hindrance fault ≡ true))

-- What a book answers to a report was written so, and no event was made. Of books that are to be
-- opened again nothing is written.
pub record WritesAnswerUntil (answer : Naming → Book → Result (List ℕ) LedgerFault)
    (naming : Naming) (held holds : Option (List ℕ)) (result : Result (Unit {0}) ReportFault)
    (was : Bool) (before : Book) (events : List Event) (is : Bool) : Type 0 where
  pub none : events ≡ []
  pub written : WritesUntilOrRefuses (answer naming before) held holds result
  pub unread : was ≡ true → holds ≡ held
  pub reopens : Reopens (refusal_in result) was is
