-- Calls that are staged inside a transaction, and work that one commit makes of them.
use Rattle.std.specs.Prelude.{◌≡◌, Bool, false, true, List, [], Result, Ok, Err, ◌⊎◌, ℕ, IfOk, Vec, Option}
use Rattle.std.specs.Prelude.{◌==◌, length}
use Rattle.std.specs.Global.{Global}
use Rattle.sqlite_trees.specs.Tree.{Trees}
use Rattle.sqlite_trees.specs.View.{View, OnlyWrites}
use Rattle.sqlite_trees.specs.declared.error.StoreError.{StoreError}
use Rattle.book_model.specs.declared.answer.Accepted.{Accepted}
use Rattle.book_model.specs.declared.fault.LedgerFault.{LedgerFault}
use Rattle.book_model.specs.declared.fault.LedgerFault.TheVariants.{Store}
use Rattle.book_model.specs.declared.note.Share.{Share}
use Rattle.book_model.specs.Words.{Priced, Book, Event, after_all, accept_outcome, Outcome, Naming}
use Rattle.book_model.specs.Words.{Rulings, told_by}
use Rattle.book_core.specs.Words.{Calls, LeavesOpen, Makes, is_store, is_reopen, listed, ruled_in}
use Rattle.book_core.specs.Words.{Accepts, Takes, Transition, first_of}
use Rattle.table_model.specs.Steps.{put_came}
use Rattle.table_model.specs.Tables.{JournalTable}
use Rattle.table_model.specs.Words.{kept_at, Tables}
use Rattle.tree_tables.specs.States.{State, HasCleanDisk, Survives}
use Rattle.tree_tables.specs.Steps.{KeepsLastCommit}
use Rattle.table_ledger.specs.Ready.{IsReadyAt, IsStoredAs, IsStoredIn, Remembers}
use Rattle.table_ledger.specs.LedgerState.{LedgerState}
use Rattle.table_ledger.specs.Attempts.{IsRefused}
use Rattle.table_ledger.specs.Groups.{Joins, before_entry, begun_entries, joined_by}
use Rattle.table_ledger.specs.declared.groups.Joined.{Joined}
use Rattle.table_ledger.specs.declared.summary.Summary.{Summary}

-- ---- inside a transaction

-- The trees hold the tables of the book, as they are at this point of the transaction: what is
-- written later is not there yet. And the summary is that of the book.
pub record IsAtAs (written : Tables → Tables) (naming : Naming) (summary : Summary) (view : View)
    (book : Book) : Type 0 where
  pub kept : IsStoredAs written naming book view.trees
  pub remembers : Remembers summary book

-- all is written
abbrev pub IsAt : Naming → Summary → View → Book → Type 0
IsAt = IsAtAs (λ tables. tables)

-- the rulings that are remembered stay
pub record KeepsRulings (was is : Summary) : Type 0 where
  pub rulings : ruled_in is.rulings ≡ ruled_in was.rulings
  pub choices : is.choices ≡ was.choices
  pub replaced : is.replaced ≡ was.replaced
  pub credits : is.credits ≡ was.credits

-- what was staged makes such events of the book, and each such summary remembers the book then
pub record IsStaged (written : Tables → Tables) (Made Leaves : Book → List Event → Type 0)
    (naming : Naming) (Is : Summary → Type 0) (old new : View) (book : Book) : Type 0 where
  pub events : List Event
  pub made : Made book events
  pub leaves : Leaves book events
  pub only : OnlyWrites old new
  pub kept : IsStoredAs written naming (after_all events book) new.trees
  pub remembers : (is : Summary) → Is is → Remembers is (after_all events book)

-- work is staged, for this answer, or the store refused it, and its last commit stays
abbrev pub StagedOrRefused : {V T : Type 0} → (Tables → Tables) → (T → Result V LedgerFault)
    → (Result V LedgerFault → Book → List Event → Type 0) → (Book → List Event → Type 0) → Naming
    → (Summary → Type 0) → View → View → Book → Result T StoreError → Type 0
StagedOrRefused written answered Made Leaves naming Is old new book (Ok value) =
    IsStaged written (Made (answered value)) Leaves naming Is old new book
StagedOrRefused written answered Made Leaves naming Is old new book (Err error) =
    KeepsLastCommit old new

-- Work is tried inside a transaction of a ledger, with no commit.
pub record StagesBy {V T : Type 0} (written : Tables → Tables) (answered : T → Result V LedgerFault)
    (Made : Result V LedgerFault → Book → List Event → Type 0)
    (Leaves : Book → List Event → Type 0) (naming : Naming) (was : Summary) (Is : Summary → Type 0)
    (old new : State) (staged : Result T StoreError) : Type 0 where
  pub plain : IfOk staged (λ value. LeavesOpen (answered value))
  pub survives : Survives old new (λ trees. ⊥)
  pub found : HasCleanDisk new → (book : Book) → IsAtAs written naming was old.view book
      → StagedOrRefused written answered Made Leaves naming Is old.view new.view book staged

-- The same of books of which something else is given too.
pub record StagesWhere {V T : Type 0} (Given : Book → Type 0) (written : Tables → Tables)
    (answered : T → Result V LedgerFault) (Made : Result V LedgerFault → Book → List Event → Type 0)
    (Leaves : Book → List Event → Type 0) (naming : Naming) (was : Summary) (Is : Summary → Type 0)
    (old new : State) (staged : Result T StoreError) : Type 0 where
  pub plain : IfOk staged (λ value. LeavesOpen (answered value))
  pub survives : Survives old new (λ trees. ⊥)
  pub found : HasCleanDisk new → (book : Book) → Given book → IsAtAs written naming was old.view book
      → StagedOrRefused written answered Made Leaves naming Is old.view new.view book staged

-- ---- records, one after another

-- The tables with a record that is kept, which comes by the entry of a number, if it comes by one;
-- but for the sums in the row of the book and for the entry: these are written after the last record.
abbrev pub staged_at : Rulings → List ℕ → List ℕ → Option ℕ → Priced → Tables → Tables
staged_at ruled name bytes came priced tables =
    record (kept_at ruled name bytes priced tables) {
      book = tables.book;
      came = (put_came name came tables).came;
    }

-- the first of these records was refused with this fault, if any was
abbrev pub RefusesNext : Naming → List (List ℕ) → Book → Result (Unit {0}) LedgerFault → Type 0
RefusesNext naming rest book (Ok done) = Unit {0}
RefusesNext naming rest book (Err fault) =
    Calls (λ (accepted : Accepted). accepted) (accept_outcome naming (first_of rest)) (Err fault)
    false book [] false

-- the first of the records were answered, each in turn; and if none was, this is why
pub record AnswersFirst (naming : Naming) (records : List (List ℕ)) (answers : List Accepted)
    (told : Result (Unit {0}) LedgerFault) (book : Book) (events : List Event) : Type 0 where
  pub accepts : Accepts naming records answers false book events false
  pub none : answers ≡ [] → RefusesNext naming records book told

-- some first of them, or none, are accepted
pub record LeavesFirst (naming : Naming) (records : List (List ℕ)) (book : Book)
    (events : List Event) : Type 0 where
  pub answers : List Accepted
  pub accepts : Accepts naming records answers false book events false

-- Records are staged, so far, up to the first refusal, of books whose records come by the entry of
-- this number; and this summary remembers the book then.
abbrev pub StagesMany : Option ℕ → (Tables → Tables) → Naming → List (List ℕ) → Summary → Summary
    → State → State → List Accepted → Result (Result (Unit {0}) LedgerFault) StoreError → Type 0
StagesMany came written naming records was is old new answers staged =
    StagesWhere (λ book. came ≡ joined_by book.journal) written (λ told. told)
    (AnswersFirst naming records answers) (LeavesFirst naming records) naming was
    (λ summary. summary ≡ is) old new staged

-- ---- work that is one commit, whatever events it makes

-- what a commit may leave on the disk: the book with such events
pub record KeepsBy (Leaves : Book → List Event → Type 0) (naming : Naming) (book : Book)
    (trees : Trees) : Type 0 where
  pub events : List Event
  pub leaves : Leaves book events
  pub stored : IsStoredIn naming (after_all events book) trees

-- it may leave that of each book with which the ledger was ready
abbrev pub MayKeepBy : Naming → Summary → View → (Book → List Event → Type 0) → Trees → Type 0
MayKeepBy naming summary old Leaves trees =
    (book : Book) → IsReadyAt naming summary old book → KeepsBy Leaves naming book trees

-- the work made such events, and the ledger is ready with the book that they leave
pub record IsMade (Made : Book → List Event → Type 0) (naming : Naming) (summary : Summary)
    (new : View) (book : Book) : Type 0 where
  pub events : List Event
  pub made : Made book events
  pub ready : IsReadyAt naming summary new (after_all events book)

-- the work was made, or the store refused, and the ledger remembers the same book
abbrev pub MadeOrRefused : {V : Type 0} → (Result V LedgerFault → Book → List Event → Type 0)
    → Naming → Summary → View → View → Book → Result (Result V LedgerFault) StoreError → Type 0
MadeOrRefused Made naming is old new book (Ok answer) = IsMade (Made answer) naming is new book
MadeOrRefused Made naming is old new book (Err error) = IsRefused is old new book

-- Work is tried on the store of a ledger that is ready.
pub record AttemptsBy {V : Type 0} (Made : Result V LedgerFault → Book → List Event → Type 0)
    (Leaves : Book → List Event → Type 0) (naming : Naming) (was is : Summary) (old new : State)
    (tried : Result (Result V LedgerFault) StoreError) : Type 0 where
  pub plain : IfOk tried LeavesOpen
  pub survives : Survives old new (MayKeepBy naming was old.view Leaves)
  pub found : HasCleanDisk new → (book : Book) → IsReadyAt naming was old.view book
      → MadeOrRefused Made naming is old.view new.view book tried

-- Work of an open ledger is served.
pub record ServesBy {V : Type 0} (Made : Result V LedgerFault → Book → List Event → Type 0)
    (Leaves : Book → List Event → Type 0) (old new : LedgerState) (result : Result V LedgerFault)
    : Type 0 where
  pub naming : new.naming ≡ old.naming
  pub served : is_reopen result ≡ false
  pub reopen : new.must_reopen ≡ is_store result
  pub survives : Survives old.state new.state
      (MayKeepBy old.naming old.summary old.state.view Leaves)
  pub answered : is_store result ≡ false → HasCleanDisk new.state → (book : Book)
      → IsReadyAt old.naming old.summary old.state.view book
      → IsMade (Made result) old.naming new.summary new.state.view book

-- ---- records that are submitted together

-- the most records that one commit takes
abbrev pub most_in_commit : ℕ
most_in_commit = 8000

-- The first of some records were accepted, of so many in all; and with those that were kept comes what
-- their import says of itself.
pub record AcceptsFew (naming : Naming) (import : Option Share) (count : ℕ)
    (records : List (List ℕ)) (answers : List Accepted) (was : Bool) (before : Book)
    (events : List Event) (is : Bool) : Type 0 where
  pub kept : List Event
  pub accepts : Accepts naming records answers was before kept is
  pub told : events ≡ told_by import (length answers == count) answers kept

-- the store of open books failed: all of that change was made, or none of it
pub record KeepsFew (naming : Naming) (import : Option Share) (count : ℕ) (records : List (List ℕ))
    (was : Bool) (before : Book) (events : List Event) (is : Bool) : Type 0 where
  pub was_open : was ≡ false
  pub closed : is ≡ true
  pub answers : List Accepted
  pub kept : AcceptsFew naming import count records answers false before events false

-- The change took the first of these records, or none; so many are submitted in all.
abbrev pub TakesFew : Naming → Option Share → ℕ → List (List ℕ)
    → Result (Vec Accepted Global) LedgerFault → Transition
TakesFew naming import count records (Ok answers) =
    AcceptsFew naming import count records answers.items
TakesFew naming import count records (Err Store) = KeepsFew naming import count records
TakesFew naming import count records (Err fault) =
    Calls (λ (accepted : Accepted). accepted) (accept_outcome naming (first_of records)) (Err fault)

-- of open books
abbrev pub AcceptsGroup : Naming → Option Share → ℕ → List (List ℕ) → List Accepted → Book
    → List Event → Type 0
AcceptsGroup naming import count records answers book events =
    AcceptsFew naming import count records answers false book events false

-- so each was answered in turn; and if none was, this is why
pub record AnswersGroup (naming : Naming) (import : Option Share) (count : ℕ)
    (records : List (List ℕ)) (answers : List Accepted) (told : Result (Unit {0}) LedgerFault)
    (book : Book) (events : List Event) : Type 0 where
  pub group : AcceptsGroup naming import count records answers book events
  pub none : answers ≡ [] → RefusesNext naming records book told

-- some first of them, or none, are accepted so
pub record LeavesGroup (naming : Naming) (import : Option Share) (count : ℕ)
    (records : List (List ℕ)) (book : Book) (events : List Event) : Type 0 where
  pub answers : List Accepted
  pub group : AcceptsGroup naming import count records answers book events

-- They are staged with the entry that they join.
abbrev pub StagesJoined : Option Joined → Naming → Option Share → ℕ → List (List ℕ) → Summary
    → Summary → State → State → List Accepted
    → Result (Result (Unit {0}) LedgerFault) StoreError → Type 0
StagesJoined joined naming import count records was is old new answers staged =
    StagesWhere (λ book. Joins joined import (begun_entries import book.journal)) (λ tables. tables)
    (λ told. told) (AnswersGroup naming import count records answers)
    (LeavesGroup naming import count records) naming was (λ summary. summary ≡ is) old new staged

-- what they make of a book, by what is answered
abbrev pub TakesGroup : Naming → Option Share → ℕ → List (List ℕ)
    → Result (Vec Accepted Global) LedgerFault → Book → List Event → Type 0
TakesGroup naming import count records (Ok answers) book events =
    AcceptsGroup naming import count records answers.items book events
TakesGroup naming import count records (Err fault) book events =
    Takes naming records (Err fault) false book events false

-- they are staged as one, and this summary remembers the book then
abbrev pub StagesFirst : Naming → Option Share → ℕ → List (List ℕ) → Summary → Summary → State
    → State → Result (Result (Vec Accepted Global) LedgerFault) StoreError → Type 0
StagesFirst naming import count records was is old new staged =
    StagesBy (λ tables. tables) (λ answer. answer) (TakesGroup naming import count records)
    (LeavesGroup naming import count records) naming was (λ summary. summary ≡ is) old new staged

-- they are tried
abbrev pub AttemptsMany : Naming → Option Share → ℕ → List (List ℕ) → Summary → Summary → State
    → State → Result (Result (Vec Accepted Global) LedgerFault) StoreError → Type 0
AttemptsMany naming import count records was is old new tried =
    AttemptsBy (TakesGroup naming import count records) (LeavesGroup naming import count records)
    naming was is old new tried

-- ---- a single call

-- what its commit may leave: no event, or the outcome's
abbrev pub LeavesOne : {A : Type 0} → (Book → Outcome A) → Book → List Event → Type 0
LeavesOne outcome book events = (events ≡ []) ⊎ (events ≡ listed (outcome book).event)

-- what it makes
abbrev pub MakesOf : {V A : Type 0} → (V → A) → (Book → Outcome A) → Result V LedgerFault → Book
    → List Event → Type 0
MakesOf view outcome answer book events = Makes view (outcome book) answer events

-- it is staged, so far, and this summary remembers the book then
abbrev pub StagesAs : {V A : Type 0} → (Tables → Tables) → (V → A) → Naming → Summary → Summary
    → State → State → (Book → Outcome A) → Result (Result V LedgerFault) StoreError → Type 0
StagesAs written view naming was is old new outcome staged =
    StagesBy written (λ answer. answer) (MakesOf view outcome) (LeavesOne outcome) naming was
    (λ summary. summary ≡ is) old new staged

-- it is tried
abbrev pub AttemptsOne : {V A : Type 0} → (V → A) → Naming → Summary → Summary → State → State
    → (Book → Outcome A) → Result (Result V LedgerFault) StoreError → Type 0
AttemptsOne view naming was is old new outcome tried =
    AttemptsBy (MakesOf view outcome) (LeavesOne outcome) naming was is old new tried

-- A record is answered, and staged if it is kept, of books whose records come by the entry of this
-- number; but for the sums in the row of the book and for the entry, whatever these were.
abbrev pub StagesRecord : Option ℕ → Naming → List ℕ → Summary → Summary → State → State
    → Result (Result Accepted LedgerFault) StoreError → Type 0
StagesRecord came naming bytes was is old new staged =
    (held amount : ℕ) (rows : JournalTable)
    → StagesWhere (λ book. came ≡ joined_by book.journal) (before_entry held amount rows)
    (λ answer. answer) (MakesOf (λ (accepted : Accepted). accepted) (accept_outcome naming bytes))
    (LeavesOne (accept_outcome naming bytes)) naming was (λ summary. summary ≡ is) old new staged
