-- What the program does: for each request, and for words that are none.
use Rattle.std.specs.Prelude.{◌≡◌, ◌⊎◌, Bool, true, false, ℕ, List, [], ◌∷◌, ◌++◌, Option, None}
use Rattle.std.specs.Prelude.{IfErr, IfOk, OnErr, Result, Ok, Err, String, string_bytes}
use Rattle.std.specs.Global.{Global}
use Rattle.std.specs.declared.io.Error.{Error}
use Rattle.streams.specs.Failures.{HasFailed}
use Rattle.tariff_rules.specs.Limits.{most_rate}
use Rattle.book_model.specs.declared.fault.LedgerFault.TheVariants as ledger
use Rattle.book_http.specs.declared.served.Served.{Served}
use Rattle.named_books.specs.declared.repository.RepositoryFault.{RepositoryFault}
use Rattle.named_books.specs.Shelves.{Shelf, IsMade, IsSameShelf}
use Rattle.command_line.specs.declared.request.BookRequest.{BookRequest}
use Rattle.command_line.specs.declared.request.BookRequest.TheVariants as book
use Rattle.command_line.specs.declared.request.Request.{Request}
use Rattle.command_line.specs.declared.request.Request.TheVariants as request
use Rattle.command_line.specs.declared.fault.ArgumentFault.{ArgumentFault}
use Rattle.command_line.specs.Known.{AreReadAs, as_texts}
use Rattle.command_line.specs.declared.fault.ArgumentFault.TheVariants as words
use Rattle.program_output.specs.declared.status.Status.{Status}
use Rattle.program_output.specs.declared.status.Status.TheVariants as status
use Rattle.program_output.specs.Messages.{ledger_line, program_name}
use Rattle.without_books.specs.declared.command_fault.CommandFault.{CommandFault}
use Rattle.without_books.specs.declared.command_fault.CommandFault.TheVariants as fault
use Rattle.without_books.specs.declared.ended.Ended.{Ended}
use Rattle.without_books.specs.Faults.{IsFileFault, IsPrinted, came_lines, came_status, error_lines}
use Rattle.without_books.specs.Faults.{settled_as, shelf_end, status_by, without_log}
use Rattle.without_books.specs.Inputs.{Files}
use Rattle.without_books.specs.Reading.{Checks, TellsOf, TriesAt, TriesUnder, kind_of}
use Rattle.without_books.specs.ServedLines.{Gains, unfailed}
use Rattle.chargectl.specs.Audits.{AuditsBooks, BacksUp}
use Rattle.chargectl.specs.Choices.{ChoosesListed}
use Rattle.chargectl.specs.Commands.{AsksAndTells, IsRefusedBy, IsShelfFault}
use Rattle.chargectl.specs.DryRuns.{TriesAndTells}
use Rattle.chargectl.specs.ImportWorks.{WithholdsEntry, entry_number}
use Rattle.chargectl.specs.NearRulings.{RulesNear}
use Rattle.chargectl.specs.StreamedLists.{ListsAsked, list_of}
use Rattle.chargectl.specs.Upgrades.{UpgradesBy}
use Rattle.chargectl.specs.Serving.{AllCame, ServesInTurn, lines_of, ready, service_end}
use Rattle.chargectl.specs.WithheldWorks.{WithholdsDump}

-- new books were made, or not, and nothing was written
pub record Makes (book : List ℕ) (old new : Shelf) (held holds : Option (List ℕ)) (ended : Ended)
    : Type 0 where
  pub made : Result (Unit {0}) RepositoryFault
  pub done : IsMade book old new made
  pub ends : ended ≡ without_log (shelf_end made)
  pub none : holds ≡ held

-- why a service did not answer all: the books were refused for such a reason, the port was in the
-- way, or a connection did not come
abbrev pub IsServiceFault : (RepositoryFault → Type 0) → CommandFault → Type 0
IsServiceFault Refuses why = IsShelfFault Refuses why ⊎ IsFileFault why

-- what a service wrote: its lines, up to a write that failed, if one did
abbrev pub WritesLines : List Served → Option (List ℕ) → Option (List ℕ) → Bool → Type 0
WritesLines told held holds failed = Gains (unfailed held)
    (record { holds = holds; has_failed = failed }) (ready ++ lines_of told)

-- what one wrote that ended early: the lines of the connections that came; or nothing, if it did not begin
abbrev pub WritesEarly : List Served → Option (List ℕ) → Option (List ℕ) → Type 0
WritesEarly told held holds =
    ((failed : Bool) × WritesLines told held holds failed) ⊎ ((told ≡ []) × (holds ≡ held))

-- What a service came to: these connections were answered; and all that were due, with their lines, unless
-- one did not come or the books were in the way. That a write of a line failed is told at the end, and
-- only where the output has failed; it ends nothing before. And whether a log is left.
pub record Serves {S : Type 0} (shelf : S → Shelf) (Refuses : RepositoryFault
    → Type 0) (requests : ℕ)
    (book : List ℕ) (old new : S) (held holds : Option (List ℕ)) (Failed : Type 0) (ended : Ended)
    : Type 0 where
  pub told : List Served
  pub turn : ServesInTurn shelf book old new told
  pub served : Result Bool CommandFault
  pub all : IfOk served (λ failed. AllCame requests told × WritesLines told held holds failed
      × (failed ≡ true → Failed))
  pub early : OnErr served (WritesEarly told held holds)
  pub cause : IfErr served (IsServiceFault Refuses)
  pub ends : ended.came ≡ service_end served
  pub log : (shelf new).has_log book ended.has_log
  pub change : ended.is_change ≡ true
  pub notice : ended.notice ≡ None

-- or the place refused them before
abbrev pub ServesBy : {S : Type 0} → (S → Shelf) → ℕ → List ℕ → S → S → Option (List ℕ)
    → Option (List ℕ) → Type 0 → Result Ended CommandFault → Type 0
ServesBy shelf requests book old new held holds Failed (Ok ended) =
    Serves shelf ((shelf old).refuses book) requests book old new held holds Failed ended
ServesBy shelf requests book old new held holds Failed (Err why) =
    IsRefusedBy book (shelf old) (shelf new) held holds why

-- a command that may have found a fault before it opened any books
pub record SettlesBy (Does : Result Ended CommandFault → Type 0) (ended : Ended) : Type 0 where
  pub came : Result Ended CommandFault
  pub does : Does came
  pub ends : ended ≡ settled_as came

-- Each command on books.
abbrev pub Does : {S : Type 0} → Files → (S → Shelf) → BookRequest → List ℕ → S → S
    → Option (List ℕ)
    → Option (List ℕ) → Type 0 → Ended → Type 0
Does files shelf book.Init name old new held holds Failed ended =
    Makes name (shelf old) (shelf new) held holds ended
Does files shelf book.Upgrade name old new held holds Failed ended =
    SettlesBy (UpgradesBy name (shelf old) (shelf new) held holds Failed) ended
Does files shelf (book.Audit quiet) name old new held holds Failed ended =
    SettlesBy (AuditsBooks name (shelf old) (shelf new) held holds Failed) ended
Does files shelf (book.BackUp copy quiet) name old new held holds Failed ended =
    SettlesBy (BacksUp name copy.now (shelf old) (shelf new) held holds Failed) ended
Does files shelf (book.Serve port requests) name old new held holds Failed ended =
    SettlesBy (ServesBy shelf requests name old new held holds Failed) ended
Does files shelf (book.List asked) name old new held holds Failed ended =
    SettlesBy (ListsAsked (list_of asked) name (shelf old) (shelf new) held holds Failed) ended
Does files shelf (book.ChooseListed withheld file) name old new held holds Failed ended =
    ChoosesListed false withheld (files.holds file.now) name (shelf old)
    (shelf new) held holds Failed
    ended
Does files shelf (book.TryListed withheld file) name old new held holds Failed ended =
    ChoosesListed true withheld (files.holds file.now) name (shelf old)
    (shelf new) held holds Failed
    ended
Does files shelf (book.WithholdDump file layout) name old new held holds Failed ended =
    WithholdsDump layout (files.holds file.now) name (shelf old) (shelf new) held holds Failed ended
Does files shelf (book.WithholdImport number) name old new held holds Failed ended =
    WithholdsEntry (entry_number number.now) name (shelf old) (shelf new) held holds Failed ended
Does files shelf (book.DryRun ruling) name old new held holds Failed ended =
    TriesAndTells files ruling name (shelf old) (shelf new) held holds Failed ended
Does files shelf (book.RuleNear ruling) name old new held holds Failed ended =
    RulesNear files ruling name (shelf old) (shelf new) held holds Failed ended
Does files shelf asked name old new held holds Failed ended =
    AsksAndTells files asked name (shelf old) (shelf new) held holds Failed ended

-- those that go over the records of a list, a dump or an import, one after the other
abbrev pub GoesOverRecords : BookRequest → Type 0
GoesOverRecords (book.ChooseListed withheld file) = Unit {0}
GoesOverRecords (book.TryListed withheld file) = Unit {0}
GoesOverRecords (book.WithholdDump file layout) = Unit {0}
GoesOverRecords (book.WithholdImport number) = Unit {0}
GoesOverRecords asked = ⊥

-- and those that make no ruling and read no dump
abbrev pub LooksIntoBooks : BookRequest → Type 0
LooksIntoBooks (book.Report asked) = Unit {0}
LooksIntoBooks (book.List asked) = Unit {0}
LooksIntoBooks (book.WhatIf form period file) = Unit {0}
LooksIntoBooks book.Upgrade = Unit {0}
LooksIntoBooks (book.Audit quiet) = Unit {0}
LooksIntoBooks (book.BackUp copy quiet) = Unit {0}
LooksIntoBooks (book.Serve port requests) = Unit {0}
LooksIntoBooks asked = ⊥

-- a command that opens no books and reads no dump
pub record EndsAt (Does : Result (Unit {0}) CommandFault → Type 0) (ended : Ended) : Type 0 where
  pub came : Result (Unit {0}) CommandFault
  pub does : Does came
  pub ends : ended ≡ without_log came

-- for how many seconds a client of a service is kept waiting for books that others have in use
abbrev pub service_wait : ℕ
service_wait = 2

-- how long a command waits for them: so long as its words say, or a service as long as that
abbrev pub wait_for : BookRequest → ℕ → ℕ
wait_for (book.Serve port requests) wait = service_wait
wait_for asked wait = wait

-- It was set that openings wait for so many seconds, and nothing else was new; and then a command was
-- done on the books of a name. What does it knows its place by traits that cannot set this again.
pub record WaitsAndDoes {S : Type 0} (files : Files) (shelf : S → Shelf) (waits : S → ℕ → Type 0)
    (old new : S) (seconds : ℕ) (asked : BookRequest) (name : List ℕ) (held holds : Option (List ℕ))
    (Failed : Type 0) (ended : Ended) : Type 0 where
  pub waiting : S
  pub set : waits waiting seconds
  pub same : IsSameShelf (shelf old) (shelf waiting)
  pub does : Does files shelf asked name waiting new held holds Failed ended

-- Or there was no memory for the note of what is asked, and nothing was done.
abbrev pub UnlessUnnoted : {S : Type 0} → S → S → Option (List ℕ) → Option (List ℕ) → Ended
    → Type 0 → Type 0
UnlessUnnoted old new held holds ended Done = Done
    ⊎ ((new ≡ old) × (holds ≡ held) × (ended ≡ without_log (Err (fault.Ledger ledger.Memory))))

-- The table of the commands.
abbrev pub Runs : {S : Type 0} → Files → (S → Shelf) → (S → ℕ → Type 0) → S → S → Request
    → Option (List ℕ) → Option (List ℕ) → Option (List ℕ) → Type 0 → Ended → Type 0
Runs files shelf waits old new (request.Trial layout cpu excp fee whole) had held holds Failed
    ended =
    (new ≡ old) × TriesAt layout whole cpu excp fee had held holds Failed ended
Runs files shelf waits old new (request.TrialUnder layout file whole) had held holds Failed ended =
    (new ≡ old) × TriesUnder (files.holds file.now) layout whole had held holds Failed ended
Runs files shelf waits old new (request.Check dump names) had held holds Failed ended =
    (new ≡ old)
    × Checks (files.holds dump.file.now) dump.layout dump.whole names held holds Failed ended
Runs files shelf waits old new (request.Explain kind number) had held holds Failed ended =
    (new ≡ old) × EndsAt (TellsOf (kind_of kind) number held holds Failed) ended
Runs files shelf waits old new (request.OfBooks name wait note asked) had held holds Failed ended =
    UnlessUnnoted old new held holds ended
    (WaitsAndDoes files shelf waits old new (wait_for asked wait) asked name.now held holds Failed
    ended)
Runs files shelf waits old new (request.Unclear why) had held holds Failed ended =
    (new ≡ old) × (holds ≡ held) × (ended ≡ without_log (Err (fault.Unclear why)))

-- help was written, or a prefix of it where the output failed, which is said as of any command
pub record Helps (text : List ℕ) (held holds : Option (List ℕ)) (Failed : Type 0)
    (Says : List (List ℕ) → Type 0) (ended : Status) : Type 0 where
  pub written : Result (Unit {0}) CommandFault
  pub printed : IsPrinted text held holds Failed written
  pub ends : ended ≡ came_status written
  pub said : Says (came_lines written)

-- What was wrong with the words, or help, which is written to standard output; and what is said on
-- standard error.
abbrev pub IsRefusedFor : ArgumentFault → Option (List ℕ) → Option (List ℕ) → Type 0
    → (List (List ℕ) → Type 0) → Status → Type 0
IsRefusedFor words.Memory held holds Failed Says ended =
    (holds ≡ held) × (ended ≡ status.Memory) × Says (ledger_line ledger.Memory ∷ [])
IsRefusedFor (words.Wrong text) held holds Failed Says ended =
    (holds ≡ held) × (ended ≡ status.Usage) × Says (string_bytes text ∷ [])
IsRefusedFor (words.Help text) held holds Failed Says ended =
    Helps (string_bytes text) held holds Failed Says ended

-- What was asked was done; or nothing was asked.
abbrev pub DoesOrRefuses : {S : Type 0} → Files → (S → Shelf) → (S → ℕ → Type 0) → S → S
    → Result Request ArgumentFault → Option (List ℕ) → Option (List ℕ) → Option (List ℕ) → Type 0
    → (List (List ℕ) → Type 0) → Status → Type 0
DoesOrRefuses files shelf waits old new (Ok request) had held holds Failed Says status =
    (ended : Ended) × Runs files shelf waits old new request had held holds Failed ended
    × (status ≡ status_by ended) × Says (error_lines ended)
DoesOrRefuses files shelf waits old new (Err fault) had held holds Failed Says status =
    (new ≡ old) × IsRefusedFor fault held holds Failed Says status

-- what a write of some bytes to an output may answer, and which output it leaves then
abbrev pub Answering : Type 0 → Type 1
Answering O = O → List ℕ → Result ℕ Error → O → Type 0

-- The program: its words ask for something by the table of the commands, and that was done. These
-- lines, and no others, were said on standard error; that the output failed is told only where it has.
pub record CommandsBy {S O E : Type 0} (files : Files) (shelf : S → Shelf) (waits : S → ℕ → Type 0)
    (old new : S) (words : List (String Global)) (had : Option (List ℕ))
    (contents : O → Option (List ℕ)) (may_answer : Answering O) (held holds : O)
    (Says : List (List ℕ) → E → E → Type 0) (quiet said : E) (status : Status) : Type 0 where
  pub asked : Result Request ArgumentFault
  pub read : AreReadAs program_name most_rate (as_texts words) asked
  pub done : DoesOrRefuses files shelf waits old new asked had (contents held) (contents holds)
      (∥ HasFailed may_answer holds ∥₁) (λ lines. Says lines quiet said) status
