-- What the faults of stores and of openings mean, and what is answered where a session has none.
use Rattle.std.specs.Prelude.{Result, Ok, Err}
use Rattle.sqlite_trees.specs.declared.error.StoreError.{StoreError}
use Rattle.sqlite_trees.specs.declared.error.StoreError.TheVariants as store
use Rattle.book_model.specs.declared.fault.LedgerFault.TheVariants as ledger
use Rattle.book_audit.specs.declared.audited.Audited.{Audited}
use Rattle.book_audit.specs.declared.audited.Audited.TheVariants.{Unsound}
use Rattle.book_audit.specs.declared.finding.Place.TheVariants.{File}
use Rattle.book_audit.specs.declared.finding.Wrong.TheVariants.{Pages as WrongPages}
use Rattle.book_trees.specs.declared.faults.OpenFault.{OpenFault}
use Rattle.book_trees.specs.declared.faults.OpenFault.TheVariants as opening
use Rattle.book_trees.specs.declared.old_forms.OldFault.{OldFault}
use Rattle.book_trees.specs.declared.old_forms.OldFault.TheVariants as first
use Rattle.book_trees.specs.declared.integrity.LookFault.{LookFault}
use Rattle.book_trees.specs.declared.integrity.LookFault.TheVariants.{Pages, Open}
use Rattle.named_books.specs.declared.repository.RepositoryFault.{RepositoryFault}
use Rattle.named_books.specs.declared.repository.RepositoryFault.TheVariants.{Io, Exists, Busy, Ledger}
use Rattle.named_books.specs.declared.repository.Upgraded.{Upgraded}
use Rattle.named_books.specs.declared.repository.Upgraded.TheVariants.{Already}

-- what an error of a store means
abbrev pub store_fault : StoreError → RepositoryFault
store_fault store.OutOfMemory = Ledger ledger.Memory
store_fault _ = Ledger ledger.Store

-- what it means that books were not opened or made
abbrev pub open_fault : OpenFault → RepositoryFault
open_fault opening.NotBooks = Ledger ledger.NotBooks
open_fault opening.OldForm = Ledger ledger.OldForm
open_fault opening.NewForm = Ledger ledger.NewForm
open_fault opening.Memory = Ledger ledger.Memory
open_fault opening.Store = Ledger ledger.Store
open_fault opening.Busy = Busy
open_fault opening.Path = Io

-- the same, where books were to be continued that a stop left while they were made: any other file
-- belongs to somebody
abbrev pub resume_fault : OpenFault → RepositoryFault
resume_fault opening.NotBooks = Exists
resume_fault opening.OldForm = Exists
resume_fault opening.NewForm = Exists
resume_fault fault = open_fault fault

-- what is answered where a file was not audited: where its pages are wrong, that it is unsound
abbrev pub look_answer : LookFault → Result Audited RepositoryFault
look_answer Pages = Ok (Unsound (record { place = File; wrong = WrongPages }))
look_answer (Open fault) = Err (open_fault fault)

-- what is answered where books were not opened that were to be brought to this form
abbrev pub old_answer : OldFault → Result Upgraded RepositoryFault
old_answer first.Already = Ok Already
old_answer first.Pages = Err (Ledger ledger.Store)
old_answer (first.Open fault) = Err (open_fault fault)
