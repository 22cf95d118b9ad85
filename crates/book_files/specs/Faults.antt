-- What the faults of files mean, and what is answered where there is no copy of books.
use Rattle.std.specs.IoError.{error_kind}
use Rattle.std.specs.Prelude.{if◌then◌else◌, Bool, Result, Ok, Err}
use Rattle.std.specs.declared.io.Error.{Error}
use Rattle.std.specs.declared.io.ErrorKind.{ErrorKind}
use Rattle.std.specs.declared.io.ErrorKind.TheVariants as kind
use Rattle.book_model.specs.declared.fault.LedgerFault.TheVariants as ledger
use Rattle.book_trees.specs.declared.integrity.LookFault.{LookFault}
use Rattle.book_trees.specs.declared.integrity.LookFault.TheVariants.{Pages, Open}
use Rattle.book_sessions.specs.Faults.{open_fault}
use Rattle.book_files.specs.declared.copied.CopyFault.{CopyFault}
use Rattle.book_files.specs.declared.copied.CopyFault.TheVariants as copies
use Rattle.named_books.specs.declared.repository.RepositoryFault.{RepositoryFault}
use Rattle.named_books.specs.declared.repository.RepositoryFault.TheVariants.{Io, Exists, Ledger}

-- what the failure of a file means
abbrev pub file_fault : ErrorKind → RepositoryFault
file_fault kind.AlreadyExists = Exists
file_fault kind.OutOfMemory = Ledger ledger.Memory
file_fault _ = Io

-- what a call on a file gave, or what its failure means
abbrev pub file_answer : {A : Type 0} → Result A Error → Result A RepositoryFault
file_answer (Ok given) = Ok given
file_answer (Err error) = Err (file_fault (error_kind error))

-- what it means that books were not copied
abbrev pub not_copied : LookFault → CopyFault
not_copied Pages = copies.Pages
not_copied (Open fault) = copies.Refused (open_fault fault)

-- what is answered of a copy that was visited in place of the books
abbrev pub tried_answer : {A : Type 0} → Result A CopyFault → Result A RepositoryFault
tried_answer (Ok answer) = Ok answer
tried_answer (Err copies.Pages) = Err (Ledger ledger.Store)
tried_answer (Err (copies.Refused fault)) = Err fault

-- a copy is whole where its files were closed, and hold it without a log
abbrev pub whole_copy : {A : Type 0} → Result A RepositoryFault → Bool → Result A CopyFault
whole_copy (Ok done) has_log =
    if has_log then Err (copies.Refused (Ledger ledger.Store)) else Ok done
whole_copy (Err fault) has_log = Err (copies.Refused fault)
