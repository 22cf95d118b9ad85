-- What is told of files that are not looked through.
use Rattle.std.specs.Prelude.{◌≡◌}
use Rattle.sqlite_disk.specs.declared.files.Files.{Files}
use Rattle.sqlite_store.specs.declared.error.OpenError.{OpenError}
use Rattle.sqlite_store.specs.declared.error.OpenError.TheVariants as store
use Rattle.book_trees.specs.Forms.{IsToldOf}
use Rattle.book_trees.specs.Refusals.{fault_for, IsUnopened}
use Rattle.book_trees.specs.declared.faults.OpenFault.{OpenFault}
use Rattle.book_trees.specs.declared.faults.OpenFault.TheVariants.{NotBooks}
use Rattle.book_trees.specs.declared.integrity.LookFault.{LookFault}
use Rattle.book_trees.specs.declared.integrity.LookFault.TheVariants.{Pages, Open}

-- the fault that an error of the store stands for, while the pages of files that list books are
-- looked through
abbrev pub look_fault_for : OpenError → LookFault
look_fault_for store.Refused = Pages
look_fault_for store.OutOfMemory = Open (fault_for store.OutOfMemory)
look_fault_for store.Io = Open (fault_for store.Io)
look_fault_for store.Full = Open (fault_for store.Full)

-- the fault of an opening that says as much of files: pages are wrong where there are no books
abbrev pub look_opening : LookFault → OpenFault
look_opening Pages = NotBooks
look_opening (Open fault) = fault

-- what is told of files that were not looked through
abbrev pub IsToldLook : {D : Type 0} → LookFault → Files D → LookFault → Files D → Type 0
IsToldLook Pages files told last = (told ≡ Pages) × (last ≡ files)
IsToldLook (Open fault) files told last =
    (other : OpenFault) × (told ≡ Open other) × IsToldOf fault files other last

-- the files at a path were not opened
abbrev pub IsUnopenedLook : LookFault → Type 0
IsUnopenedLook Pages = ⊥
IsUnopenedLook (Open fault) = IsUnopened fault
