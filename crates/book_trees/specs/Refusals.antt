-- What is told of files that are refused, and what is left of them then.
use Rattle.std.specs.Prelude.{◌≡◌, ◌⊎◌, ⊤, Bool, false, Result, Ok, Err}
use Rattle.sqlite_disk.specs.declared.Disk.{Ghosts}
use Rattle.sqlite_disk.specs.declared.files.Files.{Files}
use Rattle.sqlite_pool.specs.Stored.{IsUnreadable, RecoversAs}
use Rattle.sqlite_store.specs.declared.error.OpenError.{OpenError}
use Rattle.sqlite_store.specs.declared.error.OpenError.TheVariants as store
use Rattle.sqlite_wal.specs.Files.{outcomes}
use Rattle.sqlite_wal.specs.Reads.{AreClean}
use Rattle.sqlite_wal.specs.Recovery.{Image}
use Rattle.sqlite_wal.specs.declared.error.Error.{Error}
use Rattle.sqlite_wal.specs.declared.error.Error.TheVariants as wal
use Rattle.book_trees.specs.LedgerFiles.{image_of, page_size, HoldsEmptyBooks, HoldsNothing}
use Rattle.book_trees.specs.declared.faults.OpenFault.{OpenFault}
use Rattle.book_trees.specs.declared.faults.OpenFault.TheVariants.{NotBooks, Memory, Store, Busy}
use Rattle.book_trees.specs.declared.faults.OpenFault.TheVariants.{NewForm, OldForm, Path}

-- the fault that an error of the store stands for
abbrev pub fault_for : OpenError → OpenFault
fault_for store.Refused = NotBooks
fault_for store.OutOfMemory = Memory
fault_for store.Io = Store
fault_for store.Full = Store

-- Whether recovery passes over a log of which it does not say what it would take: not where it
-- refuses the log.
abbrev pub probe_answer : Error → Result Bool OpenFault
probe_answer wal.Corrupt = Ok false
probe_answer wal.OutOfMemory = Err Memory
probe_answer _ = Err Store

-- What may be told of files that are in hand: that they hold no books, or books of another form, only
-- where they do not hold this. Memory may run out, and files fail, whatever they hold. No other
-- program has them, nor are they out of reach.
abbrev pub IsToldWithout : Type 0 → OpenFault → Type 0
IsToldWithout Held NotBooks = ¬ Held
IsToldWithout Held OldForm = ¬ Held
IsToldWithout Held NewForm = ¬ Held
IsToldWithout Held Memory = ⊤
IsToldWithout Held Store = ⊤
IsToldWithout Held Busy = ⊥
IsToldWithout Held Path = ⊥

-- What a stop within the making of books leaves of files that held nothing: nothing still, or all
-- the tables, with no row.
abbrev pub IsBegun : Image → Type 0
IsBegun image = HoldsNothing image ⊎ ∥ HoldsEmptyBooks image ∥₁

-- the files at a path were not opened: for want of memory, since another program has them, or
-- since they are out of reach
abbrev pub IsUnopened : OpenFault → Type 0
IsUnopened fault = (fault ≡ Memory) ⊎ ((fault ≡ Busy) ⊎ (fault ≡ Path))

-- files are as they were found, or stand for the same pages
abbrev pub IsAsFound : Image → Image → Type 0
IsAsFound first left = (left ≡ first) ⊎ RecoversAs page_size first left

module _ {D : Type 0} (g : Ghosts D) where
  -- what a crash may leave of the two, where they are honest
  abbrev pub MayLeave : Files D → Image → Type 0
  MayLeave files image =
      AreClean g files.log files.db × outcomes g files.log files.db image

  -- these files are given back, and where no disk lied this fault is told only without that
  abbrev pub IsRefusedWithout : Type 0 → OpenFault → Files D → Type 0
  IsRefusedWithout Held fault files = AreClean g files.log files.db → IsToldWithout Held fault

  -- A crash leaves what it could leave before, or what stands for the same pages. Files that stood
  -- for no database stay as they were.
  pub record AreKept (old new : Files D) : Type 0 where
    pub crash : (left : Image) → MayLeave new left
        → MayLeave old left ⊎ RecoversAs page_size (image_of g old) left
    pub unread : IsUnreadable page_size (image_of g old) → (left : Image) → MayLeave new left
        → MayLeave old left
