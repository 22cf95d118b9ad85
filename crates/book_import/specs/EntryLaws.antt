-- Laws of imports with what they say of themselves.
use Rattle.std.specs.Prelude.{◌≡◌, ◌≢◌, ◌⊎◌, ℕ, Bool, false, List, [], ◌++◌, Option, Some}
use Rattle.smf_frames.specs.declared.dump.Layout.{Layout}
use Rattle.book_model.specs.JournalLaws.{unjournaled}
use Rattle.book_model.specs.Notes.{with_ended}
use Rattle.book_model.specs.Words.{Book, Event, Naming, Note, after_all, front, stop_shown}
use Rattle.book_model.specs.Words.{told_so_far, with_import}
use Rattle.book_model.specs.declared.fault.LedgerFault.TheVariants.{DigestClash}
use Rattle.book_model.specs.declared.note.Stop.{Stop}
use Rattle.book_model.specs.declared.note.Stop.TheVariants.{Ledger}
use Rattle.book_import.specs.declared.receipt.Receipt.{Receipt}
use Rattle.book_import.specs.Dumps.{stop_after}
use Rattle.book_import.specs.ImportEntries.{ImportsOf}
use Rattle.book_import.specs.Laws.{book_after_import}
use Rattle.book_import.specs.Repeats.{IsUnhindered}

-- An import with a note has one entry, if it kept a record, and none else. It has all that the
-- import kept, and what it had read as it kept something last. Once the import is over, the entry
-- has ended as the receipt says; where memory or the store failed, it has ended or not.
pub record OneEntryEach : Type 0 where
  pub over :
      (note : Note) (naming : Naming) (layout : Layout) (cut : Option Stop) (bytes : List ℕ)
      (told : Receipt) (was : Bool) (before : Book) (made : List Event) (is : Bool)
      (of : ImportsOf (Some note) naming layout cut bytes told was before made is)
      → IsUnhindered told
      → (after_all made before).journal
      ≡ with_ended note (stop_shown told.stop) (told_so_far of.says.says.portions) before.journal
  pub always :
      (note : Note) (naming : Naming) (layout : Layout) (cut : Option Stop) (bytes : List ℕ)
      (told : Receipt) (was : Bool) (before : Book) (made : List Event) (is : Bool)
      (of : ImportsOf (Some note) naming layout cut bytes told was before made is)
      → ((after_all made before).journal
      ≡ with_import note (told_so_far of.says.says.portions) before.journal)
      ⊎ ((stop : Stop) × ((after_all made before).journal
      ≡ with_ended note (stop_shown stop) (told_so_far of.says.says.portions) before.journal))

-- The same dump twice in a row: if neither a lack of memory nor the store stopped the first import
-- into open books, the second changes nothing, whatever either says of itself. So it has no entry.
abbrev pub AgainIsNothing : Type 0
AgainIsNothing =
    (import other : Option Note) (naming : Naming) (layout : Layout) (cut again : Option Stop)
    (bytes : List ℕ) (once twice : Receipt) (before : Book) (first second : List Event)
    (between is : Bool)
    → ImportsOf import naming layout cut bytes once false before first between
    → IsUnhindered once
    → ImportsOf other naming layout again bytes twice between (after_all first before) second is
    → second ≡ []

-- Stops are mended with what the imports say too, but for the journal: that has an entry for each
-- that kept something.
abbrev pub EntriesAreMended : Type 0
EntriesAreMended =
    (import other : Option Note) (naming : Naming) (layout : Layout) (cut again : Option Stop)
    (bytes : List ℕ) (once twice : Receipt) (before : Book) (first second : List Event)
    (between is : Bool)
    → ImportsOf import naming layout cut bytes once false before first between
    → ImportsOf other naming layout again bytes twice false (after_all first before) second is
    → IsUnhindered twice → twice.stop ≢ Ledger DigestClash
    → unjournaled (after_all (second ++ first) before)
    ≡ unjournaled (book_after_import naming before (stop_after cut (front layout bytes))
    (front layout bytes).records)
