-- How far a dump is read: to its stop, and no further.
use Rattle.std.specs.Prelude.{◌≡◌, ℕ, ◌+◌, ◌≤◌, Bool, true, false, ◌||◌, ◌⊎◌, List, [], ◌++◌}
use Rattle.std.specs.Prelude.{length, Option, None, Some}
use Rattle.std.specs.Io.KnownBytes.{Consumes}
use Rattle.smf_frames.specs.declared.dump.Layout.{Layout}
use Rattle.streams.specs.InputOutput.{Input}
use Rattle.book_model.specs.Words.{Front, front, Note}
use Rattle.book_model.specs.declared.fault.LedgerFault.{LedgerFault}
use Rattle.book_import.specs.declared.receipt.Receipt.{Receipt}
use Rattle.book_model.specs.declared.note.Stop.{Stop}
use Rattle.book_model.specs.declared.note.Stop.TheVariants.{Ledger}
use Rattle.book_import.specs.Receipts.{counted, is_stop_of_books}

-- the stop did not wait for the input's end: the books refused, or a descriptor has a fault that no
-- more bytes could mend
abbrev pub is_early_stop : Front → Stop → Bool
is_early_stop front stop = is_stop_of_books stop || front.is_broken

-- After an early stop the reader had neither failed nor come to its end. After any other stop the
-- reading went on to the input's end, to a failure, or to the last read that was allowed.
pub record EndsBy (allowed : ℕ) (early : Bool) (input : Input) : Type 0 where
  pub in_midst : early ≡ true
      → (input.new.has_failed ≡ false) × (input.new.has_ended ≡ false)
  pub read_out : early ≡ false → input.new.has_failed ≡ false → input.new.has_ended ≡ false
      → input.new.reads ≡ input.old.reads + allowed

-- No read was made once the stop was known. Of the bytes that came, these came before the last
-- read, one or more for each: they have no fault at a descriptor, and this was done with their
-- records. With the last read came at most as many as a read asks for; and nothing, if it failed or
-- was the end.
pub record IsNoFurther (most : ℕ) (layout : Layout) (bytes : List ℕ)
    (AreDone : List (List ℕ) → Type 0) (input : Input) : Type 0 where
  pub before : List ℕ
  pub last : List ℕ
  pub parts : bytes ≡ before ++ last
  pub piece : length last ≤ most
  pub nothing : (input.new.has_failed || input.new.has_ended) ≡ true → last ≡ []
  pub reads : input.new.reads ≤ input.old.reads + length before + 1
  pub unbroken : (front layout before).is_broken ≡ false
  pub done : AreDone (front layout before).records

-- These bytes were taken from the reader for this receipt, by reads that ask for so many, and no
-- more than it needed: it counts each record that was whole before the last read.
pub record IsReadFor (most : ℕ) (layout : Layout) (allowed : ℕ) (bytes : List ℕ) (told : Receipt)
    (input : Input) : Type 0 where
  pub taken : Consumes input.old.left input.new.left bytes
  pub ends : EndsBy allowed (is_early_stop (front layout bytes) told.stop) input
  pub no_further :
      IsNoFurther most layout bytes (λ records. length records ≤ counted told) input

-- The receipt is the one with which the reading stopped. Or, of an import with a note, it says why
-- the books could not take the end of its entry.
abbrev pub EndsAs : Option Note → Receipt → Receipt → Type 0
EndsAs None read told = told ≡ read
EndsAs (Some note) read told =
    (told ≡ read) ⊎ ((fault : LedgerFault) × (told ≡ record read { stop = Ledger fault }))

-- these bytes were taken for such a receipt, and no more than it needed
abbrev pub IsReadTo : Option Note → ℕ → Layout → ℕ → List ℕ → Receipt → Input → Type 0
IsReadTo import most layout allowed bytes told input =
    (read : Receipt) × EndsAs import read told × IsReadFor most layout allowed bytes read input
