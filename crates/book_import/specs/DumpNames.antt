-- The names of the usage records of a dump.
use Rattle.std.specs.Prelude.{◌≡◌, ℕ, List, ◌++◌, map, Option}
use Rattle.std.specs.Io.KnownBytes.{Consumes}
use Rattle.smf_frames.specs.declared.dump.Layout.{Layout}
use Rattle.streams.specs.InputOutput.{Input}
use Rattle.book_model.specs.Records.{name_of}
use Rattle.book_model.specs.Words.{Naming, front}
use Rattle.book_import.specs.declared.names_in_dumps.DumpNames.{DumpNames}
use Rattle.book_model.specs.declared.note.Stop.{Stop}
use Rattle.book_import.specs.Dumps.{stop_after}
use Rattle.book_import.specs.Groups.{usage_of}
use Rattle.book_import.specs.Reach.{EndsBy}

-- the names of those of the records that are of usage, in their order
abbrev pub names_of : Naming → List (List ℕ) → List (List ℕ)
names_of naming records = map (name_of naming) (usage_of records)

-- where the names before a piece are those of a text, those after it are those of both
abbrev pub NamesMore : Naming → Layout → List ℕ → List ℕ → List (List ℕ) → List (List ℕ) → Type 0
NamesMore naming layout text piece old new =
    old ≡ names_of naming (front layout text).records
    → new ≡ names_of naming (front layout (text ++ piece)).records

-- These bytes were taken from a reader, in at most so many reads, and whatever cut their reading short:
-- these are the names of their usage records, and why there are no more. No read was made once a fault at
-- a descriptor was known.
pub record AreNamed (naming : Naming) (layout : Layout) (cut : Option Stop) (allowed : ℕ) (input : Input)
    (told : DumpNames) : Type 0 where
  pub bytes : List ℕ
  pub taken : Consumes input.old.left input.new.left bytes
  pub names : told.names.items ≡ names_of naming (front layout bytes).records
  pub stop : told.stop ≡ stop_after cut (front layout bytes)
  pub ends : EndsBy allowed (front layout bytes).is_broken input
