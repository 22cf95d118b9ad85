-- Files in memory.
use Rattle.std.specs.Prelude.{ℕ, ℤ, List, Option, Vec, option_map}
use Rattle.std.specs.Global.{Global}
use Rattle.without_books.specs.Inputs.{Files}
use Rattle.memory_books.specs.declared.inputs.MemoryInputs.{MemoryInputs}
use Rattle.memory_books.specs.declared.places.Kept.{Kept}
use Rattle.memory_books.specs.Kept.{books_at}

-- what the file of a name holds: the first that has it
abbrev pub text_at : List (Kept (Vec ℕ Global)) → List ℕ → Option (List ℕ)
text_at files name = option_map (λ text. text.items) (books_at files name)

-- so it is with these files, on a day
abbrev pub files_on : Option ℤ → List (Kept (Vec ℕ Global)) → Files
files_on today files = record { holds = text_at files; today = today }

abbrev pub held_in : MemoryInputs → Files
held_in inputs = files_on inputs.today inputs.files.now
