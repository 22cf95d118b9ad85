-- The lines of a service: they are written up to the first write that fails, and no further.
use Rattle.std.specs.Prelude.{◌≡◌, Bool, true, false, ℕ, List, ◌++◌, Option}
use Rattle.std.specs.Io.KnownBytes.{Appends, Keeps}
use Rattle.streams.specs.InputOutput.{WriterSeen}
use Rattle.without_books.specs.declared.served_lines.ServedLines.{ServedLines}

-- what is seen of an output: the bytes that it holds, where it shows them; and that a write failed
abbrev pub seen_of : {O : Type 0} {answers : _} {bytes : _} → (O → Option (List ℕ))
    → ServedLines O answers bytes → WriterSeen
seen_of contents lines =
    record { holds = contents lines.output; has_failed = lines.has_failed }

-- an output to which no write has failed
abbrev pub unfailed : Option (List ℕ) → WriterSeen
unfailed holds = record { holds = holds; has_failed = false }

-- the first part of a text was written
pub record GainsFront (text : List ℕ) (held holds : Option (List ℕ)) : Type 0 where
  pub front : List ℕ
  pub rest : List ℕ
  pub parts : text ≡ front ++ rest
  pub grown : Appends held holds front

-- What an output gains of a text, by whether a write had failed before, and whether one has now: the
-- whole; or the first part, up to a write that failed; and after that nothing.
abbrev pub GainsBy : Bool → Bool → Option (List ℕ) → Option (List ℕ) → List ℕ → Type 0
GainsBy false false held holds text = Appends held holds text
GainsBy false true held holds text = GainsFront text held holds
GainsBy true true held holds text = Keeps held holds
GainsBy true false held holds text = ⊥

-- the same, by what is seen of the output before and after
abbrev pub Gains : WriterSeen → WriterSeen → List ℕ → Type 0
Gains held holds text = GainsBy held.has_failed holds.has_failed held.holds holds.holds text
