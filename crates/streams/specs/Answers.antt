-- What std says that one call of a reader or a writer may answer.
use Rattle.std.specs.Prelude.{ℕ, List, Option, Result}
use Rattle.std.specs.Io.{ReadsAtMost, WritesAtMost}
use Rattle.std.specs.Io.KnownBytes.{ReadConsumes, WriteAppends}

-- a read answered this many bytes: they are in the room now, and gone from the reader
pub record MayRead {E : Type 0} (had left : Option (List ℕ)) (answer : Result ℕ E) (given : List ℕ)
    : Type 0 where
  pub bound : ReadsAtMost answer given
  pub bytes : ReadConsumes had left answer given

-- a write took this many of the bytes, and they follow what the writer held
pub record MayWrite {E : Type 0} (held holds : Option (List ℕ)) (answer : Result ℕ E)
    (bytes : List ℕ) : Type 0 where
  pub bound : WritesAtMost answer bytes
  pub grown : WriteAppends held holds answer bytes
