-- Values under the names of records.
use Rattle.std.specs.Prelude.{ℕ, List, map}
use Rattle.book_model.specs.Words.{Naming, Records, members, name_of}

-- a value for each of some records, under the record's name
abbrev pub under_names : {V : Type 0} → Naming → V → Records → List (List ℕ × V)
under_names {V} naming value records =
    map {B = List ℕ × V} (λ bytes. (name_of naming bytes, value)) (members records)
