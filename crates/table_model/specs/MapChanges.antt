-- Changes of all rows of a finite map.
use Rattle.std.specs.Prelude.{map}
use Rattle.book_model.specs.Std.{FinMap, entries, from_entries, Ordering}

-- each row changed, under the same key
abbrev pub updated :
    {K V : Type 0} {R : K → K → Ordering} → (V → V) → FinMap R V → FinMap R V
updated {K} {V} change rows =
    from_entries (map {B = K × V} (λ (row : K × V). (row.0, change row.1)) (entries rows))

-- each row under a changed key
abbrev pub moved :
    {K V : Type 0} {R : K → K → Ordering} → (K → K) → FinMap R V → FinMap R V
moved {K} {V} change rows =
    from_entries (map {B = K × V} (λ (row : K × V). (change row.0, row.1)) (entries rows))
