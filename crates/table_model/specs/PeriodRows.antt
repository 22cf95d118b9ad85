-- Rows that are stored under the number of their period and a key within it.
use Rattle.std.specs.Prelude.{ℕ, suc, ◌==◌, List, [], ◌∷◌, ◌++◌, map, filter}
use Rattle.book_model.specs.Std.{FinMap, entries, nat_cmp, ordering_then, Ordering}

-- by period, then by the key
abbrev pub by_period : {K : Type 0} → (K → K → Ordering) → ℕ × K → ℕ × K → Ordering
by_period R one other = ordering_then (nat_cmp one.0 other.0) (R one.1 other.1)

-- the rows of one period under its number
abbrev pub under : {K V : Type 0} → ℕ → List (K × V) → List ((ℕ × K) × V)
under {K} {V} number rows = map {B = (ℕ × K) × V} (λ (row : K × V). ((number, row.0), row.1)) rows

-- the rows of several periods, where this is the number of the first
abbrev pub numbered : {K V : Type 0} → ℕ → List (List (K × V)) → List ((ℕ × K) × V)
numbered number [] = []
numbered number (rows ∷ later) = under number rows ++ numbered (suc number) later

-- the rows of a table that are stored under a number
abbrev pub rows_under :
    {K V : Type 0} {R : ℕ × K → ℕ × K → Ordering} → ℕ → FinMap R V → List ((ℕ × K) × V)
rows_under number table = filter (λ row. row.0.0 == number) (entries table)
