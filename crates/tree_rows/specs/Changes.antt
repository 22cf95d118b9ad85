-- Changes of all rows of a finite map, and how far a walk by key has brought them.
use Rattle.std.specs.Prelude.{◌≡◌, Bool, true, false, Option, Some, None, List, ◌∷◌, [], map, filter}
use Rattle.std.specs.FinMap.{FinMap, get, entries, contains_key, from_entries}
use Rattle.std.specs.Ordering.{is_lt}
use Rattle.std.specs.declared.cmp.Ordering.{Ordering}
use Rattle.sqlite_value.specs.Order.{Row}
use Rattle.tree_rows.specs.Layouts.{Layout, row_of}

-- each row with a change, under the keys that they have
abbrev pub updated :
    {K V : Type 0} {R : K → K → Ordering} → (V → V) → FinMap R V → FinMap R V
updated {K} {V} change rows =
    from_entries (map {B = K × V} (λ (row : K × V). (row.0, change row.1)) (entries rows))

-- each row under a changed key
abbrev pub moved :
    {K V : Type 0} {R : K → K → Ordering} → (K → K) → FinMap R V → FinMap R V
moved {K} {V} change rows =
    from_entries (map {B = K × V} (λ (row : K × V). (change row.0, row.1)) (entries rows))

-- no two keys of the map are changed to one
abbrev pub MovesApart :
    {K V : Type 0} {R : K → K → Ordering} → (K → K) → FinMap R V → Type 0
MovesApart {K} change m =
    (one other : K) → contains_key m one ≡ true → contains_key m other ≡ true
    → change one ≡ change other → one ≡ other

-- whether a key is still to come in a walk that has come to this one, or not to any yet
abbrev pub is_above : {K : Type 0} → (K → K → Ordering) → Option K → K → Bool
is_above R None k = true
is_above R (Some at) k = is_lt (R at k)

-- the entries that are still to come
abbrev pub above : {K V : Type 0} {R : K → K → Ordering} → Option K → FinMap R V → List (K × V)
above None m = entries m
above {K} {V} {R} (Some at) m = filter (λ (e : K × V). is_lt (R at e.0)) (entries m)

-- what a walk has passed is as the change leaves it
abbrev pub DoneTo :
    {K V : Type 0} {R : K → K → Ordering} → (V → V) → Option K → FinMap R V → Type 0
DoneTo {K} {V} {R} change at m =
    (k : K) (v : V) → get m k ≡ Some v → is_above R at k ≡ false → change v ≡ v

-- what a step of a walk finds: the row of the first entry that is still to come, or that none is
abbrev pub FindsAbove :
    {K V : Type 0} {R : K → K → Ordering} → Layout K V R → Option K → FinMap R V → Row → Bool
    → Type 0
FindsAbove {K} {V} layout at m row true =
    (k : K) × (v : V) × (more : List (K × V))
    × (above at m ≡ (k, v) ∷ more) × (row ≡ row_of layout (k, v))
FindsAbove layout at m row false = above at m ≡ []
