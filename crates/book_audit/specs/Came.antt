-- How many records are due by each entry of the journal, which says how many it kept.
use Rattle.std.specs.Prelude.{◌≡◌, ◌+◌, ◌==◌, ℕ, zero, suc, true, List, Option, None, Some}
use Rattle.std.specs.Prelude.{if◌then◌else◌, slice_index_or}
use Rattle.std.specs.List.{list_all}

-- how many are due by the entry of a number, and none by a number that has no entry
abbrev pub due_by : List ℕ → ℕ → ℕ
due_by due zero = 0
due_by due (suc at) = slice_index_or due at 0

-- whether a record came by the entry of a number, as 1 or 0
abbrev pub came_one : ℕ → Option ℕ → ℕ
came_one number None = 0
came_one number (Some own) = if own == number then 1 else 0

-- a record that came by an entry is due by it no more
abbrev pub TakesOne : List ℕ → List ℕ → Option ℕ → Type 0
TakesOne old new came =
    (number : ℕ) → due_by old number ≡ due_by new number + came_one number came

-- none is due any more
abbrev pub AreAllThere : List ℕ → Type 0
AreAllThere due = list_all (λ left. left == 0) due ≡ true
