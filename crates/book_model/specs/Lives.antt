-- The life of a record: what each period did with it, one period after another.
use Rattle.std.specs.Prelude.{ℕ, suc, Bool, true, false, not, if◌then◌else◌, List, [], ◌∷◌, ◌++◌}
use Rattle.std.specs.Prelude.{ℤ, pos, ◌-ℤ◌, count_by}
use Rattle.book_model.specs.declared.trail.Deed.{Deed}
use Rattle.book_model.specs.declared.trail.Deed.TheVariants.{Charged, Added, Reversed}
use Rattle.book_model.specs.declared.trail.Turn.{Turn}
use Rattle.book_model.specs.Sets.{has}
use Rattle.book_model.specs.Periods.{Period}
use Rattle.book_model.specs.Books.{Book, all_periods}

-- it is there where a test holds
abbrev pub turn_if : Bool → ℕ → Deed → List Turn
turn_if test period deed = if test then record { period = period; deed = deed } ∷ [] else []

-- what a period did with the record: its rows count it, its plus lines add it, its minus lines
-- reverse it
abbrev pub turns_in : ℕ → Period → List ℕ → List Turn
turns_in number period bytes =
    turn_if (has period.counted bytes) number Charged
    ++ turn_if (has period.added bytes) number Added
    ++ turn_if (has period.taken bytes) number Reversed

-- what periods did with it, of which the first has that number
abbrev pub life_from : ℕ → List Period → List ℕ → List Turn
life_from number [] bytes = []
life_from number (period ∷ later) bytes =
    turns_in number period bytes ++ life_from (suc number) later bytes

-- its life in a book, up to the open period as if it ended now
abbrev pub life_of : Book → List ℕ → List Turn
life_of book bytes = life_from 1 (all_periods book) bytes

-- the record is charged by it; else a charge is reversed
abbrev pub is_charge : Deed → Bool
is_charge Reversed = false
is_charge deed = true

-- how often a record is charged in its life
abbrev pub charges_in : List Turn → ℕ
charges_in life = count_by (λ turn. is_charge turn.deed) life

-- how often a charge is reversed
abbrev pub reversals_in : List Turn → ℕ
reversals_in life = count_by (λ turn. not (is_charge turn.deed)) life

-- the one less the other
abbrev pub net_of : List Turn → ℤ
net_of life = pos (charges_in life) -ℤ pos (reversals_in life)
