-- The life of a record of a plain ledger, by the shares that it has in the periods.
use Rattle.std.specs.Prelude.{ℕ, suc, List, [], ◌∷◌, ◌++◌, map, Option, None, Some}
use Rattle.book_model.specs.declared.trail.Deed.{Deed}
use Rattle.book_model.specs.declared.trail.Deed.TheVariants.{Charged, Reversed}
use Rattle.book_model.specs.declared.trail.Turn.{Turn}
use Rattle.book_model.specs.Words.{by_bytes}
use Rattle.plain_ledger.specs.declared.treatment.ClosedPeriod.{ClosedPeriod}
use Rattle.plain_ledger.specs.declared.treatment.Treatment.{Treatment}
use Rattle.plain_ledger.specs.declared.treatment.Treatment.TheVariants.{Counted, Added, Taken}
use Rattle.std.specs.BTreeMap as tree
use Rattle.book_model.specs.declared.trail.Deed.TheVariants as deed

-- what a period did with a record that has this share in it
abbrev pub deed_by : Treatment → Deed
deed_by Counted = Charged
deed_by Added = deed.Added
deed_by Taken = Reversed

-- if it has a share
abbrev pub turn_at : ℕ → Option Treatment → List Turn
turn_at number None = []
turn_at number (Some treatment) = record { period = number; deed = deed_by treatment } ∷ []

-- what periods did with it, of which the first has this number
abbrev pub turns_at : ℕ → List (Option Treatment) → List Turn
turns_at number [] = []
turns_at number (share ∷ later) = turn_at number share ++ turns_at (suc number) later

-- the shares in closed periods of the record of a name
abbrev pub closed_shares : List ℕ → List ClosedPeriod → List (Option Treatment)
closed_shares name closed = map (λ period. tree.get by_bytes period.treatments name) closed
