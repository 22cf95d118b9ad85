-- What stands at a number of the list of the office's rulings, by the rulings that a ledger keeps
-- apart from its choices, the tariffs that were replaced, and its credits.
use Rattle.std.specs.Prelude.{◌≡◌, ◌<◌, ◌+◌, ◌++◌, ℕ, List, Option, Result, Ok, Err, length}
use Rattle.std.specs.Prelude.{option_map, slice_get}
use Rattle.book_model.specs.declared.listed_ruling.ListedRuling.{ListedRuling}
use Rattle.book_model.specs.Words.{Choice, Credit, Naming, Replaced, Rulings, RulingSeen, ShowsDays}
use Rattle.book_model.specs.Words.{adoption_seen, all_replaced_seen, choice_seen, choices_seen}
use Rattle.book_model.specs.Words.{credit_seen, credits_seen, ruling_shown, rulings_listed}
use Rattle.book_core.specs.declared.listed_rulings.ListedAt.{ListedAt}
use Rattle.book_core.specs.declared.listed_rulings.ListedAt.TheVariants.{Other}
use Rattle.book_core.specs.declared.listed_rulings.ListedAt.TheVariants as listed
use Rattle.book_core.specs.declared.listed_rulings.RulingCounts.{RulingCounts}

-- a number leads into a part of the list, to a ruling that is shown so; or past it, by so many
abbrev pub LeadsInto : List RulingSeen → ℕ → Result (Option ListedRuling) ℕ → Type 0
LeadsInto part number (Ok found) =
    (number < length part) × (slice_get part number ≡ option_map ruling_shown found)
LeadsInto part number (Err rest) = number ≡ length part + rest

-- a part of the list, by what a ledger keeps beside its tariffs and closes: the choices, the tariffs
-- that were replaced, and the credits
abbrev pub Part : Type 0
Part = Naming → List Choice → List Replaced → List Credit → List RulingSeen

-- the list by these rulings, with such ones beside them
abbrev pub listed_with : Rulings → Part
listed_with rulings = λ naming choices replaced credits.
    rulings_listed naming (record rulings {
      choices = choices;
      replaced = replaced;
      credits = credits;
    })

-- what is left of it behind the closes, behind the choices, and behind the adoption
abbrev pub last_part : Part
last_part = λ naming choices replaced credits.
    all_replaced_seen replaced ++ credits_seen 1 credits

abbrev pub adoption_part : Option ℕ → Part
adoption_part adopted = λ naming choices replaced credits.
    adoption_seen adopted ++ last_part naming choices replaced credits

abbrev pub choices_part : Option ℕ → Part
choices_part adopted = λ naming choices replaced credits.
    choices_seen naming 1 choices ++ adoption_part adopted naming choices replaced credits

-- a fact holds of whatever is kept beside the tariffs and closes, if there are so many of each
abbrev pub Beside : RulingCounts
    → (Naming → List Choice → List Replaced → List Credit → Type 0) → Type 0
Beside counts Holds =
    (naming : Naming) (choices : List Choice) (replaced : List Replaced) (credits : List Credit)
    → length choices ≡ counts.choices
    → length (all_replaced_seen replaced) ≡ counts.replaced
    → length credits ≡ counts.credits
    → Holds naming choices replaced credits

-- This stands at a number of a part: the choice at a place among the choices, the tariff at one among
-- those that were replaced and came as texts, the credit at one among the credits; or another ruling,
-- or none.
abbrev pub StandsIn : Part → RulingCounts → ℕ → ListedAt → Type 0
StandsIn part counts number (listed.Choice place) =
    (place < counts.choices) × (Beside counts (λ naming choices replaced credits.
    slice_get (part naming choices replaced credits) number
    ≡ option_map (choice_seen naming (place + 1)) (slice_get choices place)))
StandsIn part counts number (listed.Replaced place) =
    (place < counts.replaced) × (Beside counts (λ naming choices replaced credits.
    slice_get (part naming choices replaced credits) number
    ≡ slice_get (all_replaced_seen replaced) place))
StandsIn part counts number (listed.Credit place) =
    (place < counts.credits) × (Beside counts (λ naming choices replaced credits.
    slice_get (part naming choices replaced credits) number
    ≡ option_map (credit_seen (place + 1)) (slice_get credits place)))
StandsIn part counts number (Other found) =
    Beside counts (λ naming choices replaced credits.
    slice_get (part naming choices replaced credits) number ≡ option_map ruling_shown found)

-- so it stands at a number of the whole list
abbrev pub StandsAt : Rulings → RulingCounts → ℕ → ListedAt → Type 0
StandsAt rulings counts number found = StandsIn (listed_with rulings) counts number found

-- the days of a ruling that is kept here are days
abbrev pub IsShownAt : ListedAt → Type 0
IsShownAt (Other found) = ShowsDays found
IsShownAt other = Unit {0}
