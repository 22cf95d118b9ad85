-- Tariffs that were replaced, as a plain ledger lists them.
use Rattle.std.specs.Prelude.{ℕ, ℤ, List, [], ◌∷◌, ◌++◌, drop, filter, map, option_and_then, slice_get}
use Rattle.std.specs.Prelude.{Option, None, Some}
use Rattle.book_model.specs.declared.listed_ruling.ListedRuling.{ListedRuling}
use Rattle.book_model.specs.Words.{AcceptedTerms, RulingSeen, is_effective, tariff_seen}
use Rattle.plain_ledger.specs.declared.replaced.ReplacedTariff.{ReplacedTariff}
use Rattle.plain_ledger.specs.Plain.{replaced_of}

-- a ruling that is listed, alone, or none
abbrev pub listed_if : Option ListedRuling → List ListedRuling
listed_if None = []
listed_if (Some ruling) = ruling ∷ []

-- those behind so many that were replaced, and those in force
abbrev pub behind : List ReplacedTariff → List AcceptedTerms → ℕ → List AcceptedTerms
behind replaced tariffs number =
    map (λ one. (replaced_of one).tariff) (drop number replaced) ++ tariffs

-- the first of them that begins on a day
abbrev pub brought_of : List ReplacedTariff → List AcceptedTerms → ℤ → ℕ → Option RulingSeen
brought_of replaced tariffs day number =
    option_and_then tariff_seen
    (slice_get (filter (is_effective day) (behind replaced tariffs number)) 0)
