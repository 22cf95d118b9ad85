-- Which work a record measures, by the rule in force.
use Rattle.std.specs.Prelude.{ℕ, List, take, Option}
use Rattle.std.specs.Option.{option_map_or}
use Rattle.book_model.specs.Words.{identity_length}

-- the identity in force, by the one of the second rule: that of the first rule is a prefix of it
abbrev pub identity_in : Option ℕ → List ℕ → List ℕ
identity_in adopted second =
    option_map_or (λ period. second) adopted (take identity_length second)
