-- A walk over accounting fields, one after the other.
use Rattle.std.specs.Prelude.{◌≡◌, ℕ, suc, ◌+◌, List, ◌∷◌, drop, None, option_map}
use Rattle.smf_type30.specs.Accounts.{fields_in}

-- the text begins with a field, and after it comes the rest
abbrev pub BeginsWith : List ℕ → List ℕ → List ℕ → Type 0
BeginsWith text field rest =
    (more : ℕ)
    → fields_in (suc more) text ≡ option_map (λ fields. field ∷ fields) (fields_in more rest)

-- the text begins with no field
abbrev pub BeginsWithNone : List ℕ → Type 0
BeginsWithNone text = (more : ℕ) → fields_in (suc more) text ≡ None

-- after a number of fields comes the rest
abbrev pub LeavesRest : ℕ → List ℕ → List ℕ → Type 0
LeavesRest count text rest =
    (more : ℕ) → option_map (drop count) (fields_in (count + more) text) ≡ fields_in more rest

-- the text ends before that many fields do
abbrev pub EndsBefore : ℕ → List ℕ → Type 0
EndsBefore count text = (more : ℕ) → fields_in (count + more) text ≡ None
