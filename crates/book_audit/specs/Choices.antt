-- Which record of an identity was named last, and whether it counts.
use Rattle.std.specs.Prelude.{ℕ, Bool, false, not, List, Option}
use Rattle.std.specs.BTreeMap.{get_by}
use Rattle.book_model.specs.Std.{slice_cmp, option_map_or, nat_cmp}
use Rattle.book_model.specs.Words.{same_bytes}
use Rattle.book_audit.specs.declared.choices.Chosen.{Chosen}
use Rattle.book_audit.specs.declared.choices.Named.{Named}

-- the record of an identity that was named last, if one was
abbrev pub last_chosen : Chosen → List ℕ → Option Named
last_chosen chosen identity = get_by (λ key. slice_cmp nat_cmp identity key.items) chosen.lasts

-- it has this name
abbrev pub is_last : Chosen → List ℕ → List ℕ → Bool
is_last chosen identity name =
    option_map_or (λ (named : Named). same_bytes name named.name) (last_chosen chosen identity) false

-- none of the identity counts since
abbrev pub withholds : Chosen → List ℕ → Bool
withholds chosen identity =
    option_map_or (λ (named : Named). not named.counts) (last_chosen chosen identity) false
