-- What the choice of a record changes, and the choice of none, as it is looked for in the tables.
use Rattle.std.specs.Prelude.{◌≡◌, ℕ, ℤ, List, Option, slice_get, option_map}
use Rattle.book_core.specs.Words.{choice_effects, withdraw}
use Rattle.book_core.specs.declared.effects.ChoiceEffects.{ChoiceEffects}
use Rattle.book_core.specs.declared.effects.Effects.{Effects}
use Rattle.table_model.specs.Words.{RecordRow, Tables, member_at}
use Rattle.tree_tables.specs.Answers.{charged_with}

-- it is charged, and the record of its identity that was charged until now, if there was one, no
-- longer is
abbrev pub FindsChoiceEffects : Option ℤ → List ℕ × RecordRow → Tables → ChoiceEffects → Type 0
FindsChoiceEffects through entry tables effects =
    effects
    ≡ choice_effects through
    (option_map member_at (slice_get (charged_with entry.1.identity tables.records) 0))
    (member_at entry)

-- the record of its identity that was charged until now, if there was one, no longer is
abbrev pub FindsWithdrawn : Option ℤ → List ℕ × RecordRow → Tables → Option Effects → Type 0
FindsWithdrawn through entry tables withdrawn =
    withdrawn
    ≡ option_map (withdraw through)
    (option_map member_at (slice_get (charged_with entry.1.identity tables.records) 0))
