-- Whether a work is withheld, and whether it was, as the choices say that name its records.
use Rattle.std.proofs.Common.{◌≡◌, ◌∙◌, Bool, List, None, Option, Some, ap, false, filter, not, refl}
use Rattle.std.proofs.Common.{option_map, ℕ}
use Rattle.book_model.proofs.Std.{last_or, list_any, option_map_or, values}
use Rattle.book_model.specs.declared.trail.NamedChoice.{NamedChoice}
use Rattle.book_model.proofs.Lemmas.{list_any-map}
use Rattle.book_model.proofs.RecordSets.{tests_swap}
use Rattle.table_model.specs.RulingsRead.{was_withheld_in}
use Rattle.table_model.specs.TrailRead.{row_choice}
use Rattle.table_model.specs.Words.{ChoiceRow, Tables, choices_with, is_withheld_in, last_row}
use Rattle.table_model.specs.Words.{name_has_identity}
use Rattle.table_model.proofs.DueLemmas.{last_map}
use Rattle.table_model.proofs.RowOrder.{list_any-filter}

-- the last of some choices says that none counts
abbrev pub ends_as : List NamedChoice → Bool
ends_as choices =
    option_map_or (λ (choice : NamedChoice). not choice.counts) (last_or None choices) false

-- one of them says so
abbrev pub says_none : List NamedChoice → Bool
says_none choices = list_any (λ (choice : NamedChoice). not choice.counts) choices

module _ (identity : List ℕ) (tables : Tables) where
  -- the rows of the choices that name a record of the identity
  abbrev own : ChoiceRow → Bool
  own row = name_has_identity tables.records identity row.name

  -- the last of the identity's choices says it where the last of these rows does
  pub last_says : ends_as (choices_with identity tables) ≡ is_withheld_in tables identity
  last_says =
      ap (λ last. option_map_or (λ (choice : NamedChoice). not choice.counts) last false)
      (last_map row_choice (filter own (values tables.choices)) None)
      ∙ by_last (last_row tables identity)
    where
      by_last : (last : Option ChoiceRow)
          → option_map_or (λ (choice : NamedChoice). not choice.counts)
          (option_map row_choice last) false
          ≡ option_map_or (λ (row : ChoiceRow). not row.counts) last false
      by_last None = refl
      by_last (Some row) = refl

  -- one of them says it where one of these rows does
  pub one_says : says_none (choices_with identity tables) ≡ was_withheld_in tables identity
  one_says =
      list_any-map (λ (choice : NamedChoice). not choice.counts) row_choice
      (filter own (values tables.choices))
      ∙ list_any-filter (λ (row : ChoiceRow). not row.counts) own (values tables.choices)
      ∙ (λ i. list_any (λ (row : ChoiceRow). tests_swap (own row) (not row.counts) i)
      (values tables.choices))
