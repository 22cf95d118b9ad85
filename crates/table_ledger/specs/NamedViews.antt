-- What a new record has to know of the records that have its identity, by their names.
use Rattle.std.specs.Prelude.{ℕ, ℤ, List, [], ◌∷◌, length, Option, None, if◌then◌else◌}
use Rattle.book_core.specs.declared.effects.Member.{Member}
use Rattle.book_core.specs.declared.effects.View.{View}
use Rattle.table_model.specs.Tables.{ChoiceTable, Tables}
use Rattle.table_model.specs.Views.{has_choice, lone_members, member_in}

-- how many there are, where one alone that was chosen counts as two
abbrev pub names_count : ChoiceTable → List (List ℕ) → ℕ
names_count choices [] = 0
names_count choices (one ∷ []) = lone_members (has_choice choices one)
names_count choices (one ∷ other ∷ more) = length (one ∷ other ∷ more)

-- the record that is alone, unless it was chosen
abbrev pub only_named : Tables → List (List ℕ) → Option Member
only_named tables [] = None
only_named tables (one ∷ []) = if has_choice tables.choices one then None else member_in tables one
only_named tables (one ∷ other ∷ more) = None

-- the view by these names
abbrev pub view_named : Option ℤ → Tables → List (List ℕ) → View
view_named through tables names = record {
  through = through;
  members = names_count tables.choices names;
  only = only_named tables names;
}
