-- What a new record changes follows from the names of two records that have its identity.
use Rattle.std.proofs.Common.{◌≡◌, ◌∙◌, ℕ, List, [], ◌∷◌, Option, None, Some, map, take, refl, ap}
use Rattle.std.proofs.Common.{ℤ, if◌then◌else◌, option_map}
use Rattle.book_model.proofs.Std.{get, AllByRecursion}
use Rattle.book_model.specs.Words.{Priced, same_bytes}
use Rattle.book_core.specs.Words.{effects_of}
use Rattle.table_model.specs.AcceptRead.{view_with}
use Rattle.table_model.specs.Words.{NamedRow, RecordRow, Tables, has_choice, lone_members}
use Rattle.table_model.specs.Words.{member_at, rows_with}
use Rattle.tree_tables.specs.Answers.{NamesSharing}
use Rattle.tree_tables.specs.declared.found_names.FoundName.{FoundName}
use Rattle.tree_tables.proofs.FoundNames.{some_had}
use Rattle.table_ledger.specs.NamedViews.{view_named}

module _ (through : Option ℤ) (tables : Tables) (name : List ℕ) (priced : Priced) where
  -- where the rows are in the tables, the first two of their names are enough
  by_rows : (rows : List NamedRow)
      → AllByRecursion (λ (e : NamedRow). get tables.records e.0 ≡ Some e.1) rows
      → effects_of (view_named through tables (map (λ (e : NamedRow). e.0) (take 2 rows))) name
      priced
      ≡ effects_of (view_with through tables.choices rows) name priced
  by_rows [] there = refl
  by_rows (one ∷ []) there =
      ap (λ (found : Option RecordRow). effects_of (record {
        through = through;
        members = lone_members (has_choice tables.choices one.0);
        only = if has_choice tables.choices one.0 then None
            else option_map (λ (row : RecordRow). member_at (one.0, row)) found;
      }) name priced) there.0
  by_rows (one ∷ other ∷ rows) there = refl

  -- so are those of the identity
  pub names_enough : (identity : List ℕ) (names : List FoundName)
      → NamesSharing identity tables names
      → effects_of (view_named through tables (map (λ (one : FoundName). one.name) names)) name
      priced
      ≡ effects_of (view_with through tables.choices (rows_with identity tables.records)) name
      priced
  names_enough identity names named =
      ap (λ (some : List (List ℕ)). effects_of (view_named through tables some) name priced) named
      ∙ by_rows (rows_with identity tables.records)
      (some_had tables.records (λ e. same_bytes e.1.identity identity))
