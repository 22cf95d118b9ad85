-- A walk over all records that finds one at a time: it meets each name once, in order.
use Rattle.std.proofs.Common.{◌≡◌, ◌∙◌, ℕ, List, [], ◌∷◌, map, Bool, Option, Some, None, refl, sym, ap}
use Rattle.std.proofs.Common.{subst}
use Rattle.std.specs.Prelude.{filter, slice_get}
use Rattle.std.specs.FinMap.{entries, keys}
use Rattle.std.specs.Ordering.{is_lt}
use Rattle.sqlite_trees.proofs.ListLemmas.{filter-map}
use Rattle.sqlite_trees.specs.Tree.{Trees}
use Rattle.book_model.specs.Words.{by_bytes}
use Rattle.table_model.specs.TableChanges.{walk}
use Rattle.table_model.specs.Tables.{RecordRow, Tables}
use Rattle.std.proofs.lemmas.Cmp.{nat_list_cmp_total}
use Rattle.std.proofs.lemmas.Map.Lookups.{exact_bytes}
use Rattle.tree_rows.specs.Changes.{above}
use Rattle.tree_rows.proofs.Maps.{not_none}
use Rattle.tree_rows.proofs.Passing.{first_there}
use Rattle.tree_rows.proofs.Remaining.{above_next}
use Rattle.tree_rows.proofs.Taking.{some_is}
use Rattle.tree_tables.specs.Answers.{FindsNext}
use Rattle.tree_tables.specs.Holds.{Holds}
use Rattle.tree_tables.specs.Stored.{IsAsRead, stored_entry}
use Rattle.tree_tables.specs.declared.stored_record.StoredRecord.{StoredRecord}

-- the first of a list, and the rest
starts_with : {A : Type 0} (xs : List A) (x : A) → Some x ≡ slice_get xs 0
    → (more : List A) × (xs ≡ x ∷ more)
starts_with [] x is = absurd (not_none x is)
starts_with (y ∷ xs) x is = (xs, ap (λ one. one ∷ xs) (some_is y x (sym is)))

-- a list without a first has nothing
has_none : {A : Type 0} (xs : List A) → None ≡ slice_get xs 0 → xs ≡ []
has_none [] is = refl
has_none (x ∷ xs) is = absurd (not_none x (sym is))

-- the names that are still to come
abbrev pub names_left : Option (List ℕ) → Tables → List (List ℕ)
names_left last tables = map (λ (entry : List ℕ × RecordRow). entry.0) (above last tables.records)

-- The next record that is found.
module _ (last : Option (List ℕ)) (tables : Tables) (stored : StoredRecord)
    (found : FindsNext last tables (Some stored)) where
  -- it is the first that is still to come
  front : (more : List (List ℕ × RecordRow))
      × (above last tables.records ≡ stored_entry stored ∷ more)
  front = starts_with (above last tables.records) (stored_entry stored) found

  -- the others come after it
  rest : above (Some stored.name) tables.records ≡ front.0
  rest =
      above_next nat_list_cmp_total exact_bytes last tables.records stored.name
      (stored_entry stored).1 front.0 front.1

  -- it is in the tables
  pub next_stands : IsAsRead stored tables
  next_stands =
      first_there nat_list_cmp_total exact_bytes last tables.records stored.name
      (stored_entry stored).1 front.0 front.1

  pub next_names : names_left last tables ≡ stored.name ∷ names_left (Some stored.name) tables
  next_names =
      ap (map (λ (entry : List ℕ × RecordRow). entry.0)) front.1
      ∙ ap (λ left. stored.name ∷ map (λ (entry : List ℕ × RecordRow). entry.0) left) (sym rest)

-- Where none is found, none is left.
pub none_left : (last : Option (List ℕ)) (tables : Tables) → FindsNext last tables None
    → above last tables.records ≡ []
none_left last tables found = has_none (above last tables.records) found

-- a step changes no name
abbrev pub KeepsNames : (List ℕ → Tables → Tables) → Type 0
KeepsNames step =
    (name : List ℕ) (tables : Tables) → keys (step name tables).records ≡ keys tables.records

-- so the same names are left after it
pub names_stay : (last : Option (List ℕ)) (one other : Tables)
    → keys one.records ≡ keys other.records → names_left last one ≡ names_left last other
names_stay None one other same = same
names_stay (Some name) one other same =
    let later : List ℕ → Bool = λ k. is_lt (by_bytes name k) in
    sym (filter-map later (λ (e : List ℕ × RecordRow). e.0) (entries one.records))
    ∙ ap (filter later) same
    ∙ filter-map later (λ (e : List ℕ × RecordRow). e.0) (entries other.records)

-- A walk over the records of these tables, in steps by name, has come to a name: the trees hold
-- tables with steps left that make what all steps make of these.
pub record IsWalking (step : List ℕ → Tables → Tables) (tables : Tables) (trees : Trees)
    (last : Option (List ℕ)) : Type 0 where
  pub now : Tables
  pub holds : Holds trees now
  pub whole : walk step (names_left last now) now ≡ walk step (keys tables.records) tables

-- where none is found, all steps are done
pub walking_ends : {step : List ℕ → Tables → Tables} {tables : Tables} {trees : Trees}
    (last : Option (List ℕ)) (walking : IsWalking step tables trees last)
    → FindsNext last walking.now None → Holds trees (walk step (keys tables.records) tables)
walking_ends {step} {tables} {trees} last walking found =
    subst (Holds trees)
    (ap (λ left. walk step (map (λ (entry : List ℕ × RecordRow). entry.0) left) walking.now)
    (sym (none_left last walking.now found))
    ∙ walking.whole)
    walking.holds
