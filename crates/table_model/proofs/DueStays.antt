-- What the walk that charges records leaves: all of their rows but the marks, and the choices; and
-- so whether a record is due.
use Rattle.std.proofs.Common.{◌≡◌, ◌∙◌, ℕ, List, [], ◌∷◌, ◌++◌, map, length, append-nil, Bool, true}
use Rattle.std.proofs.Common.{false, cond, not, ◌&&◌, ◌||◌, Option, Some, None, refl, sym, ap, ℤ}
use Rattle.std.proofs.Common.{◌==◌, filter, if◌then◌else◌, option_map}
use Rattle.book_model.proofs.Std.{entries, get, values, last_or, option_map_or, nat_list_cmp_total}
use Rattle.book_model.proofs.Std.{length-map, filter-append, exact_bytes}
use Rattle.book_model.specs.Words.{same_bytes}
use Rattle.book_model.proofs.Lemmas.{filter-map, last_or-behind}
use Rattle.table_model.specs.Laws.{DueStays}
use Rattle.table_model.specs.Words.{updated, charge_due_step, walk, ChoiceRow, ChoiceTable}
use Rattle.table_model.specs.Words.{RecordRow, is_withheld_in}
use Rattle.table_model.specs.Words.{RecordTable, Tables, name_has_identity, is_due_at, is_due_in}
use Rattle.table_model.specs.Words.{last_named, rows_with}
use Rattle.table_model.proofs.MovedLemmas.{entries-updated, get-updated, updated-insert}
use Rattle.table_model.proofs.RestatedRows.{restate}
use Rattle.table_model.proofs.StatusSteps.{due-is}

-- What stays where a record is restated as charged, stays in a step of the walk.
pub due-leaves : {X : Type 0} (kept : Tables → X) (period : ℕ) (last : Option ℤ)
    (is_due : List ℕ → Bool) (name : List ℕ) (tables : Tables)
    → ((row : RecordRow) → get tables.records name ≡ Some row
    → kept (restate period last name row (record row { charged = true }) tables) ≡ kept tables)
    → kept (charge_due_step period last is_due name tables) ≡ kept tables
due-leaves kept period last is_due name tables stays =
    elim (get tables.records name) as (λ found. get tables.records name ≡ found
    → kept (charge_due_step period last is_due name tables) ≡ kept tables) [
      | None ↦ λ none. rw none
      | Some row ↦ λ there.
          ap kept (due-is period last name row tables there is_due)
          ∙ elim (is_due name && not row.charged) as (λ b. kept (if b
          then restate period last name row (record row { charged = true }) tables else tables)
          ≡ kept tables) [
            | true ↦ stays row there
            | false ↦ refl
          ]
    ] refl

-- a row without its mark, and what tables have but for marks, charge rows and lines
abbrev plain : RecordRow → RecordRow
plain row = record row { charged = false }

abbrev lasting : Tables → RecordTable × ChoiceTable
lasting tables = (updated plain tables.records, tables.choices)

-- tables that have just that
abbrev with_lasting : Tables → RecordTable × ChoiceTable → Tables
with_lasting tables kept = record tables { records = kept.0; choices = kept.1 }

module _ (period : ℕ) (last : Option ℤ) (is_due : List ℕ → Bool) where
  -- a step leaves it
  step_leaves : (name : List ℕ) (tables : Tables)
      → lasting (charge_due_step period last is_due name tables) ≡ lasting tables
  step_leaves name tables =
      due-leaves lasting period last is_due name tables (λ row there i. (
        updated-insert nat_list_cmp_total exact_bytes plain tables.records name row
            (record row { charged = true }) there refl i,
        tables.choices,
      ))

  -- and so does a walk
  walk_leaves : (names : List (List ℕ)) (tables : Tables)
      → lasting (walk (charge_due_step period last is_due) names tables) ≡ lasting tables
  walk_leaves [] tables = refl
  walk_leaves (name ∷ names) tables =
      walk_leaves names (charge_due_step period last is_due name tables) ∙ step_leaves name tables

-- by it as many rows have an identity,
count_told : (records : RecordTable) (identity : List ℕ)
    → length (rows_with identity records) ≡ length (rows_with identity (updated plain records))
count_told records identity =
    let own : List ℕ × RecordRow → Bool = λ entry. same_bytes entry.1.identity identity in
    let bare : List ℕ × RecordRow → List ℕ × RecordRow = λ entry. (entry.0, plain entry.1) in
    sym (ap (λ es. length (filter own es))
    (entries-updated nat_list_cmp_total exact_bytes plain records)
    ∙ ap length (filter-map own bare (entries records))
    ∙ length-map (filter own (entries records)) bare)

-- the same record was chosen last of it,
abbrev has_row : List ℕ → Option RecordRow → Bool
has_row identity found = option_map_or (λ row. same_bytes row.identity identity) found false

has_told : (tables : Tables) (identity name : List ℕ)
    → name_has_identity tables.records identity name
    ≡ name_has_identity (updated plain tables.records) identity name
has_told tables identity name =
    by_row (get tables.records name)
    ∙ ap (has_row identity)
    (sym (get-updated nat_list_cmp_total exact_bytes plain tables.records name))
  where
    by_row : (found : Option RecordRow)
        → has_row identity found ≡ has_row identity (option_map plain found)
    by_row None = refl
    by_row (Some row) = refl

last_told : (tables : Tables) (identity : List ℕ)
    → last_named tables identity ≡ last_named (with_lasting tables (lasting tables)) identity
last_told tables identity = λ i. last_or None (filter (λ name. has_told tables identity name i)
    (map (λ choice. choice.name) (values tables.choices)))

-- so it is withheld or not,
withheld_told : (tables : Tables) (identity : List ℕ)
    → is_withheld_in tables identity ≡ is_withheld_in (with_lasting tables (lasting tables)) identity
withheld_told tables identity = λ i. option_map_or (λ (row : ChoiceRow). not row.counts)
    (last_or None (filter (λ (row : ChoiceRow). has_told tables identity row.name i)
    (values tables.choices))) false

-- and a record is due
due_told : (tables : Tables) (name : List ℕ)
    → is_due_in tables name ≡ is_due_in (with_lasting tables (lasting tables)) name
due_told tables name =
    by_row (get tables.records name)
    ∙ ap (is_due_at (with_lasting tables (lasting tables)) name)
    (sym (get-updated nat_list_cmp_total exact_bytes plain tables.records name))
  where
    by_row : (found : Option RecordRow) → is_due_at tables name found
        ≡ is_due_at (with_lasting tables (lasting tables)) name (option_map plain found)
    by_row None = refl
    by_row (Some row) = λ i. not (withheld_told tables row.identity i)
        && ((count_told tables.records row.identity i == 1)
        || option_map_or (same_bytes name) (last_told tables row.identity i) false)

pub due_stays : DueStays
due_stays period last is_due names tables name =
    due_told (walk (charge_due_step period last is_due) names tables) name
    ∙ ap (λ kept. is_due_in (with_lasting tables kept) name)
    (walk_leaves period last is_due names tables)
    ∙ sym (due_told tables name)

-- what was chosen last of an identity stays in one step
pub last_stays : (period : ℕ) (last : Option ℤ) (is_due : List ℕ → Bool) (name : List ℕ)
    (tables : Tables) (identity : List ℕ)
    → last_named (charge_due_step period last is_due name tables) identity ≡ last_named tables identity
last_stays period last is_due name tables identity =
    last_told (charge_due_step period last is_due name tables) identity
    ∙ ap (λ kept. last_named (with_lasting tables kept) identity)
    (step_leaves period last is_due name tables)
    ∙ sym (last_told tables identity)

-- and so does whether it is withheld
pub withheld_stays : (period : ℕ) (last : Option ℤ) (is_due : List ℕ → Bool) (name : List ℕ)
    (tables : Tables) (identity : List ℕ)
    → is_withheld_in (charge_due_step period last is_due name tables) identity
    ≡ is_withheld_in tables identity
withheld_stays period last is_due name tables identity =
    withheld_told (charge_due_step period last is_due name tables) identity
    ∙ ap (λ kept. is_withheld_in (with_lasting tables kept) identity)
    (step_leaves period last is_due name tables)
    ∙ sym (withheld_told tables identity)

-- Of some elements with one more after them: the last that passes a test is that one, if it does,
-- and otherwise the last of the others.
pub last_pushed : {X : Type 0} (own : X → Bool) (was : Option X) (xs : List X) (x : X)
    → last_or was (filter own (xs ++ x ∷ [])) ≡ cond (own x) (Some x) (last_or was (filter own xs))
last_pushed {X} own was xs x =
    let before : List X = filter own xs in
    ap (last_or was) (filter-append own xs (x ∷ []))
    ∙ elim (own x) as (λ b. last_or was (before ++ cond b (x ∷ []) [])
    ≡ cond b (Some x) (last_or was before)) [
      | true ↦ last_or-behind was before x
      | false ↦ ap (last_or was) (append-nil before)
    ]
