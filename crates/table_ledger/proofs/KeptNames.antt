-- The steps of walks by name, an adoption's and a tariff's, change no name.
use Rattle.std.proofs.Common.{◌≡◌, ℕ, List, Bool, true, false, cond, Option, Some, None, refl, ℤ}
use Rattle.std.proofs.Common.{int_lt}
use Rattle.book_model.proofs.Std.{get, keys, nat_list_cmp_total, exact_bytes}
use Rattle.book_model.specs.Words.{AcceptedTerms, Priced, Terms, is_under, price_by, record_with}
use Rattle.table_model.specs.TableChanges.{replace_step}
use Rattle.table_model.specs.Words.{charge_due_step, reprice, reprice_step, Tables}
use Rattle.table_model.proofs.DueStays.{due-leaves}
use Rattle.table_model.proofs.MovedLemmas.{keys-insert}
use Rattle.tree_tables.proofs.WalkNames.{KeepsNames}

-- a record that is charged keeps its name
pub settle_keeps : (period : ℕ) (last : Option ℤ) (is_due : List ℕ → Bool)
    → KeepsNames (charge_due_step period last is_due)
settle_keeps period last is_due name tables =
    due-leaves (λ (made : Tables). keys made.records) period last is_due name tables
    (λ row there. keys-insert nat_list_cmp_total exact_bytes tables.records name row
    (record row { charged = true }) there)

-- and one that a tariff may be for
pub reprice_keeps : (period : ℕ) (terms : Terms) → KeepsNames (reprice_step period terms)
reprice_keeps period terms name tables =
    elim (get tables.records name) as (λ found. get tables.records name ≡ found
    → keys (reprice_step period terms name tables).records ≡ keys tables.records) [
      | None ↦ λ there. rw there
      | Some row ↦ λ there.
          let priced : Priced = price_by terms (record_with row.data_bytes) in
          rw there (elim (int_lt row.priced.day terms.effective) as (λ early.
          keys (cond early tables (reprice period name row priced tables)).records
          ≡ keys tables.records) [
            | true ↦ refl
            | false ↦ keys-insert nat_list_cmp_total exact_bytes tables.records name row
                (record row { priced = priced }) there
          ])
    ] refl

-- and one whose day has a tariff that another takes the place of
pub replace_keeps : (period : ℕ) (tariffs : List AcceptedTerms) (terms : Terms)
    → KeepsNames (replace_step period tariffs terms)
replace_keeps period tariffs terms name tables =
    elim (get tables.records name) as (λ found. get tables.records name ≡ found
    → keys (replace_step period tariffs terms name tables).records ≡ keys tables.records) [
      | None ↦ λ there. rw there
      | Some row ↦ λ there.
          let priced : Priced = price_by terms (record_with row.data_bytes) in
          rw there (elim (is_under tariffs terms row.priced.day) as (λ under.
          keys (cond under (reprice period name row priced tables) tables).records
          ≡ keys tables.records) [
            | true ↦ keys-insert nat_list_cmp_total exact_bytes tables.records name row
                (record row { priced = priced }) there
            | false ↦ refl
          ])
    ] refl
