-- What a record's new price changes, and which costs the books can hold.
use Rattle.std.proofs.Common.{◌≡◌, ◌∙◌, ℕ, ◌<◌, ◌≤◌, List, Bool, true, false, cond, Option, Some}
use Rattle.std.proofs.Common.{None, refl, sym, ap, arith, int_lt, nat_lt}
use Rattle.book_model.proofs.Std.{option_map_or, nat_tests, get}
use Rattle.book_model.specs.Words.{AcceptedTerms, Priced, Terms, is_under, most_cost, price_by}
use Rattle.book_model.specs.Words.{record_with}
use Rattle.book_core.specs.Words.{if_room}
use Rattle.table_model.specs.Words.{add_price, price_at, take_price, reprice, reprice_step}
use Rattle.table_model.specs.Words.{RecordRow, Tables}
use Rattle.table_model.specs.TableChanges.{replace_step}
use Rattle.table_ledger.specs.Replacing.{price_in_place}
use Rattle.table_ledger.specs.Repricing.{StandsPriced, tariff_price}
use Rattle.table_ledger.proofs.Words.{not_none, some_is}

module _ (period : ℕ) (name : List ℕ) (row : RecordRow) (tables : Tables)
    (there : get tables.records name ≡ Some row) where
  -- the row, and then the charge rows of a record that is charged
  abbrev stepped : Priced → Option RecordRow → Bool → Tables
  stepped priced found charged = record tables {
    records = price_at priced name found tables.records;
    days = cond charged (add_price period priced (take_price period row.priced tables.days))
        tables.days;
  }

  pub repriced : (priced : Priced) (charged : Bool) → charged ≡ row.charged
      → stepped priced (get tables.records name) charged ≡ reprice period name row priced tables
  repriced priced charged is = λ i. stepped priced (there i) (is i)

  -- the step of a record, by the price that a tariff gives it, if it is for it
  pub step_by : (terms : Terms) (found : Option Priced) → found ≡ tariff_price terms row
      → option_map_or (λ (priced : Priced). reprice period name row priced tables) found tables
      ≡ reprice_step period terms name tables
  step_by terms found is =
      let costs : Priced = price_by terms (record_with row.data_bytes) in
      ap (λ (found : Option Priced).
      option_map_or (λ (priced : Priced). reprice period name row priced tables) found tables) is
      ∙ rw there (elim (int_lt row.priced.day terms.effective) as (λ early.
      option_map_or (λ (priced : Priced). reprice period name row priced tables)
      (cond early None (Some costs)) tables
      ≡ cond early tables (reprice period name row costs tables)) [
        | true ↦ refl
        | false ↦ refl
      ])

  -- the same by the price that a tariff gives it in the place of another, if its day has that
  pub replaced_by : (tariffs : List AcceptedTerms) (terms : Terms) (found : Option Priced)
      → found ≡ price_in_place tariffs terms row
      → option_map_or (λ (priced : Priced). reprice period name row priced tables) found tables
      ≡ replace_step period tariffs terms name tables
  replaced_by tariffs terms found is =
      let costs : Priced = price_by terms (record_with row.data_bytes) in
      ap (λ (found : Option Priced).
      option_map_or (λ (priced : Priced). reprice period name row priced tables) found tables) is
      ∙ rw there (elim (is_under tariffs terms row.priced.day) as (λ under.
      option_map_or (λ (priced : Priced). reprice period name row priced tables)
      (cond under (Some costs) None) tables
      ≡ cond under (reprice period name row costs tables) tables) [
        | true ↦ refl
        | false ↦ refl
      ])

  -- one that has its price already is left as it is
  pub priced_stands : (terms : Terms) (priced : Priced) → StandsPriced period terms name tables
      → Some priced ≡ tariff_price terms row → row.priced ≡ priced
      → tables ≡ reprice_step period terms name tables
  priced_stands terms priced stands is same =
      let costs : Priced = price_by terms (record_with row.data_bytes) in
      elim (int_lt row.priced.day terms.effective) as (λ early.
      Some priced ≡ cond early None (Some costs)
      → tables ≡ reprice_step period terms name tables) [
        | true ↦ λ is. absurd (not_none priced is)
        | false ↦ λ is. sym (stands row there (same ∙ some_is priced costs is))
      ] is

-- a cost that is no more than the books can hold has room
no_more : (m n : ℕ) → n ≤ m → nat_lt m n ≡ false
no_more m n small = grind (arith, nat_tests, small)

pub has_room : (cost : ℕ) → cost ≤ most_cost → Some cost ≡ if_room cost
has_room cost small =
    ap (λ b. cond b None (Some cost)) (sym (no_more most_cost cost small))

-- a cost that is more has none
too_much : (m n : ℕ) → m < n → nat_lt m n ≡ true
too_much m n more = grind (arith, nat_tests, more)

pub has_no_room : (cost : ℕ) → most_cost < cost → None ≡ if_room cost
has_no_room cost more =
    ap (λ b. cond b None (Some cost)) (sym (too_much most_cost cost more))

-- nor has a sum a part of which has none
pub part_full : (part sum : ℕ) → None ≡ if_room part → part ≤ sum → None ≡ if_room sum
part_full part sum full least =
    elim (nat_lt most_cost part) as (λ much. nat_lt most_cost part ≡ much
    → None ≡ cond much None (Some part) → None ≡ if_room sum) [
      | true ↦ λ much full. has_no_room sum (more most_cost part sum much least)
      | false ↦ λ few full. absurd (not_none part (sym full))
    ] refl full
  where
    more : (m n sum : ℕ) → nat_lt m n ≡ true → n ≤ sum → m < sum
    more m n sum much least = grind (arith, nat_tests, much, least)

-- what a cost says about room
pub no_room : (cost : ℕ) → None ≡ if_room cost → nat_lt most_cost cost ≡ true
no_room cost is =
    elim (nat_lt most_cost cost) as (λ much. None ≡ cond much None (Some cost) → much ≡ true) [
      | true ↦ λ is. refl
      | false ↦ λ is. absurd (not_none cost (sym is))
    ] is

pub room : (cost found : ℕ) → Some found ≡ if_room cost
    → (nat_lt most_cost cost ≡ false) × (found ≡ cost)
room cost found is =
    elim (nat_lt most_cost cost) as (λ much. Some found ≡ cond much None (Some cost)
    → (much ≡ false) × (found ≡ cost)) [
      | true ↦ λ is. absurd (not_none found is)
      | false ↦ λ is. (refl, some_is found cost is)
    ] is
