-- What a new record changes in the table of the records, and in the row of the book.
use Rattle.std.proofs.Common.{◌≡◌, ℕ, ◌+◌, List, length, refl, ap, ◌∙◌, true, false, Option, Some}
use Rattle.std.proofs.Common.{None, arith, filter_map, option_map}
use Rattle.std.specs.FinMap.{find}
use Rattle.book_model.proofs.Std.{insert, from_entries, list_any, option_map_or, nat_list_cmp_total}
use Rattle.book_model.proofs.Std.{sum_by-cons, exact_bytes}
use Rattle.book_model.specs.Words.{Priced, total_of, Records, Naming, name_of, by_bytes, Rulings}
use Rattle.book_model.specs.Words.{price_in, prices, members, has, with}
use Rattle.book_model.proofs.FilterMapLemmas.{find-insert_key}
use Rattle.book_model.proofs.Lemmas.{find-none, is, IsUnnamed, members-with, length-alike}
use Rattle.book_model.proofs.MapLemmas.{from_entries-insert}
use Rattle.book_model.proofs.SetChanges.{members_with}
use Rattle.table_model.specs.Words.{RecordRow, RecordTable, RecordStatus, row_by, entry_by}
use Rattle.table_model.specs.Words.{entries_by, book_row}
use Rattle.table_model.proofs.DayChanges.{prices-with}
use Rattle.std.specs.FinMap as fin

module _ (naming : Naming) (price : List ℕ → Option Priced) (identity : List ℕ → List ℕ)
    (posted : Records) where
  -- the state of the records, by what is charged
  abbrev stand : Records → RecordStatus
  stand charged = record { price = price; identity = identity; charged = charged }

  -- the table of some records, by what is charged
  abbrev pub record_table : Records → Records → RecordTable
  record_table held charged = from_entries (entries_by naming (stand charged) held posted)

  -- a name that no record of a list has has no row among theirs
  pub no_entry : (name : List ℕ) (charged : Records) (ks : List (List ℕ))
      → ((other : List ℕ) → list_any (is other) ks ≡ true → is name (name_of naming other) ≡ false)
      → find by_bytes name (filter_map (entry_by naming (stand charged) posted) ks) ≡ None
  no_entry name charged ks others =
      find-none nat_list_cmp_total exact_bytes (entry_by naming (stand charged) posted)
      nat_list_cmp_total name ks
      (λ other among. by_price other (price other) (others other among))
    where
      by_price : (other : List ℕ) (costs : Option Priced)
          → is name (name_of naming other) ≡ false
          → option_map_or (λ entry. is name entry.0)
          (option_map {T = Priced} {U = List ℕ × RecordRow}
          (λ priced. (name_of naming other, row_by identity charged posted other priced)) costs)
          false ≡ false
      by_price other None apart = refl
      by_price other (Some priced) apart = apart

  -- nor one that no record of a set has
  pub no_row : (bytes : List ℕ) (held charged : Records) → IsUnnamed naming bytes held
      → find by_bytes (name_of naming bytes) (entries_by naming (stand charged) held posted) ≡ None
  no_row bytes held charged unnamed =
      no_entry (name_of naming bytes) charged (members held)
      (λ other among. unnamed other (fin.contains_key-keys held other ∙ among))

  -- one more record has one more row
  pub records-with : (held charged : Records) (bytes : List ℕ) (priced : Priced)
      → IsUnnamed naming bytes held
      → price bytes ≡ Some priced
      → record_table (with held bytes) charged
      ≡ insert (record_table held charged) (name_of naming bytes)
      (row_by identity charged posted bytes priced)
  records-with held charged bytes priced unnamed costs =
      let entry : List ℕ → Option (List ℕ × RecordRow) =
      entry_by naming (stand charged) posted in
      let own : RecordRow = row_by identity charged posted bytes priced in
      let made : entry bytes ≡ Some (name_of naming bytes, own) =
      ap (option_map {T = Priced} {U = List ℕ × RecordRow}
      (λ priced. (name_of naming bytes, row_by identity charged posted bytes priced))) costs in
      from_entries-insert nat_list_cmp_total exact_bytes
      (entries_by naming (stand charged) held posted)
      (entries_by naming (stand charged) (with held bytes) posted) (name_of naming bytes) own
      (λ q.
      ap (λ ks. find by_bytes q (filter_map entry ks)) (members-with nat_list_cmp_total held bytes)
      ∙ find-insert_key nat_list_cmp_total exact_bytes entry exact_bytes bytes
      (name_of naming bytes) own made
      (members held) (no_row bytes held charged unnamed) q)

-- the row of the book counts one more record
pub book_row-with : (rulings : Rulings) (held : Records) (bytes : List ℕ) (priced : Priced)
    → has held bytes ≡ false
    → price_in rulings bytes ≡ Some priced
    → book_row rulings (with held bytes)
    ≡ record (book_row rulings held) {
      held = length (members held) + 1;
      amount = total_of rulings held + priced.amount;
    }
book_row-with rulings held bytes priced new price =
    let more = length-alike (members_with held bytes new) in
    let count : length (members (with held bytes)) ≡ length (members held) + 1 = omega arith in
    let costs = (prices-with (price_in rulings) held bytes priced new price).sums (λ one. one.amount) in
    let first = sum_by-cons (λ (one : Priced). one.amount) priced (prices rulings held) in
    let amount : total_of rulings (with held bytes) ≡ total_of rulings held + priced.amount =
    omega arith in
    λ i. record (book_row rulings held) { held = count i; amount = amount i }
