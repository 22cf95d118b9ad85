-- What all records cost under a later tariff: what they cost now, where of those that it may be for
-- the old prices make way for the new ones, one after another.
use Rattle.std.proofs.Common.{◌≡◌, ◌∙◌, ℕ, ◌+◌, ◌-◌, ◌≤◌, List, [], ◌∷◌, Bool, true, false, cond}
use Rattle.std.proofs.Common.{Option, Some, None, refl, sym, ap, subst, true≢false, arith, filter}
use Rattle.std.proofs.Common.{sum_by}
use Rattle.book_model.proofs.Std.{entries, get, values, AllByRecursion, nat_list_cmp_total}
use Rattle.book_model.proofs.Std.{exact_bytes}
use Rattle.book_model.specs.Words.{Terms, same_bytes}
use Rattle.book_core.specs.Words.{if_room}
use Rattle.table_model.specs.Words.{amount_under, RecordRow, Tables}
use Rattle.table_model.proofs.PriceSums.{part_within}
use Rattle.book_core.proofs.NamedLemmas.{same_texts}
use Rattle.tree_tables.proofs.LateSums.{sum_one_less, total_by_parts, values_sum}
use Rattle.tree_tables.proofs.RowsRead.{all_entries}
use Rattle.tree_tables.specs.LateRecords.{FindsLate}
use Rattle.tree_tables.specs.declared.late_records.LateRecord.{LateRecord}
use Rattle.table_ledger.proofs.Words.{some_is, is_left, stored_entry, CanBeSummed, CostUnder}
use Rattle.table_ledger.specs.Repricing.{CanCost}
use Rattle.table_ledger.proofs.LateLeft.{gone_early, met_once}
use Rattle.table_ledger.proofs.Repriced.{part_full}

-- the rows of the records that are still to come
abbrev pub rows_left : Terms → Option LateRecord → Tables → List (List ℕ × RecordRow)
rows_left terms last tables =
    filter (is_left terms.effective last tables) (entries tables.records)

-- what one costs now, and under the tariff
abbrev pub cost_now : List ℕ × RecordRow → ℕ
cost_now entry = entry.1.priced.amount

abbrev pub cost_then : Terms → List ℕ × RecordRow → ℕ
cost_then terms entry = amount_under terms entry.1

-- The walk has come so far: the total, where those that were met are left out, and what they cost
-- under the tariff; and each of them can cost so.
pub record SumsSo (terms : Terms) (total : ℕ) (last : Option LateRecord) (rest cost : ℕ)
    (tables : Tables) : Type 0 where
  pub now : rest + sum_by cost_now (rows_left terms None tables)
      ≡ total + sum_by cost_now (rows_left terms last tables)
  pub new : cost + sum_by (cost_then terms) (rows_left terms last tables)
      ≡ sum_by (cost_then terms) (rows_left terms None tables)
  pub told : (name : List ℕ) (row : RecordRow) → get tables.records name ≡ Some row
      → is_left terms.effective last tables (name, row) ≡ false → CanCost terms row

-- where nothing passes a test, nothing is summed
pub none_summed : {E : Type 0} (test : E → Bool) (f : E → ℕ) (es : List E)
    → AllByRecursion (λ e. test e ≡ false) es → sum_by f (filter test es) ≡ 0
none_summed test f [] none = refl
none_summed test f (e ∷ es) none =
    ap (λ passes. sum_by f (cond passes (e ∷ filter test es) (filter test es))) none.0
    ∙ none_summed test f es none.1

module _ (terms : Terms) (total : ℕ) (tables : Tables) (can : CanBeSummed terms total tables) where
  -- what all will cost
  abbrev all_cost : ℕ
  all_cost = sum_by (amount_under terms) (values tables.records)

  module _ (last : Option LateRecord) (rest cost : ℕ)
      (sums : SumsSo terms total last rest cost tables) where
    -- no more than that is summed
    pub sums_part : cost ≤ all_cost
    sums_part =
        let some : sum_by (cost_then terms) (rows_left terms None tables)
        ≤ sum_by (cost_then terms) (entries tables.records) =
        part_within (cost_then terms) (is_left terms.effective None tables)
        (entries tables.records) in
        let all : all_cost ≡ sum_by (cost_then terms) (entries tables.records) =
        values_sum tables.records (amount_under terms) in
        let new = sums.new in
        omega (arith, some, all, new)

    -- the next record is met
    pub sums_next : (late : LateRecord) (less more : ℕ)
        → FindsLate terms.effective last tables (Some late)
        → late.stored.priced.amount ≤ rest → less ≡ rest - late.stored.priced.amount
        → more ≡ cost + amount_under terms (stored_entry late.stored).1
        → CanCost terms (stored_entry late.stored).1
        → SumsSo terms total (Some late) less more tables
    sums_next late less more finds within less_is more_is can_cost =
        let name : List ℕ = late.stored.name in
        let row : RecordRow = (stored_entry late.stored).1 in
        let once = met_once terms tables can.counted name row finds.there in
        let one = λ (f : List ℕ × RecordRow → ℕ).
        sum_one_less tables.records f (is_left terms.effective last tables)
        (is_left terms.effective (Some late) tables) name row finds.there finds.comes
        (finds.passed once) finds.others in
        let was : sum_by cost_now (rows_left terms last tables)
        ≡ row.priced.amount + sum_by cost_now (rows_left terms (Some late) tables) =
        one cost_now in
        let will : sum_by (cost_then terms) (rows_left terms last tables)
        ≡ amount_under terms row + sum_by (cost_then terms) (rows_left terms (Some late) tables) =
        one (cost_then terms) in
        let now = sums.now in
        let new = sums.new in
        record {
          now = omega (arith, was, now, within, less_is);
          new = omega (arith, will, new, more_is);
          told = λ other its found gone.
              elim (same_bytes other name) as (λ b. same_bytes other name ≡ b → CanCost terms its) [
                | true ↦ λ same. subst (CanCost terms) (some_is row its (sym finds.there
                    ∙ ap (get tables.records) (sym (same_texts other name same)) ∙ found)) can_cost
                | false ↦ λ apart. sums.told other its found
                    (finds.others (other, its) found apart ∙ gone)
              ] refl;
        }

    -- none is left
    pub sums_last : FindsLate terms.effective last tables None → rest + cost ≡ all_cost
    sums_last none =
        let nothing = λ (f : List ℕ × RecordRow → ℕ).
        none_summed (is_left terms.effective last tables) f (entries tables.records)
        (all_entries nat_list_cmp_total exact_bytes
        (λ e. is_left terms.effective last tables e ≡ false) tables.records
        (λ name row found. none (name, row) found)) in
        let was : sum_by cost_now (rows_left terms last tables) ≡ 0 = nothing cost_now in
        let will : sum_by (cost_then terms) (rows_left terms last tables) ≡ 0 =
        nothing (cost_then terms) in
        let parts : all_cost + sum_by cost_now (rows_left terms None tables)
        ≡ sum_by (λ (row : RecordRow). row.priced.amount) (values tables.records)
        + sum_by (cost_then terms) (rows_left terms None tables) =
        total_by_parts terms tables (is_left terms.effective None tables)
        (gone_early terms tables can.counted) in
        let sum = can.sum in
        let now = sums.now in
        let new = sums.new in
        omega (arith, was, will, parts, sum, now, new)

    pub cost_found : FindsLate terms.effective last tables None → (found : Option ℕ)
        → found ≡ if_room (rest + cost) → CostUnder terms tables found
    cost_found none found is = record {
      cost = is ∙ ap if_room (sums_last none);
      can = λ some name row there. sums.told name row there (none (name, row) there);
    }

    -- what is summed is too much
    pub cost_full : None ≡ if_room cost → CostUnder terms tables None
    cost_full full = record {
      cost = part_full cost all_cost full sums_part;
      can = λ none. absurd (true≢false (sym none));
    }
