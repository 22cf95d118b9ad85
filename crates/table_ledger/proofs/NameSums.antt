-- What all records cost by some amounts, summed in a walk by name: of those that it has passed.
use Rattle.std.proofs.Common.{◌≡◌, ◌∙◌, ℕ, ◌+◌, ◌≤◌, List, [], ◌∷◌, Option, Some, None, inl, inr}
use Rattle.std.proofs.Common.{false, refl, sym, ap, subst, true≢false, arith, slice_get, sum_by}
use Rattle.std.proofs.Common.{zero-add}
use Rattle.book_model.proofs.Std.{entries, get, values, nat_list_cmp_total, sum_by-cons, exact_bytes}
use Rattle.book_model.specs.Words.{by_bytes, most_cost}
use Rattle.book_core.specs.Words.{if_room}
use Rattle.table_model.specs.Words.{RecordRow, Tables}
use Rattle.tree_rows.specs.Changes.{above, is_above}
use Rattle.tree_rows.proofs.Passing.{all_passed, passed_with}
use Rattle.tree_rows.proofs.Remaining.{above_next}
use Rattle.tree_tables.specs.Answers.{FindsNext}
use Rattle.tree_tables.proofs.WalkNames.{none_left}
use Rattle.table_ledger.proofs.Words.{not_none, some_is, stored_entry, StoredRecord, next_stands}
use Rattle.table_ledger.specs.Repricing.{CostBy}
use Rattle.tree_tables.proofs.LateSums.{values_sum}
use Rattle.table_ledger.proofs.Repriced.{has_room, part_full}

-- what an entry costs
abbrev pub of_entry : (RecordRow → ℕ) → List ℕ × RecordRow → ℕ
of_entry amount entry = amount entry.1

-- The walk has come to a name: what those up to it cost, with what is still to come, is what all
-- cost; and each of them can cost so.
pub record SumsTo (amount : RecordRow → ℕ) (Can : RecordRow → Type 0) (last : Option (List ℕ))
    (cost : ℕ) (tables : Tables) : Type 0 where
  pub sum : cost + sum_by (of_entry amount) (above last tables.records)
      ≡ sum_by amount (values tables.records)
  pub told : (name : List ℕ) (row : RecordRow) → get tables.records name ≡ Some row
      → is_above by_bytes last name ≡ false → Can row

module _ (amount : RecordRow → ℕ) (Can : RecordRow → Type 0) (tables : Tables) where
  -- what all cost
  abbrev all_cost : ℕ
  all_cost = sum_by amount (values tables.records)

  -- at first none is passed
  pub names_first : SumsTo amount Can None 0 tables
  names_first = record {
    sum = zero-add (sum_by (of_entry amount) (entries tables.records))
        ∙ sym (values_sum tables.records amount);
    told = λ name row there passed. absurd (true≢false passed);
  }

  module _ (last : Option (List ℕ)) (cost : ℕ) (so : SumsTo amount Can last cost tables) where
    -- the next record is met
    pub names_next : (stored : StoredRecord) (more : ℕ) → FindsNext last tables (Some stored)
        → more ≡ cost + amount (stored_entry stored).1
        → Can (stored_entry stored).1 → SumsTo amount Can (Some stored.name) more tables
    names_next stored more found is can = by_left (above last tables.records) refl found
      where
        name : List ℕ
        name = stored.name

        row : RecordRow
        row = (stored_entry stored).1

        by_left : (left : List (List ℕ × RecordRow)) → above last tables.records ≡ left
            → Some (stored_entry stored) ≡ slice_get left 0
            → SumsTo amount Can (Some stored.name) more tables
        by_left [] are first = absurd (not_none (stored_entry stored) first)
        by_left (entry ∷ rest) are first =
            let front : above last tables.records ≡ (name, row) ∷ rest =
            are ∙ ap (λ one. one ∷ rest) (some_is entry (stored_entry stored) (sym first)) in
            let later : above (Some name) tables.records ≡ rest =
            above_next nat_list_cmp_total exact_bytes last tables.records name row rest front in
            let parts : sum_by (of_entry amount) (above last tables.records)
            ≡ amount row + sum_by (of_entry amount) (above (Some name) tables.records) =
            ap (sum_by (of_entry amount)) front ∙ sum_by-cons (of_entry amount) (name, row) rest
            ∙ ap (λ left. amount row + sum_by (of_entry amount) left) (sym later) in
            let all = so.sum in
            record {
              sum = omega (arith, is, all, parts);
              told = λ other own there behind.
                  elim (passed_with nat_list_cmp_total exact_bytes last tables.records name row rest
                  front other own there behind) [
                    | inl same ↦ subst Can (some_is row own
                        (sym (next_stands last tables stored found)
                        ∙ ap (get tables.records) (sym same) ∙ there)) can
                    | inr before ↦ so.told other own there before
                  ];
            }

    -- none is left
    pub names_last : FindsNext last tables None → cost ≤ most_cost
        → CostBy amount Can tables (Some cost)
    names_last found small =
        let none : above last tables.records ≡ [] = none_left last tables found in
        let nothing : sum_by (of_entry amount) (above last tables.records) ≡ 0 = ap (sum_by (of_entry amount)) none in
        let all = so.sum in
        let is : cost ≡ all_cost = omega (arith, all, nothing) in
        record {
          cost = has_room cost small ∙ ap if_room is;
          can = λ some name row there. so.told name row there
              (all_passed nat_list_cmp_total exact_bytes last tables.records none name row there);
        }

    -- what is summed is too much
    pub names_full : None ≡ if_room cost → CostBy amount Can tables None
    names_full full =
        let all = so.sum in
        record {
          cost = part_full cost all_cost full (omega (arith, all));
          can = λ none. absurd (true≢false (sym none));
        }
