-- Which records a walk over those that a later tariff may be for has still to come to.
use Rattle.std.proofs.Common.{◌≡◌, ◌∙◌, ℕ, ℤ, List, Bool, true, false, not, ◌&&◌, ◌||◌, None, Some}
use Rattle.std.proofs.Common.{refl, sym, true≢false, arith, int_lt, int_cmp, is_lt}
use Rattle.book_model.proofs.Std.{contains_key, get, ints}
use Rattle.book_model.specs.Words.{Terms}
use Rattle.table_model.specs.Words.{RecordRow, Tables}
use Rattle.tree_tables.specs.LateRecords.{is_left, is_met_twice}
use Rattle.table_ledger.specs.Repricing.{CountsLate}

-- a day that is not before the first one is so by both tests of days
from_first : (day first : ℤ) → int_lt day first ≡ false → is_lt (int_cmp day first) ≡ false
from_first day first late = grind (arith, ints, late)

first_from : (day first : ℤ) → is_lt (int_cmp day first) ≡ false → int_lt day first ≡ false
first_from day first late = grind (arith, ints, late)

module _ (terms : Terms) (tables : Tables) (counts : CountsLate terms tables) (name : List ℕ)
    (row : RecordRow) (found : get tables.records name ≡ Some row) where
  -- so at first each of them is still to come,
  pub late_left : int_lt row.priced.day terms.effective ≡ false
      → is_left terms.effective None tables (name, row) ≡ true
  late_left late =
      either row.charged (contains_key tables.counted name)
      (is_lt (int_cmp row.priced.day terms.effective)) (counts name row found late)
      (from_first row.priced.day terms.effective late)
    where
      either : (charged counted low : Bool) → counted ≡ charged → low ≡ false
          → ((not charged && true) || (counted && not low)) ≡ true
      either true counted low is high = λ i. is i && not (high i)
      either false counted low is high = refl

  -- what is not is dated before the first day,
  pub gone_early : is_left terms.effective None tables (name, row) ≡ false
      → int_lt row.priced.day terms.effective ≡ true
  gone_early gone =
      elim (int_lt row.priced.day terms.effective) as (λ b.
      int_lt row.priced.day terms.effective ≡ b → b ≡ true) [
        | true ↦ λ early. refl
        | false ↦ λ late. absurd (true≢false (sym (late_left late) ∙ gone))
      ] refl

  -- and none is met by its mark and by its detail
  pub met_once : is_met_twice terms.effective tables (name, row) ≡ false
  met_once =
      never row.charged (contains_key tables.counted name)
      (is_lt (int_cmp row.priced.day terms.effective)) (λ high.
      counts name row found (first_from row.priced.day terms.effective high))
    where
      never : (charged counted low : Bool) → (low ≡ false → counted ≡ charged)
          → (not charged && (counted && not low)) ≡ false
      never true counted low is = refl
      never false false low is = refl
      never false true true is = refl
      never false true false is = absurd (true≢false (is refl))
