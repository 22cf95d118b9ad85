-- How the entries of a map are kept in the rows of a sorted tree.
use Rattle.std.specs.Prelude.{◌≡◌, List, ◌++◌, length, map, Bool, true, false, Some, None}
use Rattle.std.specs.Cmp.{IsTotalOrder}
use Rattle.std.specs.FinMap.{FinMap, entries, get, IsAntisymmetric}
use Rattle.std.specs.declared.cmp.Ordering.{Ordering}
use Rattle.sqlite_value.specs.Order.{Row, row_cmp}

-- A row is the columns of a key, which are as many for every key, and then those of a value under
-- it. Keys compare as their columns do, and no two keys have one place in the order.
pub record Layout (K V : Type 0) (R : K → K → Ordering) : Type 0 where
  pub key : K → Row
  pub rest : K → V → Row
  pub total : IsTotalOrder R
  pub exact : IsAntisymmetric R
  pub alike : (k l : K) → length (key k) ≡ length (key l)
  pub ordered : (k l : K) → row_cmp (key k) (key l) ≡ R k l

module _ {K V : Type 0} {R : K → K → Ordering} (layout : Layout K V R) where
  -- the row of a key and its value
  abbrev pub row_of : K × V → Row
  row_of entry = layout.key entry.0 ++ layout.rest entry.0 entry.1

  -- the rows of a map, which are in the order of its keys
  abbrev pub rows_of : FinMap R V → List Row
  rows_of m = map row_of (entries m)

  -- whether the map has the key, and the row that it has then
  abbrev pub Answers : FinMap R V → K → Row → Bool → Type 0
  Answers m k row true = (v : V) × (get m k ≡ Some v) × (row ≡ row_of (k, v))
  Answers m k row false = get m k ≡ None
