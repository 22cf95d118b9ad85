-- What the last row of a table by numbers shows.
use Rattle.std.proofs.Common.{◌≡◌, ◌∙◌, ℕ, pos, List, [], ◌∷◌, ◌++◌, Option, Some, None}
use Rattle.std.proofs.Common.{false, true, map, refl, reverse, sym, ap}
use Rattle.std.specs.Prelude.{unwrap_or}
use Rattle.std.specs.FinMap.{FinMap, entries, keys}
use Rattle.std.specs.List.{last_or}
use Rattle.std.specs.Option.{option_map}
use Rattle.std.specs.Ordering.{nat_cmp}
use Rattle.std.proofs.lemmas.List.{map-append, reverse-append, reverse-reverse}
use Rattle.sqlite_trees.proofs.ListLemmas.{map-map}
use Rattle.sqlite_value.specs.Order.{Row, column}
use Rattle.sqlite_value.specs.declared.value.Value.{Value}
use Rattle.sqlite_value.specs.declared.value.Value.TheVariants.{Int}
use Rattle.book_model.proofs.ListLemmas.{last_or-behind}
use Rattle.tree_rows.specs.Rows.{IsFirst}
use Rattle.tree_tables.specs.Answers.{last_number}
use Rattle.tree_tables.proofs.RowsRead.{same_count}
use Rattle.table_model.proofs.DueLemmas.{last_map}

-- a number as it is in a column
abbrev pub in_column : ℕ → Value
in_column n = Int (pos n)

-- a list that ends in a row, by its rows from the last on
ends_in : (rows more : List Row) (row : Row) → reverse rows ≡ row ∷ more
    → rows ≡ reverse more ++ row ∷ []
ends_in rows more row from =
    sym (reverse-reverse rows) ∙ ap reverse from ∙ reverse-append (row ∷ []) more

-- The last row of all has the last number in its first column.
module _ {V : Type 0} (rest : V → Row) (table : FinMap nat_cmp V) (rows : List Row) (row : Row)
    (held : rows ≡ map (λ (entry : ℕ × V). in_column entry.0 ∷ rest entry.1) (entries table)) where
  -- the first columns are the numbers
  numbers_are : map (λ (r : Row). column r 0) rows ≡ map in_column (keys table)
  numbers_are =
      ap (map (λ (r : Row). column r 0)) held
      ∙ map-map (λ (r : Row). column r 0)
      (λ (entry : ℕ × V). in_column entry.0 ∷ rest entry.1) (entries table)
      ∙ sym (map-map in_column (λ (e : ℕ × V). e.0) (entries table))

  -- the last of them is that of the row
  last_is : IsFirst (reverse rows) row true
      → option_map in_column (last_or None (keys table)) ≡ Some (column row 0)
  last_is first =
      sym (last_map in_column (keys table) None)
      ∙ ap (last_or None) (sym numbers_are
      ∙ ap (map (λ (r : Row). column r 0)) (ends_in rows first.0 row first.1)
      ∙ map-append (λ (r : Row). column r 0) (reverse first.0) (row ∷ []))
      ∙ last_or-behind None (map (λ (r : Row). column r 0) (reverse first.0)) (column row 0)

  -- so that is its number
  number_shown : IsFirst (reverse rows) row true → column row 0 ≡ Int (pos (last_number table))
  number_shown first = by (last_or None (keys table)) (last_is first)
    where
      by : (found : Option ℕ) → option_map in_column found ≡ Some (column row 0)
          → column row 0 ≡ Int (pos (unwrap_or found 0))
      by None is = absurd (let e = is in cc)
      by (Some n) is = let e = is in cc

  -- what is read of it is the number
  pub number_read : (n : ℕ) → IsFirst (reverse rows) row true → column row 0 ≡ Int (pos n)
      → n ≡ last_number table
  number_read n first says =
      same_count n (last_number table) (sym says ∙ number_shown first)

  -- where there is no row, there is no number
  pub number_none : IsFirst (reverse rows) row false → 0 ≡ last_number table
  number_none none =
      let empty : rows ≡ [] = sym (reverse-reverse rows) ∙ ap reverse none in
      by (keys table) (sym numbers_are ∙ ap (map (λ (r : Row). column r 0)) empty)
    where
      by : (numbers : List ℕ) → map in_column numbers ≡ []
          → 0 ≡ unwrap_or (last_or None numbers) 0
      by [] is = refl
      by (n ∷ numbers) is = absurd (let e = is in cc)
