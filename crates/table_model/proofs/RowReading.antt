-- The charge rows of a period are read back from the tables.
use Rattle.std.proofs.Common.{◌≡◌, ℕ, List, [], ◌∷◌, map, refl, ap, ◌∙◌}
use Rattle.book_model.specs.declared.row.ChargeRow.{ChargeRow}
use Rattle.book_model.specs.declared.row.RowKey.{RowKey}
use Rattle.book_model.specs.Words.{all_periods, by_key, rows_for, prices}
use Rattle.book_model.proofs.Lemmas.{entries-sorted, by_key_total, by_key_exact}
use Rattle.table_model.specs.Words.{under, row_key, day_entries}
use Rattle.table_model.specs.PeriodLaws.{RowsFollow}
use Rattle.table_model.proofs.DayChanges.{days-sorted}
use Rattle.table_model.proofs.PeriodPlaces.{at_place, slice_get-map}
use Rattle.table_model.proofs.PeriodReading.{read-period}

-- the rows under their places and a number are the rows
rows_back : (number : ℕ) (rows : List ChargeRow)
    → map (λ (row : (ℕ × RowKey) × ChargeRow). row.1)
    (under number (map {B = RowKey × ChargeRow} (λ row. (row_key row, row)) rows)) ≡ rows
rows_back number [] = refl
rows_back number (row ∷ rows) = ap (λ rows. row ∷ rows) (rows_back number rows)

-- the law
pub rows_follow : RowsFollow
rows_follow naming book number period sound is =
    let place = at_place naming book sound number period is in
    let rows : List (RowKey × ChargeRow) = day_entries book.rulings period in
    let there =
    slice_get-map (day_entries book.rulings) (all_periods book) place.0 period place.2 in
    ap (map (λ (row : (ℕ × RowKey) × ChargeRow). row.1))
    (read-period by_key by_key_total by_key_exact 1 place.0 number
    (map (day_entries book.rulings) (all_periods book)) rows there place.1
    ∙ ap (under number) (entries-sorted by_key_total by_key_exact rows
    (days-sorted (prices book.rulings period.counted))))
    ∙ rows_back number (rows_for book.rulings period.counted)
