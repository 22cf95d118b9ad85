-- Rows and lines by two rulings, where they price alike what is dated no later than a close.
use Rattle.std.proofs.Common.{◌≡◌, ℕ, List, ◌++◌, Bool, true, false, ap, Option, ℤ}
use Rattle.book_model.specs.Words.{is_dated_after, by_line, lines_for, lines_of, Period, Records}
use Rattle.book_model.specs.Words.{Naming, rows_of, rows_for, Rulings, price_in, set_of, members}
use Rattle.book_model.specs.Words.{AreDatedThrough, AreAllDatedThrough}
use Rattle.book_model.proofs.LineOrder.{line_by, line_of}
use Rattle.book_model.proofs.SetChanges.{pick-agree}

module _ (one other : Rulings) (last : Option ℤ)
    (alike : (bytes : List ℕ) → is_dated_after last bytes ≡ false
    → price_in one bytes ≡ price_in other bytes)
  where
    -- records that are dated no later than the close have the same rows
    pub same_rows : (records : Records) → AreDatedThrough last records
        → rows_for one records ≡ rows_for other records
    same_rows records dated =
        ap rows_of (pick-agree (price_in one) (price_in other) records
        (λ bytes there. alike bytes (dated bytes there)))

    -- and the same lines of one sign
    pub same_signed : (naming : Naming) (plus : Bool) (records : Records) → AreDatedThrough last records
        → lines_for naming one plus records ≡ lines_for naming other plus records
    same_signed naming plus records dated =
        pick-agree (line_of naming one plus) (line_of naming other plus) records
        (λ bytes there. ap (line_by naming one plus bytes) (alike bytes (dated bytes there)))

    -- so a period that speaks of such records has the same lines
    pub same_lines : (naming : Naming) (period : Period) → AreAllDatedThrough last period
        → lines_of naming one period ≡ lines_of naming other period
    same_lines naming period dated =
        let added = same_signed naming true period.added dated.added in
        let taken = same_signed naming false period.taken dated.taken in
        λ i. members (set_of by_line (added i ++ taken i))
