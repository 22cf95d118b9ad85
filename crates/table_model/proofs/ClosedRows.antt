-- The charge rows after a close: the later ones of the open period are in the next.
use Rattle.std.proofs.Common.{◌≡◌, ℕ, List, [], ◌∷◌, ◌++◌, map, sym, ap, ◌∙◌, true, false, not}
use Rattle.std.proofs.Common.{◌&&◌, Some, None, ℤ, int_lt}
use Rattle.std.specs.FinMap.{find}
use Rattle.std.proofs.Math.Bool.{and-false, and-true}
use Rattle.book_model.proofs.Std.{from_entries, map-append}
use Rattle.book_model.specs.declared.row.ChargeRow.{ChargeRow}
use Rattle.book_model.specs.declared.row.RowKey.{RowKey}
use Rattle.book_model.specs.Words.{day_of, Book, open_number, open_period, all_periods, charged_of}
use Rattle.book_model.specs.Words.{is_dated_through, is_dated_after, close, IsAfterLastClose}
use Rattle.book_model.specs.Words.{Period, Naming, by_key, prices, last_close, those, IsSound}
use Rattle.book_model.proofs.Lemmas.{same_records, has_those}
use Rattle.table_model.specs.Words.{moved, by_period, numbered, move_on, day_entries}
use Rattle.table_model.proofs.CloseDays.{is_current, posted_by, ended_by, opened_by, periods_closed}
use Rattle.table_model.proofs.CloseDays.{after_both}
use Rattle.table_model.proofs.DayChanges.{days_at}
use Rattle.table_model.proofs.MoveLemmas.{rows-moved}
use Rattle.table_model.proofs.OpenChanges.{number_is}
use Rattle.table_model.proofs.PickedRows.{rows-where, rows-nowhere}
use Rattle.table_model.proofs.PostedSets.{posted_where}

module _ (naming : Naming) (book : Book) (sound : IsSound naming book) (day : ℤ)
    (forward : IsAfterLastClose book.rulings day) where
  -- what the rows of the closed period count
  counted_is : (ended_by day book).counted
      ≡ those (λ q. is_current book q && is_dated_through day q) (charged_of book)
  counted_is =
      same_records (ended_by day book).counted
      (those (λ q. is_current book q && is_dated_through day q) (charged_of book)) (λ q.
      has_those (is_current book) (posted_by day book) q
      ∙ posted_where book.rulings book.held day (is_current book) q
      ∙ sym (has_those (λ q. is_current book q && is_dated_through day q) (charged_of book) q))

  -- a record dated after the day is after the last close
  later_current : (bytes : List ℕ) → int_lt day (day_of bytes) ≡ true → is_current book bytes ≡ true
  later_current bytes after =
      let last = last_close book.rulings in
      after_both last day (day_of bytes) forward after

  -- the rows of the open period that are dated after the day are in the next
  rows_later : (k : RowKey) → int_lt day k.day ≡ true
      → find by_key k (day_entries book.rulings (opened_by day book))
      ≡ find by_key k (day_entries book.rulings (open_period book))
  rows_later k after =
      rows-where book.rulings (charged_of book) k (is_dated_after (Some day)) (is_current book)
      (λ bytes at.
      let there = ap (int_lt day) at ∙ after in there ∙ sym (later_current bytes there))

  -- and nothing else is
  rows_none : (k : RowKey) → int_lt day k.day ≡ false
      → find by_key k (day_entries book.rulings (opened_by day book)) ≡ None
  rows_none k not_after =
      rows-nowhere book.rulings (charged_of book) k (is_dated_after (Some day))
      (λ bytes at. ap (int_lt day) at ∙ not_after)

  -- the closed period has the others,
  rows_gone : (k : RowKey) → int_lt day k.day ≡ true
      → find by_key k (day_entries book.rulings (ended_by day book)) ≡ None
  rows_gone k after =
      ap (λ counted. find by_key k (days_at (prices book.rulings counted))) counted_is
      ∙ rows-nowhere book.rulings (charged_of book) k
      (λ q. is_current book q && is_dated_through day q)
      (λ bytes at.
      ap (λ t. is_current book bytes && not t) (ap (int_lt day) at ∙ after)
      ∙ and-false (is_current book bytes))

  -- as they were
  rows_stay : (k : RowKey) → int_lt day k.day ≡ false
      → find by_key k (day_entries book.rulings (ended_by day book))
      ≡ find by_key k (day_entries book.rulings (open_period book))
  rows_stay k not_after =
      ap (λ counted. find by_key k (days_at (prices book.rulings counted))) counted_is
      ∙ rows-where book.rulings (charged_of book) k (λ q. is_current book q && is_dated_through day q)
      (is_current book) (λ bytes at.
      ap (λ t. is_current book bytes && not t) (ap (int_lt day) at ∙ not_after)
      ∙ and-true (is_current book bytes))

  -- the rows of all periods after the close
  pub days_closed : from_entries {R = by_period by_key}
      (numbered 1 (map (day_entries book.rulings) (all_periods (close day book))))
      ≡ moved (move_on (open_number book) day)
      (from_entries {R = by_period by_key}
      (numbered 1 (map (day_entries book.rulings) (all_periods book))))
  days_closed =
      let rows : Period → List (RowKey × ChargeRow) = day_entries book.rulings in
      let past : List (List (RowKey × ChargeRow)) = map rows book.past in
      let ended : Period = ended_by day book in
      let next : Period = opened_by day book in
      let before : Period = open_period book in
      ap (λ periods. from_entries (numbered 1 (map rows periods))) (periods_closed book day)
      ∙ ap (λ es. from_entries (numbered 1 es))
      (map-append rows (book.past ++ ended ∷ []) (next ∷ [])
      ∙ ap (λ es. es ++ rows next ∷ []) (map-append rows book.past (ended ∷ [])))
      ∙ rows-moved (open_number book) day past (rows before) (rows ended) (rows next)
      (number_is book sound.closed rows)
      rows_later rows_none rows_gone rows_stay
      ∙ ap (λ es. moved (move_on (open_number book) day) (from_entries (numbered 1 es)))
      (sym (map-append rows book.past (before ∷ [])))
