-- The tables of a book after a close are those before it, changed by the close.
use Rattle.std.proofs.Common.{◌≡◌, ℕ, List, refl, sym, ap, ◌∙◌, true, false, true≢false, Bool, not}
use Rattle.std.proofs.Common.{◌&&◌, Option, Some, None, arith, ℤ, int_lt, if◌then◌else◌, option_map}
use Rattle.book_model.proofs.Std.{from_entries, false_from_ne_true, nat_list_cmp_total, exact_bytes}
use Rattle.book_model.specs.Words.{Priced, Book, open_number, charged_of, close, IsAfterLastClose}
use Rattle.book_model.specs.Words.{Records, Naming, name_of, by_bytes, price_in, with_close}
use Rattle.book_model.specs.Words.{members, has, IsSound}
use Rattle.book_model.proofs.Lemmas.{calls_go_forward, map-filter_map, pick-agree, closed_open}
use Rattle.table_model.specs.Laws.{CloseFollows}
use Rattle.table_model.specs.Words.{updated, closed_at, post_by, RecordRow, record_row}
use Rattle.table_model.specs.Words.{record_entry, record_entries, tables_of}
use Rattle.table_model.proofs.CloseDays.{posted_by}
use Rattle.table_model.proofs.ClosedLines.{is_late, lines_closed}
use Rattle.table_model.proofs.ClosedRows.{days_closed}
use Rattle.table_model.proofs.CostLemmas.{day-price}
use Rattle.table_model.proofs.CountedNames.{counted_closed, names}
use Rattle.table_model.proofs.MovedLemmas.{updated-from_entries}
use Rattle.table_model.proofs.PostedSets.{posted_is}
use Rattle.table_model.proofs.UnderNumbers.{next_number}

module _ (naming : Naming) (book : Book) (sound : IsSound naming book) (day : ℤ)
    (forward : IsAfterLastClose book.rulings day) where
  -- each record that is charged and dated on or before the day is posted
  records_posted : from_entries {R = by_bytes}
      (record_entries naming (with_close day book.rulings) book.held (charged_of book)
      (posted_by day book))
      ≡ updated (post_by day)
      (from_entries {R = by_bytes}
      (record_entries naming book.rulings book.held (charged_of book) book.posted))
  records_posted =
      let change : List ℕ × RecordRow → List ℕ × RecordRow = λ row. (row.0, post_by day row.1) in
      let charged : Records = charged_of book in
      let old : List ℕ → Option (List ℕ × RecordRow) =
      record_entry naming book.rulings charged book.posted in
      ap from_entries
      (pick-agree (record_entry naming (with_close day book.rulings) charged (posted_by day book))
      (λ bytes. option_map change (old bytes)) book.held
      (λ bytes there. one_posted bytes (price_in book.rulings bytes) refl)
      ∙ sym (map-filter_map change old (members book.held)))
      ∙ sym (updated-from_entries nat_list_cmp_total exact_bytes (post_by day)
      (record_entries naming book.rulings book.held charged book.posted))
    where
      one_posted : (bytes : List ℕ) (price : Option Priced) → price_in book.rulings bytes ≡ price
          → option_map {T = Priced} {U = List ℕ × RecordRow}
          (λ priced. (
            name_of naming bytes,
            record_row (with_close day book.rulings) (charged_of book) (posted_by day book) bytes
                priced,
          )) price
          ≡ option_map {T = List ℕ × RecordRow} {U = List ℕ × RecordRow}
          (λ row. (row.0, post_by day row.1))
          (option_map {T = Priced} {U = List ℕ × RecordRow}
          (λ priced. (
            name_of naming bytes,
            record_row book.rulings (charged_of book) book.posted bytes priced,
          )) price)
      one_posted bytes None none = refl
      one_posted bytes (Some priced) some =
          ap {B = Option (List ℕ × RecordRow)} (λ row. Some (name_of naming bytes, row))
          (by_day (int_lt day priced.day) refl)
        where
          row : RecordRow
          row = record_row book.rulings (charged_of book) book.posted bytes priced

          mark : has (posted_by day book) bytes
              ≡ (not (int_lt day priced.day) && has (charged_of book) bytes)
          mark = posted_is book.rulings book.held day bytes
              ∙ ap (λ its. not (int_lt day its) && has (charged_of book) bytes)
              (sym (day-price book.rulings bytes priced some))

          -- what is dated after the day was not posted
          unposted : int_lt day priced.day ≡ true → has book.posted bytes ≡ false
          unposted late =
              false_from_ne_true (has book.posted bytes) (λ on. true≢false (sym late
              ∙ ap (int_lt day) (day-price book.rulings bytes priced some)
              ∙ is_late naming book sound day forward bytes (sound.dated bytes on)))

          by_day : (late : Bool) → int_lt day priced.day ≡ late
              → record row { posted = has (posted_by day book) bytes }
              ≡ (if late then row else record row { posted = row.charged })
          by_day true late = λ i. record row {
            posted = (mark ∙ ap (λ l. not l && has (charged_of book) bytes) late
                ∙ sym (unposted late)) i;
          }
          by_day false soon = λ i. record row {
            posted = (mark ∙ ap (λ l. not l && has (charged_of book) bytes) soon) i;
          }

  -- the tables after the close
  pub close-tables : tables_of naming (close day book)
      ≡ closed_at (open_number book) day (tables_of naming book)
  close-tables =
      let closes = next_number book.rulings.closes day (open_number book) (omega arith) in
      λ i. record (tables_of naming book) {
        closes = closes i;
        records = records_posted i;
        days = days_closed naming book sound day forward i;
        lines = lines_closed naming book sound day forward i;
        counted = names naming (counted_closed book day forward i);
      }

-- the law
pub close_follows : CloseFollows
close_follows naming book number day sound done =
    close-tables naming book sound day (calls_go_forward.close book number day done)
    ∙ ap (λ number. closed_at number day (tables_of naming book))
    (sym (closed_open book number day done))
