-- Which records the open period touches: each other one is charged as the last close posted it.
use Rattle.std.proofs.Common.{◌≡◌, ◌∙◌, ℕ, List, Bool, true, false, true≢false, cond, Option, Some}
use Rattle.std.proofs.Common.{is_some, refl, sym, ap, ℤ}
use Rattle.book_model.proofs.Std.{contains_key, get, false_from_ne_true}
use Rattle.book_model.specs.Words.{Priced, is_after, AreAmong, Book, IsSound, Naming, charged_of}
use Rattle.book_model.specs.Words.{has, is_dated_after, is_undisputed, last_close, name_of}
use Rattle.book_model.specs.Words.{open_number, price_in}
use Rattle.book_model.proofs.Lemmas.{in_those}
use Rattle.table_model.specs.PostedLaws.{PostsFew, is_touched}
use Rattle.table_model.specs.Words.{RecordRow, Tables, record_row, status_of, tables_of}
use Rattle.table_model.proofs.CostLemmas.{day-price}
use Rattle.table_model.proofs.CountedHeld.{current_counted}
use Rattle.table_model.proofs.RecordReading.{every_row}
use Rattle.table_model.proofs.Restated.{line-found}
use Rattle.table_model.proofs.RestatedRows.{line_by, line_in}
use Rattle.table_model.proofs.StatusSteps.{status-is}

-- a record that has no line is charged as it was posted, if it is dated no later than the last close
no_line : (posted charged : Bool) → is_some (line_by posted false charged) ≡ false → posted ≡ charged
no_line true true none = refl
no_line true false none = absurd (true≢false none)
no_line false true none = absurd (true≢false none)
no_line false false none = refl

module _ (naming : Naming) (book : Book) (sound : IsSound naming book) (bytes : List ℕ)
    (priced : Priced) (there : has book.held bytes ≡ true)
    (price : price_in book.rulings bytes ≡ Some priced) where
  -- the tables, the last close, the record's name and its row
  abbrev tables : Tables
  tables = tables_of naming book

  abbrev last : Option ℤ
  last = last_close book.rulings

  abbrev name : List ℕ
  name = name_of naming bytes

  abbrev row : RecordRow
  row = record_row book.rulings (charged_of book) book.posted bytes priced

  -- what is charged is held
  held : AreAmong (charged_of book) book.held
  held q on = in_those (is_undisputed book.rulings book.held) book.held q on

  -- it is dated after the last close by its header if it is by its price
  dated : is_dated_after last bytes ≡ is_after last priced.day
  dated = ap (is_after last) (sym (day-price book.rulings bytes priced price))

  -- where it is, it was not posted
  unposted : is_after last priced.day ≡ true → has book.posted bytes ≡ false
  unposted late =
      false_from_ne_true (has book.posted bytes) (λ on.
      true≢false (sym (dated ∙ late) ∙ sound.dated bytes on))

  -- its line in the open period
  its_line : get tables.lines (open_number book, name) ≡ line_in last row
  its_line =
      line-found naming book sound bytes there (status_of book)
      (status-is naming book sound (charged_of book) held) priced price

  pub untouched : is_touched (open_number book) last tables name row ≡ false
      → row.posted ≡ row.charged
  untouched =
      elim (is_after last priced.day) as (λ late. is_after last priced.day ≡ late
      → cond late (contains_key tables.counted name)
      (contains_key tables.lines (open_number book, name)) ≡ false → row.posted ≡ row.charged) [
        | true ↦ λ late none. unposted late
            ∙ sym (sym (current_counted naming book (charged_of book) sound held bytes there
            (dated ∙ late)) ∙ none)
        | false ↦ λ early none. no_line row.posted row.charged
            (ap (λ late. is_some (line_by row.posted late row.charged)) (sym early)
            ∙ sym (ap is_some its_line) ∙ none)
      ] refl

-- the law
pub posts_few : PostsFew
posts_few naming book sound =
    every_row naming book sound
    (λ entry. is_touched (open_number book) (last_close book.rulings) (tables_of naming book)
    entry.0 entry.1 ≡ false → entry.1.posted ≡ entry.1.charged)
    (λ bytes priced there price. untouched naming book sound bytes priced there price)
