-- What the tables of a book say of the records that a later tariff may be for, and of what all cost.
use Rattle.std.proofs.Common.{◌≡◌, ◌∙◌, ◌+◌, ℕ, List, [], ◌∷◌, true, false, refl, sym, ap, arith}
use Rattle.std.proofs.Common.{Option, Some, None, ℤ, int_lt, sum_by, filter_map}
use Rattle.book_model.proofs.Std.{contains_key, entries, get, values, cons_option, ints, fold-map}
use Rattle.book_model.proofs.Std.{sum_by-IsPermutation, sum_by-cons}
use Rattle.book_model.specs.Words.{Priced, Book, IsSound, Naming, Terms, is_later, last_close}
use Rattle.book_model.specs.Words.{members, price_in, is_after}
use Rattle.book_model.proofs.LatestLemmas.{later-after}
use Rattle.table_model.specs.Words.{RecordRow, RecordTable, status_of, tables_of}
use Rattle.table_model.proofs.CountedHeld.{names_follow}
use Rattle.table_model.proofs.RecordReading.{all_entries, all_permuted, entry, entry_at}
use Rattle.table_model.proofs.RowsWhere.{AreMembers, first_entry, members_held, others_held}

-- ---- the records that are dated on the first day of a tariff or later

-- a day that is not before one after the last close is after that close
day_after : (last : Option ℤ) (first day : ℤ)
    → is_after last first ≡ true → int_lt day first ≡ false → is_after last day ≡ true
day_after None first day after late = refl
day_after (Some close) first day after late = grind (arith, ints, after, late)

-- those are counted that are charged
pub late_counted : (naming : Naming) (book : Book) (terms : Terms) → IsSound naming book
    → is_later terms.effective book.rulings ≡ true → (name : List ℕ) (row : RecordRow)
    → get (tables_of naming book).records name ≡ Some row
    → int_lt row.priced.day terms.effective ≡ false
    → contains_key (tables_of naming book).counted name ≡ row.charged
late_counted naming book terms sound later name row there late =
    let last : Option ℤ = last_close book.rulings in
    let first : ℤ = terms.effective in
    let after = later-after first book.rulings later in
    names_follow.current naming book name row sound there
    (day_after last first row.priced.day after late)

-- ---- what all records cost together

module _ (naming : Naming) (book : Book) (sound : IsSound naming book) where
  -- what rows say, and what the rulings say
  abbrev its : List ℕ × RecordRow → ℕ
  its e = e.1.priced.amount

  abbrev own : Priced → ℕ
  own priced = priced.amount

  -- the same for the records of a list,
  of_list : (ks : List (List ℕ)) → AreMembers book.held ks
      → sum_by its (filter_map (entry naming book sound) ks)
      ≡ sum_by own (filter_map (price_in book.rulings) ks)
  of_list [] held = refl
  of_list (k ∷ ks) held =
      let rest = of_list ks (others_held book.held k ks held) in
      let first = first_entry naming book sound (status_of book) sound.priced k ks held in
      let row = entry_at naming book sound k first.0 in
      let one = sum_by-cons its row (filter_map (entry naming book sound) ks) in
      let other = sum_by-cons own first.0 (filter_map (price_in book.rulings) ks) in
      let both : sum_by its (row ∷ filter_map (entry naming book sound) ks)
      ≡ sum_by own (first.0 ∷ filter_map (price_in book.rulings) ks) =
      omega (arith, rest, one, other) in
      ap (sum_by its) first.2 ∙ both
      ∙ ap (λ price. sum_by own (cons_option price (filter_map (price_in book.rulings) ks)))
      (sym first.1)

  -- and for those of the table: that is in the row of the book
  pub amount_is_read : sum_by (λ (row : RecordRow). row.priced.amount)
      (values (tables_of naming book).records)
      ≡ (tables_of naming book).book.amount
  amount_is_read =
      let table : RecordTable = (tables_of naming book).records in
      fold-map (λ n (row : RecordRow). n + row.priced.amount)
      (λ (e : List ℕ × RecordRow). e.1) 0 (entries table)
      ∙ sym (sum_by-IsPermutation its (entries table) (all_entries naming book sound)
      (all_permuted naming book sound))
      ∙ of_list (members book.held) (members_held book.held)
