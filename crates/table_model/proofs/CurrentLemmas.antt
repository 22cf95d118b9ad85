-- The record that a choice withdraws is read from the tables alone, and so is the chosen one.
use Rattle.std.proofs.Common.{◌≡◌, ℕ, suc, List, [], ◌∷◌, length, refl, sym, ap, ◌∙◌, true, Bool}
use Rattle.std.proofs.Common.{◌&&◌, Some, None, arith, filter, option_map, option_and_then}
use Rattle.book_model.proofs.Std.{entries, nat_list_cmp_total, nat_list_eq_equiv, exact_bytes}
use Rattle.book_model.specs.Words.{Priced, Book, charged_of, share_identity, Records, Naming}
use Rattle.book_model.specs.Words.{name_of, same_bytes, price_in, identity_by, members, has}
use Rattle.book_model.specs.Words.{IsSound}
use Rattle.book_model.proofs.Lemmas.{no_length, filter-filter, members-those}
use Rattle.table_model.specs.Laws.{ChoiceReads}
use Rattle.table_model.specs.Words.{RecordRow, RecordTable, status_of, tables_of, current_in}
use Rattle.table_model.specs.Words.{current_of, only_of, member_at, member_by, member_of, sharing}
use Rattle.table_model.specs.Views.{member_in}
use Rattle.table_model.proofs.Restated.{row-found}
use Rattle.table_model.proofs.RowsWhere.{count_where, one_where}
use Rattle.table_model.proofs.TableParts.{what_is}

-- a list of two or more has no sole element
only_none : {X : Type 0} (xs : List X) (n : ℕ) → length xs ≡ suc (suc n) → only_of xs ≡ None
only_none [] n count = absurd (omega arith)
only_none (x ∷ []) n count = absurd (omega arith)
only_none (x ∷ y ∷ xs) n count = refl

module _ (naming : Naming) (book : Book) (sound : IsSound naming book) (bytes : List ℕ) where
  -- what is charged
  abbrev charged : Records
  charged = charged_of book

  -- the table of the records
  abbrev table : RecordTable
  table = (tables_of naming book).records

  -- a row of the identity that is charged, and a record that is and shares it
  abbrev own : List ℕ × RecordRow → Bool
  own row = same_bytes row.1.identity (identity_by book.rulings bytes)

  abbrev current_row : List ℕ × RecordRow → Bool
  current_row row = row.1.charged && own row

  abbrev share : List ℕ → Bool
  share = share_identity book.rulings bytes

  abbrev current : List ℕ → Bool
  current q = has charged q && share q

  agree : (q : List ℕ) (cost : Priced) → price_in book.rulings q ≡ Some cost
      → (has charged q
      && same_bytes (identity_by book.rulings q) (identity_by book.rulings bytes)) ≡ current q
  agree q cost costs = ap (λ s. has charged q && s)
      (nat_list_eq_equiv.symm (identity_by book.rulings q) (identity_by book.rulings bytes))

  -- so the only such row is that of the only such record
  only_current : (list : List (List ℕ)) → filter current (members book.held) ≡ list
      → option_map member_at (only_of (filter current_row (entries table)))
      ≡ option_and_then (member_of naming book) (only_of list)
  only_current [] listed =
      ap (λ rows. option_map member_at (only_of rows))
      (no_length (filter current_row (entries table))
      (count_where naming book sound (status_of book) sound.priced current_row current agree
      ∙ ap length listed))
  only_current (one ∷ []) listed =
      let only = one_where naming book sound (status_of book) sound.priced current_row current agree
      one listed in
      ap (λ rows. option_map member_at (only_of rows)) only.2
      ∙ ap (member_by naming book one) (sym only.1)
  only_current (a ∷ b ∷ rest) listed =
      ap (option_map member_at)
      (only_none (filter current_row (entries table)) (length rest)
      (count_where naming book sound (status_of book) sound.priced current_row current agree
      ∙ ap length listed))

  -- it is the one that a choice withdraws
  current_read : current_in (tables_of naming book) (identity_by book.rulings bytes)
      ≡ current_of naming book bytes
  current_read =
      let all : List (List ℕ) = members book.held in
      ap (λ rows. option_map member_at (only_of rows))
      (filter-filter (λ (row : List ℕ × RecordRow). row.1.charged) own (entries table))
      ∙ only_current (filter (has charged) (sharing book bytes))
      (sym (filter-filter (has charged) share all)
      ∙ ap (filter (has charged)) (sym (members-those nat_list_cmp_total exact_bytes share
      book.held)))

  -- and the chosen one is the record that has its name
  member_read : has book.held bytes ≡ true
      → member_in (tables_of naming book) (name_of naming bytes) ≡ member_of naming book bytes
  member_read there =
      let cost = what_is (price_in book.rulings bytes) (sound.priced bytes there) in
      ap (option_map (λ (row : RecordRow). member_at (name_of naming bytes, row)))
      (row-found naming book sound (price_in book.rulings) (identity_by book.rulings) charged bytes
      there cost.0 cost.1)
      ∙ ap (member_by naming book bytes) (sym cost.1)

-- the law
pub choice_reads : ChoiceReads
choice_reads naming book bytes sound there = record {
  current = current_read naming book sound bytes;
  chosen = member_read naming book sound bytes there;
}
