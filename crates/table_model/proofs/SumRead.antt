-- What the records will cost together under a tariff is read from their rows.
use Rattle.std.proofs.Common.{◌≡◌, ◌+◌, ℕ, List, [], ◌∷◌, refl, sym, ap, ◌∙◌, true, false, Option}
use Rattle.std.proofs.Common.{Some, arith, sum_by, int_lt, filter_map}
use Rattle.book_model.proofs.Std.{entries, cons_option, fold-map, sum_by-IsPermutation, sum_by-cons}
use Rattle.book_model.specs.Words.{day_of, Terms, price_by, total_of, Book, charged_of, Records}
use Rattle.book_model.specs.Words.{Naming, name_of, is_later, price_in, with_tariff, identity_by}
use Rattle.book_model.specs.Words.{members, has, IsSound, Priced}
use Rattle.book_model.proofs.Lemmas.{price_in-behind, later-before, later_price}
use Rattle.table_model.specs.Laws.{SumIsRead}
use Rattle.table_model.specs.Words.{AreFramed, amount_under, RecordRow, RecordTable, status_of}
use Rattle.table_model.specs.Words.{tables_of, record_entry, row_by}
use Rattle.table_model.proofs.CostLemmas.{day-price}
use Rattle.table_model.proofs.RowsWhere.{AreMembers, all_rows, first_entry, first_held}
use Rattle.table_model.proofs.RowsWhere.{members_held, others_held}
use Rattle.std.specs.FinMap as fin

module _ (naming : Naming) (book : Book) (sound : IsSound naming book)
    (framed : AreFramed book.held) (text : List ℕ) (terms : Terms)
    (later : is_later terms.effective book.rulings ≡ true) where
  abbrev charged : Records
  charged = charged_of book

  abbrev table : RecordTable
  table = (tables_of naming book).records

  abbrev entry : List ℕ → Option (List ℕ × RecordRow)
  entry = record_entry naming book.rulings charged book.posted

  -- what a record costs under the tariff
  abbrev new : List ℕ → Option Priced
  new = price_in (with_tariff (Some text) terms book.rulings)

  -- one record, by its row
  row_cost : (k : List ℕ) (cost : Priced) → has book.held k ≡ true
      → price_in book.rulings k ≡ Some cost
      → (own : Priced) × (new k ≡ Some own) × (own.amount
      ≡ amount_under terms (row_by (identity_by book.rulings) charged book.posted k cost))
  row_cost k cost there costs =
      let day = day-price book.rulings k cost costs in
      elim (int_lt (day_of k) terms.effective) as (λ b. int_lt (day_of k) terms.effective ≡ b
      → (own : Priced) × (new k ≡ Some own) × (own.amount
      ≡ amount_under terms (row_by (identity_by book.rulings) charged book.posted k cost))) [
        | true ↦ λ early. (
          cost,
          price_in-behind book.rulings (Some text) terms k early ∙ costs,
          rw (day, early),
        )
        | false ↦ λ late. (
          price_by terms k,
          later_price book.rulings (Some text) terms
              (later-before terms.effective book.rulings later) k late,
          rw (day, late) (ap (λ bytes. (price_by terms bytes).amount) ((framed k there).is)),
        )
      ] refl

  -- the same holds for the records of a list,
  of_list : (ks : List (List ℕ)) → AreMembers book.held ks
      → sum_by (λ (e : List ℕ × RecordRow). amount_under terms e.1) (filter_map entry ks)
      ≡ sum_by (λ (p : Priced). p.amount) (filter_map new ks)
  of_list [] held = refl
  of_list (k ∷ ks) held =
      let its : List ℕ × RecordRow → ℕ = λ e. amount_under terms e.1 in
      let rest = of_list ks (others_held book.held k ks held) in
      let first = first_entry naming book sound (status_of book) sound.priced k ks held in
      let own = row_cost k first.0 (first_held book.held k ks held) first.1 in
      let row : List ℕ × RecordRow = (
        name_of naming k,
        row_by (identity_by book.rulings) charged book.posted k first.0,
      ) in
      let amount = own.2 in
      let one = sum_by-cons its row (filter_map entry ks) in
      let other = sum_by-cons (λ (p : Priced). p.amount) own.0 (filter_map new ks) in
      let both : sum_by its (row ∷ filter_map entry ks)
      ≡ sum_by (λ (p : Priced). p.amount) (own.0 ∷ filter_map new ks) = omega arith in
      ap (sum_by its) first.2 ∙ both
      ∙ ap (λ price. sum_by (λ (p : Priced). p.amount) (cons_option price (filter_map new ks)))
      (sym own.1)

  -- and for those of the table
  of_table : sum_by (amount_under terms) (fin.values table)
      ≡ total_of (with_tariff (Some text) terms book.rulings) book.held
  of_table =
      let all : List (List ℕ) = members book.held in
      fold-map (λ n (row : RecordRow). n + amount_under terms row)
      (λ (e : List ℕ × RecordRow). e.1) 0 (entries table)
      ∙ sym (sum_by-IsPermutation (λ (e : List ℕ × RecordRow). amount_under terms e.1)
      (entries table) (filter_map entry all)
      (all_rows naming book sound (status_of book) sound.priced))
      ∙ of_list all (members_held book.held)

-- the law
pub sum_is_read : SumIsRead
sum_is_read naming book text terms sound framed later =
    of_table naming book sound framed text terms later
