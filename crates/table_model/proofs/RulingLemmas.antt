-- A tariff is answered by what the records' rows will cost.
use Rattle.std.proofs.Common.{◌≡◌, ℕ, List, refl, sym, ap, ◌∙◌, true, false, Bool, Some, Ok, subst}
use Rattle.std.proofs.Common.{int_lt, nat_lt}
use Rattle.book_model.proofs.Std.{get, list_any, same_Some}
use Rattle.book_model.specs.declared.answer.Ruled.TheVariants.{Done}
use Rattle.book_model.specs.Words.{day_of, Terms, IsPriced, price_by, Book, charged_of, Naming}
use Rattle.book_model.specs.Words.{name_of, has_text, Rulings, is_effective, is_later, is_too_dear}
use Rattle.book_model.specs.Words.{terms_answer, most_cost, with_tariff, has, IsSound}
use Rattle.book_model.proofs.Lemmas.{later-before, later_price, price_in-behind, tariff_passes}
use Rattle.book_model.proofs.TestLemmas.{by_tests}
use Rattle.table_model.specs.Words.{AreFramed, RecordRow, record_row, tables_of, row_record}
use Rattle.table_model.specs.Words.{ArePriced, IsReadable}
use Rattle.table_model.proofs.CostLemmas.{day-price}
use Rattle.table_model.proofs.LineReading.{held_row}
use Rattle.table_model.proofs.SumRead.{sum_is_read}
use Rattle.table_model.specs.AnswerLaws.{TermsFollow}
use Rattle.table_model.specs.RulingsRead.{cost_too_much, terms_read}

module _ (naming : Naming) (book : Book) (sound : IsSound naming book) where
  -- a tariff is answered by what the rows will cost
  terms_read_is : AreFramed book.held → (text : List ℕ) (terms : Terms)
      → terms_answer book text terms
      ≡ terms_read book.rulings (tables_of naming book).records text terms
  terms_read_is framed text terms =
      let told : Bool = list_any (has_text text) book.rulings.tariffs in
      let there : Bool = list_any (is_effective terms.effective) book.rulings.tariffs in
      let dear : Bool = is_too_dear (with_tariff (Some text) terms book.rulings) book.held in
      let much : Bool = cost_too_much terms (tables_of naming book).records in
      elim (is_later terms.effective book.rulings) as
      (λ later. is_later terms.effective book.rulings ≡ later
      → by_tests told there later dear ≡ by_tests told there later much) [
        | true ↦ λ later.
            ap (by_tests told there true)
            (ap (nat_lt most_cost) (sym (sum_is_read naming book text terms sound framed later)))
        | false ↦ λ early. refl
      ] refl

module _ (naming : Naming) (book : Book) (whole : IsReadable naming book) (text : List ℕ)
    (terms : Terms) (done : terms_answer book text terms ≡ Ok Done)
    (rows : (name : List ℕ) (row : RecordRow) → get (tables_of naming book).records name ≡ Some row
    → int_lt row.priced.day terms.effective ≡ false → IsPriced (price_by terms (row_record row)))
  where
    -- the rulings with the tariff, which begins later than the others
    abbrev ruled : Rulings
    ruled = with_tariff (Some text) terms book.rulings

    is_late : is_later terms.effective book.rulings ≡ true
    is_late = (tariff_passes book text terms done).later

    -- what a record that the tariff is for costs under it is within the limits
    late_priced : (bytes : List ℕ) → has book.held bytes ≡ true
        → int_lt (day_of bytes) terms.effective ≡ false → IsPriced (price_by terms bytes)
    late_priced bytes there late =
        let row = held_row naming book whole.sound bytes there in
        subst (λ its. IsPriced (price_by terms its)) (sym (whole.lines.framed bytes there).is)
        (rows (name_of naming bytes)
        (record_row book.rulings (charged_of book) book.posted bytes row.0) row.2
        (ap (λ day. int_lt day terms.effective) (day-price book.rulings bytes row.0 row.1)
        ∙ late))

    -- the same holds for all records
    tariff_priced : ArePriced ruled book.held
    tariff_priced bytes priced there price =
        elim (int_lt (day_of bytes) terms.effective) as
        (λ b. int_lt (day_of bytes) terms.effective ≡ b → IsPriced priced) [
          | true ↦ λ early.
              whole.priced bytes priced there
              (sym (price_in-behind book.rulings (Some text) terms bytes early) ∙ price)
          | false ↦ λ late.
              let its = later_price book.rulings (Some text) terms
              (later-before terms.effective book.rulings is_late) bytes late in
              subst IsPriced (same_Some (price_by terms bytes) priced (sym its ∙ price))
              (late_priced bytes there late)
        ] refl

-- the law of tariffs
pub terms_follow : TermsFollow
terms_follow = record {
  answer = λ naming book text terms whole.
      terms_read_is naming book whole.sound whole.lines.framed text terms;
  priced = λ naming book text terms whole done rows.
      tariff_priced naming book whole text terms done rows;
}
