-- The tables of a book with one more tariff are those without it after a walk.
use Rattle.std.proofs.Common.{◌≡◌, ℕ, List, [], ◌∷◌, refl, sym, ap, ◌∙◌, true, false, true≢false}
use Rattle.std.proofs.Common.{inl, inr, cond, ◌||◌, Option, Some, None, Ok, arith, ℤ, ◌<ℤ◌, int_lt}
use Rattle.std.proofs.Common.{MatchOption, if◌then◌else◌, int_cmp}
use Rattle.std.specs.FinMap.{find, from_entries_push}
use Rattle.book_model.proofs.Std.{int_cmp_total, keys, from_entries, int_cmp-IsAntisymmetric}
use Rattle.book_model.proofs.Std.{list_any, false_from_ne_true, same_Some, ints, map-append}
use Rattle.book_model.specs.declared.answer.Ruled.TheVariants.{Done}
use Rattle.book_model.specs.Words.{day_of, Terms, price_by, total_of, Book, open_number, charged_of}
use Rattle.book_model.specs.Words.{is_dated_after, is_undisputed, give, TariffAccepted, Records}
use Rattle.book_model.specs.Words.{Naming, name_of, is_effective, terms_answer, Rulings}
use Rattle.book_model.specs.Words.{AcceptedTerms, price_in, with_tariff, identity_by, last_close}
use Rattle.book_model.specs.Words.{has, IsSound, AreAmong, Priced, is_after}
use Rattle.book_model.proofs.Lemmas.{calls_go_forward, price_in-behind, in_those, steps_stay_sound}
use Rattle.table_model.specs.Laws.{TariffFollows}
use Rattle.table_model.specs.Words.{AreFramed, tariff_at, put_tariff_row, set_sums, walk, reprice}
use Rattle.table_model.specs.Words.{reprice_step, RecordRow, Tables, RecordStatus, tariff_entries}
use Rattle.table_model.specs.Words.{tables_of, tables_at}
use Rattle.table_model.proofs.CostLemmas.{day-price}
use Rattle.table_model.proofs.Restated.{IsStatus, row_for, status_at}
use Rattle.table_model.proofs.StatusSteps.{reprice-is, status-is}
use Rattle.table_model.proofs.TariffPrices.{day_free_of, new_price}
use Rattle.table_model.proofs.WalkLemmas.{Restates, StepsOne, restated_all}

-- a day that no tariff has finds none
day_free : (day : ℤ) (tariffs : List AcceptedTerms) → list_any (is_effective day) tariffs ≡ false
    → find int_cmp day (tariff_entries tariffs) ≡ None
day_free day [] free = refl
day_free day (tariff ∷ tariffs) free =
    elim (is_effective day tariff) as (λ b. (b || list_any (is_effective day) tariffs) ≡ false
    → cond b (Some tariff.text) (find int_cmp day (tariff_entries tariffs)) ≡ None) [
      | true ↦ λ free. absurd (true≢false free)
      | false ↦ λ free. day_free day tariffs free
    ] free

-- a record that is dated on the first day or later is dated after the last close
late_is_current : (last : Option ℤ) (bytes : List ℕ) (first : ℤ)
    → MatchOption last (Unit {0}) (λ close. close <ℤ first) → int_lt (day_of bytes) first ≡ false
    → is_dated_after last bytes ≡ true
late_is_current None bytes first forward late = refl
late_is_current (Some close) bytes first forward late = grind (arith, ints)

module _ (naming : Naming) (book : Book) (sound : IsSound naming book)
    (framed : AreFramed book.held) (text : List ℕ) (terms : Terms)
    (done : terms_answer book text terms ≡ Ok Done) where
  -- the rulings with the tariff, and what records cost before it and by it
  abbrev ruled : Rulings
  ruled = with_tariff (Some text) terms book.rulings

  abbrev old : List ℕ → Option Priced
  old = price_in book.rulings

  abbrev new : List ℕ → Option Priced
  new = price_in ruled

  -- what is charged, and which work records measure
  abbrev charged : Records
  charged = charged_of book

  abbrev identity : List ℕ → List ℕ
  identity = identity_by book.rulings

  -- the status of the records by prices, and the tables
  abbrev stand : (List ℕ → Option Priced) → RecordStatus
  stand price = record { price = price; identity = identity; charged = charged }

  abbrev tables : (List ℕ → Option Priced) → Tables
  tables price = tables_at naming book (stand price)

  -- each price is that of a status
  held : AreAmong charged book.held
  held q on = in_those (is_undisputed book.rulings book.held) book.held q on

  pub was : IsStatus book (stand old)
  was = status-is naming book sound charged held

  pub becomes : IsStatus book (stand new)
  becomes = record {
    charged = held;
    priced = (steps_stay_sound.tariff naming book text terms sound done).priced;
    dated = λ q cost costs. day-price ruled q cost costs;
  }

  -- a record that is dated on the first day or later is dated after the last close
  pub late_is_after : (q : List ℕ) → int_lt (day_of q) terms.effective ≡ false
      → is_dated_after (last_close book.rulings) q ≡ true
  late_is_after q late =
      late_is_current (last_close book.rulings) q terms.effective
      (calls_go_forward.tariff book text terms done) late

  -- so what is settled costs what it cost
  pub settled : (q : List ℕ) → has book.held q ≡ true
      → is_dated_after (last_close book.rulings) q ≡ false → old q ≡ new q
  settled q there past =
      elim (int_lt (day_of q) terms.effective) as (λ b. int_lt (day_of q) terms.effective ≡ b
      → old q ≡ new q) [
        | true ↦ λ early. sym (price_in-behind book.rulings (Some text) terms q early)
        | false ↦ λ late. absurd (true≢false (sym (late_is_after q late) ∙ past))
      ] refl

  -- each record gets its price by the tariff
  pub step_is : Restates naming book sound (stand old) (stand new) was becomes settled
      (reprice_step (open_number book) terms)
  step_is one there cost costs its its_now made found =
      let name : List ℕ = name_of naming one in
      let period : ℕ = open_number book in
      let row : RecordRow = row_for book one (status_at (stand old) one) cost in
      let day = day-price book.rulings one cost its in
      elim (int_lt (day_of one) terms.effective)
      as (λ b. int_lt (day_of one) terms.effective ≡ b
      → reprice_step period terms name made
      ≡ (if b then made else reprice period name row (price_by terms one) made)
      → StepsOne naming book sound (stand old) (stand new) was becomes settled
      (reprice_step period terms) made one cost costs) [
        | true ↦ λ early stepped. inr (
          (λ i. record (status_at (stand old) one) {
            price = sym (price_in-behind book.rulings (Some text) terms one early) i;
          }),
          stepped,
        )
        | false ↦ λ late stepped.
            let own : price_by terms one ≡ costs =
            same_Some (price_by terms one) costs
            (sym (new_price book text terms done one late) ∙ its_now) in
            let after = late_is_after one late in
            inl (stepped ∙ ap (λ costs. reprice period name row costs made) own
            ∙ reprice-is period (last_close book.rulings) name row made found costs
            (unposted one after)
            (ap (is_after (last_close book.rulings)) day ∙ after)
            (ap (is_after (last_close book.rulings)) (day-price ruled one costs its_now)
            ∙ after))
      ] refl (rw found (λ i. if int_lt (day i) terms.effective then made
      else reprice period name row (price_by terms (sym ((framed one there).is) i)) made))
    where
      unposted : (one : List ℕ) → is_dated_after (last_close book.rulings) one ≡ true
          → has book.posted one ≡ false
      unposted one after =
          false_from_ne_true (has book.posted one)
          (λ on. true≢false (sym after ∙ sound.dated one on))

  -- so after the walk all that is held has its price by the tariff
  pub walked : walk (reprice_step (open_number book) terms) (keys (tables old).records) (tables old)
      ≡ tables new
  walked = restated_all naming book sound (stand old) (stand new) was becomes settled
      (reprice_step (open_number book) terms) step_is

  -- the tables with the tariff
  pub tariff-tables : tables_of naming (give (TariffAccepted (Some text) terms) book)
      ≡ tariff_at (open_number book) (Some text) terms (total_of ruled book.held)
      (tables_of naming book)
  tariff-tables =
      let row : Tables → Tables = λ made. set_sums (tables old).book.held (total_of ruled book.held)
      (put_tariff_row terms.effective (Some text) made) in
      let tariffs = ap from_entries
      (map-append {B = ℤ × Option (List ℕ)}
      (λ (tariff : AcceptedTerms). (tariff.terms.effective, tariff.text)) book.rulings.tariffs
      (record { text = Some text; terms = terms } ∷ []))
      ∙ from_entries_push int_cmp_total int_cmp-IsAntisymmetric
      (tariff_entries book.rulings.tariffs) terms.effective (Some text)
      (day_free terms.effective book.rulings.tariffs (day_free_of book text terms done)) in
      let made : tables_of naming (give (TariffAccepted (Some text) terms) book)
      ≡ row (tables new) =
      λ i. record (row (tables new)) { tariffs = tariffs i } in
      made ∙ ap row (sym walked)

-- the law
pub tariff_follows : TariffFollows
tariff_follows naming book text terms sound framed done =
    tariff-tables naming book sound framed text terms done
