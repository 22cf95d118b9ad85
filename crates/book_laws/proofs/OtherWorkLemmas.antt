-- Charge rows by another tariff are about the same work as the statement.
use Rattle.std.proofs.Common.{◌≡◌, ℕ, List, [], ◌∷◌, map, refl, sym, ap, ◌∙◌, subst, true, Bool}
use Rattle.std.proofs.Common.{cond, ◌||◌, Option, Some, None, Result, Ok, Err, arith, filter}
use Rattle.std.proofs.Common.{sum_by, filter_map, ok_or, option_map}
use Rattle.book_model.proofs.Std.{cons_option, list_any, sum_by-cons}
use Rattle.book_model.specs.Words.{Priced, Book, Naming, Period, Rulings, Terms, charged_at}
use Rattle.book_model.specs.Words.{charges_outcome, costs_under, day_of, has, in_force, members}
use Rattle.book_model.specs.Words.{no_event, period_of, price_by, price_in, prices, row_at}
use Rattle.book_model.specs.Words.{rows_for, rows_of, same_bytes, what_if_answer, what_if_outcome}
use Rattle.book_model.proofs.Lemmas.{is, is_first, length-sum_by, sum_by-filter}
use Rattle.table_model.specs.Words.{IsReadable}
use Rattle.book_laws.specs.OtherPriceLaws.{BooksKeepWhatIfs, CountSameWork, KeepsWork}
use Rattle.book_laws.specs.OtherPriceLaws.{NamesSameCentres, WhatIf}
use Rattle.book_laws.proofs.ClosedLemmas.{books_stay_closed, closed_stays}
use Rattle.book_laws.proofs.OtherPriceLemmas.{answered_rows, costs_as_said, counted_priced}
use Rattle.book_laws.proofs.OtherPriceLemmas.{gives_statement}
use Rattle.book_laws.proofs.RowSums.{sum_by-centre_rows, sum_by-rows}
use Rattle.book_laws.proofs.Words.{or-true, LedgerFault, NoSuchPeriod, ChargeRow, RowKey}
use Rattle.book_laws.proofs.Words.{rows_of_centre}
use Rattle.std.specs.FinMap as fin

-- work of a record is the same by each tariff
pub record IsWork (part : Priced → ℕ) : Type 0 where
  pub same : (one other : Terms) (bytes : List ℕ)
      → part (price_by one bytes) ≡ part (price_by other bytes)

-- so it is that of the price that the record has
priced_work : (terms : Terms) (part : Priced → ℕ) → IsWork part
    → (bytes : List ℕ) (its : Option Terms) (priced : Priced)
    → option_map (λ terms. price_by terms bytes) its ≡ Some priced
    → part (price_by terms bytes) ≡ part priced
priced_work terms part work bytes None priced is = cc
priced_work terms part work bytes (Some own) priced is =
    let same : price_by own bytes ≡ priced = cc in
    work.same terms own bytes ∙ ap part same

-- what is the same of two prices of each record is summed the same
module _ (price : List ℕ → Priced) (rulings : Rulings) (part : Priced → ℕ) where
  sums_agree : (ks : List (List ℕ))
      → ((k : List ℕ) → list_any (is k) ks ≡ true
      → (priced : Priced) × (price_in rulings k ≡ Some priced) × (part (price k) ≡ part priced))
      → sum_by part (map price ks) ≡ sum_by part (filter_map (price_in rulings) ks)
  sums_agree [] priced = refl
  sums_agree (k ∷ ks) priced =
      let rest = sums_agree ks
      (λ other among. priced other (ap (λ b. is other k || b) among ∙ or-true (is other k))) in
      let own = priced k (is_first k ks) in
      let one = own.2 in
      let first = sum_by-cons part (price k) (map price ks) in
      let second = sum_by-cons part own.0 (filter_map (price_in rulings) ks) in
      let both : sum_by part (price k ∷ map price ks)
      ≡ sum_by part (own.0 ∷ filter_map (price_in rulings) ks) = omega arith in
      both
      ∙ ap (λ price. sum_by part (cons_option price (filter_map (price_in rulings) ks))) (sym own.1)

-- rows are about the same work if each sum of work is
count_same : (one other : List ChargeRow)
    → ((row : ChargeRow → ℕ) (part : Priced → ℕ) → IsWork part
    → ((prices : List Priced) (key : RowKey)
    → row (row_at prices key) ≡ sum_by part (charged_at prices key))
    → sum_by row one ≡ sum_by row other)
    → CountSameWork one other
count_same one other sums = record {
  count = sums (λ row. row.count) (λ _. 1) (record { same = λ one other bytes. refl })
      (λ prices key. length-sum_by (charged_at prices key));
  cpu = sums (λ row. row.cpu) (λ one. one.cpu) (record { same = λ one other bytes. refl })
      (λ prices key. refl);
  blocks = sums (λ row. row.blocks) (λ one. one.excp)
      (record { same = λ one other bytes. refl }) (λ prices key. refl);
}

module _ (naming : Naming) (book : Book) (number : ℕ) (period : Period)
    (whole : IsReadable naming book) (there : period_of book number ≡ Some period)
    (terms : Terms) where
  abbrev by_rulings : List Priced
  by_rulings = prices book.rulings period.counted

  abbrev by_tariff : List Priced
  by_tariff = costs_under terms period.counted

  -- the work of a counted record is that of its price
  work_is : (part : Priced → ℕ) → IsWork part
      → (bytes : List ℕ) (on : has period.counted bytes ≡ true)
      → part (price_by terms bytes)
      ≡ part (counted_priced naming book number period whole there bytes on).0
  work_is part work bytes on =
      let own = counted_priced naming book number period whole there bytes on in
      priced_work terms part work bytes (in_force (day_of bytes) book.rulings.tariffs) own.0 own.1

  -- so what is summed of the work is the same
  pub same_sums : (part : Priced → ℕ) → IsWork part
      → sum_by part by_tariff ≡ sum_by part by_rulings
  same_sums part work =
      sums_agree (price_by terms) book.rulings part (members period.counted) (λ k among.
      let on = fin.contains_key-keys period.counted k ∙ among in
      let own = counted_priced naming book number period whole there k on in (
        own.0,
        own.1,
        work_is part work k on,
      ))

  same_work : CountSameWork (rows_of by_tariff) (rows_of by_rulings)
  same_work =
      count_same (rows_of by_tariff) (rows_of by_rulings) (λ row part work each.
      sum_by-rows row part by_tariff (each by_tariff)
      ∙ same_sums part work
      ∙ sym (sum_by-rows row part by_rulings (each by_rulings)))

  -- and for a centre, where each record is charged to the same one
  module _ (centre : List ℕ) (alike : NamesSameCentres book period terms) where
    abbrev of_centre : Priced → Bool
    of_centre one = same_bytes one.centre centre

    centre_sums : (part : Priced → ℕ) → IsWork part
        → sum_by part (filter of_centre by_tariff) ≡ sum_by part (filter of_centre by_rulings)
    centre_sums part work =
        sum_by-filter part of_centre by_tariff
        ∙ sums_agree (price_by terms) book.rulings (λ one. cond (of_centre one) (part one) 0)
        (members period.counted) (λ k among.
        let on = fin.contains_key-keys period.counted k ∙ among in
        let own = counted_priced naming book number period whole there k on in
        let names = alike.centre k own.0 on own.1 in
        let same = work_is part work k on in (
          own.0,
          own.1,
          λ i. cond (same_bytes (names i) centre) (same i) 0,
        ))
        ∙ sym (sum_by-filter part of_centre by_rulings)

    centre_work : CountSameWork (rows_of_centre centre (rows_of by_tariff))
        (rows_of_centre centre (rows_of by_rulings))
    centre_work =
        count_same (rows_of_centre centre (rows_of by_tariff))
        (rows_of_centre centre (rows_of by_rulings)) (λ row part work each.
        sum_by-centre_rows row part centre by_tariff (each by_tariff)
        ∙ centre_sums part work
        ∙ sym (sum_by-centre_rows row part centre by_rulings (each by_rulings)))

-- the statement's rows are those of its period
statement_rows : (book : Book) (number : ℕ) (period : Period) (charged : List ChargeRow)
    → period_of book number ≡ Some period → (charges_outcome number book).answer ≡ Ok charged
    → rows_for book.rulings period.counted ≡ charged
statement_rows book number period charged there is =
    one_list (rows_for book.rulings period.counted) charged
    (ap (λ (found : Option Period).
    ok_or (option_map (λ period. rows_for book.rulings period.counted) found) NoSuchPeriod)
    (sym there) ∙ is)
  where
    one_list : (one other : List ChargeRow)
        → ◌≡◌ {A = Result (List ChargeRow) LedgerFault} (Ok one) (Ok other) → one ≡ other
    one_list one other same = cc

-- a refusal is no list of rows
no_rows : (rows : List ChargeRow)
    → ◌≡◌ {A = Result (List ChargeRow) LedgerFault} (Err NoSuchPeriod) (Ok rows) → ⊥
no_rows rows is = cc

-- rows that are answered for a period are about the same work as its statement
keeps_work : KeepsWork
keeps_work = record {
  all = λ naming book number terms rows charged whole answer statement.
      by_period naming book number terms rows charged whole answer statement (period_of book number)
      refl;
  centre = λ naming book number terms period centre rows charged whole there alike answer statement.
      let own = answered_rows book number terms period rows there answer in
      let its = statement_rows book number period charged there statement in
      subst (λ other. CountSameWork (rows_of_centre centre rows) (rows_of_centre centre other)) its
      (subst (λ one. CountSameWork (rows_of_centre centre one)
      (rows_of_centre centre (rows_for book.rulings period.counted))) own
      (centre_work naming book number period whole there terms centre alike));
}
  where
    by_period : (naming : Naming) (book : Book) (number : ℕ) (terms : Terms)
        (rows charged : List ChargeRow) → IsReadable naming book
        → (what_if_outcome number terms book).answer ≡ Ok rows
        → (charges_outcome number book).answer ≡ Ok charged
        → (found : Option Period) → period_of book number ≡ found → CountSameWork rows charged
    by_period naming book number terms rows charged whole answer statement None there =
        absurd (no_rows rows (ap (what_if_answer terms) (sym there) ∙ answer))
    by_period naming book number terms rows charged whole answer statement (Some period) there =
        let own = answered_rows book number terms period rows there answer in
        let its = statement_rows book number period charged there statement in
        subst (λ other. CountSameWork rows other) its
        (subst (λ one. CountSameWork one (rows_for book.rulings period.counted)) own
        (same_work naming book number period whole there terms))

-- the law
pub what_if : WhatIf
what_if = record {
  said = costs_as_said;
  given = gives_statement;
  work = keeps_work;
  closed = λ naming later earlier number terms answered closed.
      let alike = closed_stays naming later earlier number answered closed in
      ap (λ found. no_event (what_if_answer terms found)) alike.period;
}

-- and of books that can be read back
pub books_keep_what_ifs : BooksKeepWhatIfs
books_keep_what_ifs naming book later number terms whole made closed =
    let alike = books_stay_closed naming book later number whole made closed in
    ap (λ found. no_event (what_if_answer terms found)) alike.period
