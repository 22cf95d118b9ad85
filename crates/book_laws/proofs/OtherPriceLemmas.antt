-- Charge rows by another tariff: what they cost, and when they are the statement's.
use Rattle.std.proofs.Common.{◌≡◌, ℕ, List, [], ◌∷◌, map, refl, sym, ap, ◌∙◌, subst, true, false}
use Rattle.std.proofs.Common.{Bool, cond, not, Option, Some, None, Result, Ok, Err, arith, ℤ, ◌+◌}
use Rattle.std.proofs.Common.{◌≤◌, ◌≤ℤ◌, filter, int_lt, nat_lt, if◌then◌else◌, slice_get, sum_by}
use Rattle.std.proofs.Common.{filter_map, ok_or, option_map}
use Rattle.book_model.proofs.Std.{nat_tests, ints, fold-map}
use Rattle.smf_text.specs.Day.{first_day}
use Rattle.book_model.specs.declared.fault.LedgerFault.TheVariants.{Full}
use Rattle.book_model.specs.Words.{on_every_day, Priced, AcceptedTerms, AreAmong, Book, IsDay}
use Rattle.book_model.specs.Words.{Naming, Period, Records, Rulings, Terms, charges_outcome}
use Rattle.book_model.specs.Words.{costs_under, day_of, flat_book, has, has_begun, in_force}
use Rattle.book_model.specs.Words.{members, most_cost, no_event, period_of, price_by, price_in}
use Rattle.book_model.specs.Words.{price_under, prices, rows_for, rows_if_room, rows_of, same_bytes}
use Rattle.book_model.specs.Words.{terms_in, what_if_answer, what_if_outcome, latest}
use Rattle.book_model.proofs.Lemmas.{filter-map, pick-agree}
use Rattle.table_model.proofs.HeldPeriods.{one_of}
use Rattle.table_model.proofs.TableParts.{what_is}
use Rattle.table_model.specs.Words.{IsReadable, IsTexted}
use Rattle.book_laws.specs.OtherPriceLaws.{CostsAsSaid, GivesStatement}
use Rattle.book_laws.proofs.RowSums.{sum_by-centre_rows, sum_by-rows_of}
use Rattle.book_laws.proofs.Words.{LedgerFault, NoSuchPeriod, ChargeRow, rows_of_centre, held_in}
use Rattle.book_laws.proofs.Words.{some_within}

-- what a function gives of each element is what it gives as a partial one
all_given : {X Y : Type 0} (f : X → Y) (xs : List X)
    → filter_map (λ x. Some (f x)) xs ≡ map f xs
all_given f [] = refl
all_given f (x ∷ xs) = ap (λ ys. f x ∷ ys) (all_given f xs)

-- if rulings give each record of a set a price, these are all prices of the set
costs_agree : (price : List ℕ → Priced) (rulings : Rulings) (records : Records)
    → ((bytes : List ℕ) → has records bytes ≡ true
    → price_in rulings bytes ≡ Some (price bytes))
    → map price (members records) ≡ prices rulings records
costs_agree price rulings records agree =
    sym (all_given price (members records))
    ∙ pick-agree (λ bytes. Some (price bytes)) (price_in rulings) records
    (λ bytes on. sym (agree bytes on))

-- no more than a bound
has_room : (most n : ℕ) → n ≤ most → nat_lt most n ≡ false
has_room most n small = grind (arith, nat_tests, small)

-- the rows are those by the room that there is
by_room : (costs : List Priced) (rows : List ChargeRow) → rows_if_room costs ≡ Ok rows
    → rows_of costs ≡ rows
by_room costs rows is =
    elim (nat_lt most_cost (sum_by (λ one. one.amount) costs)) as (λ dear.
    (if dear then Err Full else Ok (rows_of costs)) ≡ Ok rows → rows_of costs ≡ rows) [
      | true ↦ λ is. cc
      | false ↦ λ is. cc
    ] is

-- a tariff that is in force on every day prices each record
not_before : (low day : ℤ) → low ≤ℤ day → not (int_lt day low) ≡ true
not_before low day from = grind (arith, ints)

trial_price : (terms : Terms) (bytes : List ℕ) → first_day ≤ℤ day_of bytes
    → price_in (flat_book (on_every_day terms)).rulings bytes ≡ Some (price_by terms bytes)
trial_price terms bytes day =
    let one : AcceptedTerms = record { text = None; terms = on_every_day terms } in
    ap (λ begun. option_map (λ terms. price_by terms bytes)
    (option_map (λ (tariff : AcceptedTerms). tariff.terms) (latest (cond begun (one ∷ []) []))))
    (not_before first_day (day_of bytes) day)

-- a tariff that is the only one prices what has a price
only_price : (tariff : AcceptedTerms) (bytes : List ℕ) (priced : Priced)
    → price_under (tariff ∷ []) bytes ≡ Some priced
    → price_under (tariff ∷ []) bytes ≡ Some (price_by tariff.terms bytes)
only_price tariff bytes priced is =
    let under : Bool → Option Priced = λ begun.
    option_map (λ terms. price_by terms bytes) (option_map (λ (one : AcceptedTerms). one.terms)
    (latest (cond begun (tariff ∷ []) []))) in
    elim (has_begun (day_of bytes) tariff) as (λ begun.
    under begun ≡ Some priced → under begun ≡ Some (price_by tariff.terms bytes)) [
      | true ↦ λ is. refl
      | false ↦ λ is. cc
    ] is

-- one text is read in one way
one_reading : {X E : Type 0} (read : List ℕ → Result X E) (text own : List ℕ) (given said : X)
    → Some text ≡ Some own → read text ≡ Ok given → read own ≡ Ok said → said ≡ given
one_reading read text own given said same one other = cc

-- a record with a price that can be charged is dated on a day
priced_day : (bytes : List ℕ) (its : Option Terms) (priced : Priced)
    → option_map (λ terms. price_by terms bytes) its ≡ Some priced → IsDay priced.day
    → IsDay (day_of bytes)
priced_day bytes None priced is day = cc is
priced_day bytes (Some own) priced is day =
    let same : price_by own bytes ≡ priced = cc in
    subst IsDay (sym (ap (λ (one : Priced). one.day) same)) day

-- what is summed over the rows that are answered
module _ (book : Book) (number : ℕ) (terms : Terms) (period : Period) (rows : List ChargeRow)
    (there : period_of book number ≡ Some period)
    (answer : (what_if_outcome number terms book).answer ≡ Ok rows) where
  pub answered_rows : rows_of (costs_under terms period.counted) ≡ rows
  answered_rows =
      by_room (costs_under terms period.counted) rows
      (ap (what_if_answer terms) (sym there) ∙ answer)

  -- what the records cost
  total_is : sum_by (λ row. row.amount) rows
      ≡ sum_by (λ bytes. (price_by terms bytes).amount) (members period.counted)
  total_is =
      ap (λ (rows : List ChargeRow). sum_by (λ row. row.amount) rows) (sym answered_rows)
      ∙ sum_by-rows_of (costs_under terms period.counted)
      ∙ fold-map (λ n (one : Priced). n + one.amount) (price_by terms) 0 (members period.counted)

  -- and what they cost a centre
  centre_is : (centre : List ℕ)
      → sum_by (λ row. row.amount) (rows_of_centre centre rows)
      ≡ sum_by (λ bytes. (price_by terms bytes).amount)
      (filter (λ bytes. same_bytes (price_by terms bytes).centre centre) (members period.counted))
  centre_is centre =
      let of_centre : Priced → Bool = λ one. same_bytes one.centre centre in
      ap (λ (rows : List ChargeRow). sum_by (λ row. row.amount) (rows_of_centre centre rows))
      (sym answered_rows)
      ∙ sum_by-centre_rows (λ row. row.amount) (λ one. one.amount) centre
      (costs_under terms period.counted) (λ key. refl)
      ∙ ap (λ (costs : List Priced). sum_by (λ one. one.amount) costs)
      (filter-map of_centre (price_by terms) (members period.counted))
      ∙ fold-map (λ n (one : Priced). n + one.amount) (price_by terms) 0
      (filter (λ bytes. of_centre (price_by terms bytes)) (members period.counted))

module _ (naming : Naming) (book : Book) (number : ℕ) (period : Period)
    (whole : IsReadable naming book) (there : period_of book number ≡ Some period) where
  -- what the period counts is held,
  pub counted_held : AreAmong period.counted book.held
  counted_held = (held_in naming book whole.sound number period there).counted

  -- and so it has a price
  pub counted_priced : (bytes : List ℕ) → has period.counted bytes ≡ true
      → (priced : Priced) × (price_in book.rulings bytes ≡ Some priced)
  counted_priced bytes on =
      what_is (price_in book.rulings bytes) (whole.sound.priced bytes (counted_held bytes on))

  -- and a day
  counted_day : (bytes : List ℕ) → has period.counted bytes ≡ true → IsDay (day_of bytes)
  counted_day bytes on =
      let own = counted_priced bytes on in
      priced_day bytes (in_force (day_of bytes) book.rulings.tariffs) own.0 own.1
      (whole.priced bytes own.0 (counted_held bytes on) own.1).day

  abbrev by_rulings : List Priced
  by_rulings = prices book.rulings period.counted

  -- by the prices that its records have, the rows are the statement's, and there is room for them
  statement_is : (price : List ℕ → Priced)
      → ((bytes : List ℕ) → has period.counted bytes ≡ true
      → price_in book.rulings bytes ≡ Some (price bytes))
      → no_event (rows_if_room (map price (members period.counted))) ≡ charges_outcome number book
  statement_is price agree =
      let costs = costs_agree price book.rulings period.counted agree in
      let within = some_within naming book whole (λ one. one.amount) period.counted counted_held in
      let all = whole.limits.cost in
      let room = has_room most_cost (sum_by (λ one. one.amount) by_rulings) (omega arith) in
      let statement : Option Period → Result (List ChargeRow) LedgerFault =
      λ found. ok_or (option_map (λ period. rows_for book.rulings period.counted) found)
      NoSuchPeriod in
      ap no_event (ap rows_if_room costs
      ∙ ap (λ dear. if dear then Err Full else Ok (rows_of by_rulings)) room
      ∙ ap statement (sym there))

  module _ (terms : Terms) where
    -- the same for one tariff
    same_is : ((bytes : List ℕ) → has period.counted bytes ≡ true
        → price_in book.rulings bytes ≡ Some (price_by terms bytes))
        → what_if_outcome number terms book ≡ charges_outcome number book
    same_is agree =
        ap (λ found. no_event (what_if_answer terms found)) there
        ∙ statement_is (price_by terms) agree

    -- the prices of a trial
    trial_is : what_if_outcome number terms book
        ≡ no_event (rows_if_room (prices (flat_book (on_every_day terms)).rulings period.counted))
    trial_is =
        ap (λ found. no_event (what_if_answer terms found)) there
        ∙ ap (λ costs. no_event (rows_if_room costs))
        (costs_agree (price_by terms) (flat_book (on_every_day terms)).rulings period.counted
        (λ bytes on. trial_price terms bytes (counted_day bytes on).0))

-- by the text of the only tariff, each period's answer is its statement
module _ (naming : Naming) (book : Book) (number : ℕ) (tariff : AcceptedTerms) (text : List ℕ)
    (terms : Terms) (whole : IsReadable naming book) (only : book.rulings.tariffs ≡ tariff ∷ [])
    (texted : tariff.text ≡ Some text) (given : terms_in text ≡ Ok terms) where
  own_terms : tariff.terms ≡ terms
  own_terms =
      let own = one_of IsTexted book.rulings.tariffs 0 tariff whole.texts
      (ap (λ (tariffs : List AcceptedTerms). slice_get tariffs 0) only) in
      one_reading terms_in text own.text terms tariff.terms (sym texted ∙ own.is) given own.said

  own_price : (bytes : List ℕ) (priced : Priced) → price_in book.rulings bytes ≡ Some priced
      → price_in book.rulings bytes ≡ Some (price_by terms bytes)
  own_price bytes priced is =
      let under = ap (λ (tariffs : List AcceptedTerms). price_under tariffs bytes) only in
      under
      ∙ only_price tariff bytes priced (sym under ∙ is)
      ∙ ap (λ (terms : Terms). Some (price_by terms bytes)) own_terms

  only_is : (found : Option Period) → period_of book number ≡ found
      → what_if_outcome number terms book ≡ charges_outcome number book
  only_is None there =
      let statement : Option Period → Result (List ChargeRow) LedgerFault =
      λ found. ok_or (option_map (λ period. rows_for book.rulings period.counted) found)
      NoSuchPeriod in
      ap no_event (ap (what_if_answer terms) there ∙ ap statement (sym there))
  only_is (Some period) there =
      same_is naming book number period whole there terms (λ bytes on.
      let its = counted_priced naming book number period whole there bytes on in
      own_price bytes its.0 its.1)

-- each record costs what the tariff says
pub costs_as_said : CostsAsSaid
costs_as_said = record {
  trial = λ naming book number terms period whole there.
      trial_is naming book number period whole there terms;
  total = λ book number terms period rows there answer.
      total_is book number terms period rows there answer;
  centre = λ book number terms period rows centre there answer.
      centre_is book number terms period rows there answer centre;
}

-- and by the tariffs that gave each record its price the rows are the statement's
pub gives_statement : GivesStatement
gives_statement = record {
  own = λ naming book number period terms whole there priced.
      statement_is naming book number period whole there (λ bytes. price_by (terms bytes) bytes)
      (λ bytes on. ap (option_map (λ terms. price_by terms bytes)) (priced bytes on));
  same = λ naming book number terms period whole there agree.
      same_is naming book number period whole there terms agree;
  only = λ naming book number tariff text terms whole one texted given.
      only_is naming book number tariff text terms whole one texted given (period_of book number)
      refl;
}
