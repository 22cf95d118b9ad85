-- What a plain ledger answers to a tariff, and what its records cost then.
use Rattle.std.proofs.Common.{◌≡◌, ◌∙◌, ◌≤◌, ◌+◌, ℕ, List, sym, ap, Bool, true, false, Option, Some}
use Rattle.std.proofs.Common.{map, Ok, Err, Result, get_or, refl, length, subst, if◌then◌else◌}
use Rattle.std.proofs.Common.{int_lt, nat_lt, All, sum_by, ltb-false, not, None, ℤ, filter, option_map}
use Rattle.std.specs.Map.{keys_of}
use Rattle.book_model.proofs.Std.{list_all, list_any, IsStrictlySortedBy, length-map, fold-map}
use Rattle.book_model.proofs.Std.{map-map, option_map_or}
use Rattle.book_model.specs.declared.answer.Ruled.{Ruled}
use Rattle.book_model.specs.declared.answer.Ruled.TheVariants.{Already, Done}
use Rattle.book_model.specs.declared.fault.LedgerFault.{LedgerFault}
use Rattle.book_model.specs.declared.fault.LedgerFault.TheVariants.{Full, NoSuchTariff, TariffDate}
use Rattle.book_model.specs.Words.{day_of, Terms, Naming, name_of, by_bytes, Book, Rulings}
use Rattle.book_model.specs.Words.{price_in, price_by, with_tariff, has_text, total_of}
use Rattle.book_model.specs.Words.{is_effective, is_later, is_too_dear, tariff_answer, terms_answer}
use Rattle.book_model.specs.Words.{most_held, most_cost, terms_ruled, TariffFault, Priced}
use Rattle.book_model.specs.Words.{AcceptedTerms, are_rising, has_begun, is_after, is_under, latest}
use Rattle.book_model.specs.Words.{last_close, replace_answer, replace_ruled, replacing_answer}
use Rattle.book_model.specs.Words.{with_replaced}
use Rattle.book_core.specs.Words.{is_last_begun}
use Rattle.plain_ledger.specs.declared.held.HeldRecord.{HeldRecord}
use Rattle.plain_ledger.specs.Plain.{Entry, held_in, AreBooked}
use Rattle.plain_ledger.specs.Repricing.{AreRepriced, cost_at, price_anew, price_replaced}
use Rattle.book_model.proofs.TestLemmas.{tariff_tests}
use Rattle.plain_ledger.proofs.HeldLemmas.{bytes_of, each_priced, held-alike}
use Rattle.plain_ledger.proofs.RepricingLemmas.{names_stay, records_stay}
use Rattle.book_model.proofs.Lemmas.{map-agree, filter_map-map, filter_map-defined, price_in-behind}
use Rattle.book_model.proofs.Lemmas.{later_price, filter_map-alike}
use Rattle.book_model.proofs.ReplacedLemmas.{replaced_price}
use Rattle.book_model.proofs.PricingLemmas.{priced_day}
use Rattle.book_core.proofs.RulingLemmas.{done_by, last_is_under}

module _ (book : Book) (text : List ℕ) (terms : Terms) where
  -- the answer by the tests, where what is held is too dear, and where it is not
  abbrev answer_by : Bool → Result Ruled LedgerFault
  answer_by dear = terms_ruled book.rulings dear text terms

  abbrev dear : Bool
  dear = is_too_dear (with_tariff (Some text) terms book.rulings) book.held

  -- the same three tests
  abbrev told : Bool
  told = list_any (has_text text) book.rulings.tariffs

  abbrev there : Bool
  there = list_any (is_effective terms.effective) book.rulings.tariffs

  -- where all is Done but for the cost, the tariff is later than all that was ruled
  pub later_of : answer_by false ≡ Ok Done → is_later terms.effective book.rulings ≡ true
  later_of done = (tariff_tests told there (is_later terms.effective book.rulings) false done).later

  -- then it is Full where what is held is too dear
  pub terms_answer-done : answer_by false ≡ Ok Done → (is : Bool) → is ≡ dear
      → (if is then Err Full else Ok Done) ≡ terms_answer book text terms
  terms_answer-done done is is_dear =
      ap (λ (dear : Bool). if dear then Err Full else Ok Done) is_dear
      ∙ sym (done_by told there (is_later terms.effective book.rulings) dear done)

-- the answer to a text, by the answer to the terms that are read from it
pub tariff_answer-of : (book : Book) (text : List ℕ) (said : Result Terms TariffFault)
    (terms : Terms) (answer : Result Ruled LedgerFault) → said ≡ Ok terms
    → answer ≡ terms_answer book text terms → tariff_answer book text said ≡ answer
tariff_answer-of book text said terms answer read is = ap (tariff_answer book text) read ∙ sym is

-- where all is Done but for the room, the tariff to be replaced is there
pub replaced_there : (rulings : Rulings) (text : List ℕ) (terms : Terms)
    → replace_ruled rulings false text terms ≡ Ok Done
    → list_any (is_effective terms.effective) rulings.tariffs ≡ true
replaced_there rulings text terms done =
    by (list_any (has_text text) rulings.tariffs)
    (list_any (is_effective terms.effective) rulings.tariffs)
    (is_after (last_close rulings) terms.effective) done
  where
    by : (told there late : Bool)
        → (if told then Ok Already
        else if not there then Err NoSuchTariff
        else if not late then Err TariffDate
        else Ok Done) ≡ Ok Done → there ≡ true
    by true there late is = cc
    by false false late is = cc
    by false true late is = refl

-- then it is Full where there is no room
pub replace_answer-done : (rulings : Rulings) (text : List ℕ) (terms : Terms) (full : Bool)
    → replace_ruled rulings false text terms ≡ Ok Done
    → (if full then Err Full else Ok Done) ≡ replace_ruled rulings full text terms
replace_answer-done rulings text terms full done =
    by (list_any (has_text text) rulings.tariffs)
    (list_any (is_effective terms.effective) rulings.tariffs)
    (is_after (last_close rulings) terms.effective) done
  where
    by : (told there late : Bool)
        → (if told then Ok Already
        else if not there then Err NoSuchTariff
        else if not late then Err TariffDate
        else Ok Done) ≡ Ok Done
        → (if full then Err Full else Ok Done)
        ≡ (if told then Ok Already
        else if not there then Err NoSuchTariff
        else if not late then Err TariffDate
        else if full then Err Full
        else Ok Done)
    by true there late is = cc
    by false false late is = cc
    by false true false is = cc
    by false true true is = refl

-- the answer to a text in the place of another, by the answer to the terms that are read from it
pub replacing_answer-of : (book : Book) (text : List ℕ) (said : Result Terms TariffFault)
    (terms : Terms) (answer : Result Ruled LedgerFault) → said ≡ Ok terms
    → answer ≡ replace_answer book text terms → replacing_answer book text said ≡ answer
replacing_answer-of book text said terms answer read is =
    ap (replacing_answer book text) read ∙ sym is

module _ {naming : Naming} {rulings : Rulings} {entries : List Entry} {total : ℕ}
    (kept : AreBooked naming rulings entries total) where
  -- each record is dated on the day of its price
  pub each_dated : All (λ (entry : Entry). entry.1.priced.day ≡ day_of (bytes_of entry)) entries
  each_dated k d within = priced_day _ _ _ (each_priced kept k d within)

  -- with one more tariff, which begins later than every other one, each record costs what it says of
  -- those dated on its first day or later, else what it cost
  pub each_anew : (text : Option (List ℕ)) (terms : Terms)
      → list_all (λ tariff. int_lt tariff.terms.effective terms.effective) rulings.tariffs ≡ true
      → All (λ (entry : Entry). price_in (with_tariff text terms rulings) (bytes_of entry)
      ≡ Some (price_anew terms entry.1)) entries
  each_anew text terms later k d within =
      let entry = get_or entries k d in
      let day = each_dated k d within in
      elim (int_lt entry.1.priced.day terms.effective) as (λ b.
      int_lt entry.1.priced.day terms.effective ≡ b
      → price_in (with_tariff text terms rulings) (bytes_of entry)
      ≡ Some (if b then entry.1.priced else price_by terms (bytes_of entry))) [
        | true ↦ λ early.
            price_in-behind rulings text terms (bytes_of entry)
            (ap (λ day. int_lt day terms.effective) (sym day) ∙ early)
            ∙ each_priced kept k d within
        | false ↦ λ late.
            later_price rulings text terms later (bytes_of entry)
            (ap (λ day. int_lt day terms.effective) (sym day) ∙ late)
      ] refl

  -- with one in the place of another it costs what that says where its day had the other
  pub each_replaced : (text : List ℕ) (terms : Terms)
      → All (λ (entry : Entry). price_in (with_replaced text terms rulings) (bytes_of entry)
      ≡ Some (price_replaced rulings.tariffs terms entry.1)) entries
  each_replaced text terms k d within =
      let entry = get_or entries k d in
      let bytes = bytes_of entry in
      replaced_price rulings text terms bytes
      ∙ ap (λ (under : Bool). if under then Some (price_by terms bytes) else price_in rulings bytes)
      (sym (last_is_under rulings.tariffs terms (day_of bytes) kept.in_order))
      ∙ elim (is_last_begun rulings.tariffs terms (day_of bytes)) as (λ b.
      (if b then Some (price_by terms bytes) else price_in rulings bytes)
      ≡ Some (if b then price_by terms bytes else entry.1.priced)) [
        | true ↦ refl
        | false ↦ each_priced kept k d within
      ]

  -- by rulings under which each record costs so
  module _ (after : Rulings) (price : HeldRecord → Priced)
      (each : All (λ (entry : Entry). price_in after (bytes_of entry) ≡ Some (price entry.1))
      entries) where
    -- together they cost what their new prices sum to
    pub total_of-anew : IsStrictlySortedBy by_bytes (keys_of entries)
        → total_of after (held_in entries)
        ≡ cost_at price (map (λ (entry : Entry). entry.1) entries)
    total_of-anew rising =
        let costs : List ℕ → Option Priced = price_in after in
        let anew : Entry → Priced = λ entry. price entry.1 in
        let amount : Priced → ℕ = λ priced. priced.amount in
        let own : Entry → Option Priced = λ entry. costs (bytes_of entry) in
        let cost : HeldRecord → ℕ = λ held. (price held).amount in
        (filter_map-alike costs (held-alike kept rising)).sums amount
        ∙ ap (sum_by amount) (filter_map-map costs bytes_of entries)
        ∙ ap (sum_by amount) (filter_map-defined own anew entries each)
        ∙ fold-map (λ n priced. n + amount priced) anew 0 entries
        ∙ sym (fold-map (λ n held. n + cost held) (λ (entry : Entry). entry.1) 0 entries)

    -- which is no more than the books hold, where the test of it says so
    pub fits_anew : IsStrictlySortedBy by_bytes (keys_of entries)
        → is_too_dear after (held_in entries) ≡ false
        → cost_at price (map (λ (entry : Entry). entry.1) entries) ≤ most_cost
    fits_anew rising fits =
        ltb-false most_cost (cost_at price (map (λ (entry : Entry). entry.1) entries))
        (ap (nat_lt most_cost) (sym (total_of-anew rising)) ∙ fits)

    -- the same records at their new prices are kept, where these sum to no more than the books hold
    pub kept_anew : are_rising after.tariffs ≡ true → (anew : List Entry)
        → AreRepriced price entries anew
        → cost_at price (map (λ (entry : Entry). entry.1) entries) ≤ most_cost
        → AreBooked naming after anew (cost_at price (map (λ (entry : Entry). entry.1) entries))
    kept_anew in_order anew is small =
        let names = names_stay is in
        let records = records_stay is in
        let costs : List ℕ → Option Priced = price_in after in
        let own : Entry → Option Priced = λ entry. costs (bytes_of entry) in
        let some : Priced → Option Priced = Some in
        let new : Entry → Priced = λ entry. price entry.1 in
        let priced : Entry → Priced = λ entry. entry.1.priced in
        let amount : Priced → ℕ = λ one. one.amount in
        let cost : HeldRecord → ℕ = λ held. (price held).amount in
        let known : Entry → List ℕ = λ entry. entry.0 in
        record {
          named = names ∙ kept.named ∙ ap (map (name_of naming)) (sym records);
          priced =
              sym (map-map some priced anew)
              ∙ ap (map some) is.priced
              ∙ map-map some new entries
              ∙ sym (map-agree own (λ entry. some (new entry)) entries each)
              ∙ sym (map-map costs bytes_of entries)
              ∙ ap (map costs) (sym records);
          summed =
              fold-map (λ n held. n + cost held) (λ (entry : Entry). entry.1) 0 entries
              ∙ sym (fold-map (λ n one. n + amount one) new 0 entries)
              ∙ ap (sum_by amount) (sym is.priced)
              ∙ fold-map (λ n one. n + amount one) priced 0 anew;
          small = small;
          few =
              let count = sym (length-map anew known) ∙ ap length names
              ∙ length-map entries known in
              subst (λ n. n ≤ most_held) (sym count) kept.few;
          in_order = in_order;
        }
