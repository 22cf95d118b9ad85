-- The words of the journal's entries stay.
use Rattle.std.proofs.Common.{◌≡◌, ℕ, zero, suc, ◌+◌, ◌-◌, ◌<◌, ◌≤◌, ◌==◌, Bool, true, false, cond}
use Rattle.std.proofs.Common.{List, [], ◌∷◌, ◌++◌, length, map, filter, drop, slice_get, refl, sym}
use Rattle.std.proofs.Common.{ap}
use Rattle.std.proofs.Common.{◌∙◌, arith, Option, Some, None, option_map, option_and_then, ℤ}
use Rattle.std.proofs.Common.{append_assoc, append-nil, ne_eqb, unwrap_or}
use Rattle.std.proofs.lemmas.Bool.Decides.{Decides-int_eq}
use Rattle.std.proofs.lemmas.List.{drop-append-le}
use Rattle.std.specs.Ordering.{int_eq}
use Rattle.book_model.proofs.Std.{filter-append, map-append}
use Rattle.book_model.specs.Words.{AcceptedTerms, Book, CreditGiven, Event, Naming}
use Rattle.book_model.specs.Words.{ImportBegun, ImportEnded, ImportRead, PeriodClosed, Place}
use Rattle.book_model.specs.Words.{RecordChosen, RecordKept, Replaced, RulingGiven, Rulings}
use Rattle.book_model.specs.Words.{RulingSeen, SecondRuleAdopted, TariffAccepted, TariffReplaced}
use Rattle.book_model.specs.Words.{Terms, WorkWithheld, after, close_of, choice_seen, credit_seen}
use Rattle.book_model.specs.Words.{is_effective, open_by, or_new, replaced_in, ruling_at}
use Rattle.book_model.specs.Words.{tariff_seen}
use Rattle.book_model.specs.Words.{AdoptionSeen, CloseSeen, with_replaced, with_tariff, CloseOf}
use Rattle.book_model.specs.Journal.{AdoptionOf, ChoiceOf, CreditOf, ReplacementOf, TariffOf}
use Rattle.book_model.specs.JournalLaws.{WordsStay}
use Rattle.book_model.specs.JournalLists.{tariff_brought, tariffs_from_number}
use Rattle.book_model.proofs.ListLemmas.{slice_get-behind}

-- what is found stays where more comes behind it
got_front : {X : Type 0} (xs ys : List X) (k : ℕ) (x : X) → slice_get xs k ≡ Some x
    → slice_get (xs ++ ys) k ≡ Some x
got_front [] ys k x is = cc
got_front (first ∷ xs) ys zero x is = is
got_front (first ∷ xs) ys (suc k) x is = got_front xs ys k x is

got_within : {X : Type 0} (xs : List X) (k : ℕ) (x : X) → slice_get xs k ≡ Some x → k < length xs
got_within [] k x is = cc
got_within (first ∷ xs) zero x is = omega arith
got_within (first ∷ xs) (suc k) x is = let rest = got_within xs k x is in omega arith

-- and what is read of it
seen_front : {X Y : Type 0} (f : X → Y) (xs ys : List X) (k : ℕ) (y : Y)
    → option_map f (slice_get xs k) ≡ Some y → option_map f (slice_get (xs ++ ys) k) ≡ Some y
seen_front {X} {Y} f xs ys k y is =
    elim (slice_get xs k) as (λ (found : Option X). slice_get xs k ≡ found
    → option_map f found ≡ Some y → option_map f (slice_get (xs ++ ys) k) ≡ Some y) [
      | None ↦ λ e is. cc
      | Some x ↦ λ e is. ap (option_map f) (got_front xs ys k x e) ∙ is
    ] refl is

read_front : {X Y : Type 0} (f : X → Option Y) (xs ys : List X) (k : ℕ) (y : Y)
    → option_and_then f (slice_get xs k) ≡ Some y
    → option_and_then f (slice_get (xs ++ ys) k) ≡ Some y
read_front {X} {Y} f xs ys k y is =
    elim (slice_get xs k) as (λ (found : Option X). slice_get xs k ≡ found
    → option_and_then f found ≡ Some y → option_and_then f (slice_get (xs ++ ys) k) ≡ Some y) [
      | None ↦ λ e is. cc
      | Some x ↦ λ e is. ap (option_and_then f) (got_front xs ys k x e) ∙ is
    ] refl is

-- ---- tariffs

-- the tariff of a replaced one
abbrev pub its_tariff : Replaced → AcceptedTerms
its_tariff replaced = replaced.tariff

pub again : (period : ℕ) (tariffs : List AcceptedTerms)
    → map its_tariff (map (replaced_in period) tariffs) ≡ tariffs
again period [] = refl
again period (tariff ∷ tariffs) = ap (λ rest. tariff ∷ rest) (again period tariffs)

module _ (day : ℤ) (new : AcceptedTerms) where
  -- its first day
  abbrev from : ℤ
  from = new.terms.effective

  -- those of the day that are replaced, and the tariffs then
  abbrev gone : List AcceptedTerms → List AcceptedTerms
  gone tariffs = filter (is_effective day) (filter (is_effective from) tariffs)

  abbrev now : List AcceptedTerms → List AcceptedTerms
  now tariffs = filter (is_effective day) (map (or_new new) tariffs)

  -- of that day all are replaced
  all_gone : (tariffs : List AcceptedTerms) → day ≡ from
      → gone tariffs ≡ filter (is_effective day) tariffs
  all_gone [] same = refl
  all_gone (tariff ∷ tariffs) same =
      let rest = all_gone tariffs same in
      elim (is_effective from tariff) as (λ b. is_effective from tariff ≡ b
      → filter (is_effective day) (cond b (tariff ∷ filter (is_effective from) tariffs)
      (filter (is_effective from) tariffs))
      ≡ cond (is_effective day tariff) (tariff ∷ filter (is_effective day) tariffs)
      (filter (is_effective day) tariffs)) [
        | true ↦ λ e. ap (λ list. cond (is_effective day tariff) (tariff ∷ list) list) rest
        | false ↦ λ e.
            rest
            ∙ sym (ap (λ b. cond b (tariff ∷ filter (is_effective day) tariffs)
            (filter (is_effective day) tariffs))
            (ap (λ day. is_effective day tariff) same ∙ e))
      ] refl

  -- of another day none is, and the others are as they were
  module _ (apart : int_eq day from ≡ false) where
    other_day : (tariff : AcceptedTerms) → is_effective from tariff ≡ true
        → is_effective day tariff ≡ false
    other_day tariff its =
        ap (int_eq day) (sym ((Decides-int_eq from tariff.terms.effective).0 its)) ∙ apart

    none_gone : (tariffs : List AcceptedTerms) → gone tariffs ≡ []
    none_gone [] = refl
    none_gone (tariff ∷ tariffs) =
        let rest = none_gone tariffs in
        elim (is_effective from tariff) as (λ b. is_effective from tariff ≡ b
        → filter (is_effective day) (cond b (tariff ∷ filter (is_effective from) tariffs)
        (filter (is_effective from) tariffs)) ≡ []) [
          | true ↦ λ e.
              ap (λ b. cond b (tariff ∷ gone tariffs) (gone tariffs)) (other_day tariff e) ∙ rest
          | false ↦ λ e. rest
        ] refl

    others_now : (tariffs : List AcceptedTerms) → now tariffs ≡ filter (is_effective day) tariffs
    others_now [] = refl
    others_now (tariff ∷ tariffs) =
        let rest = others_now tariffs in
        elim (is_effective from tariff) as (λ b. is_effective from tariff ≡ b
        → cond (is_effective day (cond b new tariff)) (cond b new tariff ∷ now tariffs) (now tariffs)
        ≡ cond (is_effective day tariff) (tariff ∷ filter (is_effective day) tariffs)
        (filter (is_effective day) tariffs)) [
          | true ↦ λ e.
              ap (λ b. cond b (new ∷ now tariffs) (now tariffs)) apart
              ∙ rest
              ∙ sym (ap (λ b. cond b (tariff ∷ filter (is_effective day) tariffs)
              (filter (is_effective day) tariffs)) (other_day tariff e))
          | false ↦ λ e. ap (λ list. cond (is_effective day tariff) (tariff ∷ list) list) rest
        ] refl

  -- so the list of the day has at most more behind it
  more_behind : (tariffs : List AcceptedTerms)
      → (behind : List AcceptedTerms)
      × (gone tariffs ++ now tariffs ≡ filter (is_effective day) tariffs ++ behind)
  more_behind tariffs =
      elim (int_eq day from) as (λ b. int_eq day from ≡ b → (behind : List AcceptedTerms)
      × (gone tariffs ++ now tariffs ≡ filter (is_effective day) tariffs ++ behind)) [
        | true ↦ λ e. (
          now tariffs,
          ap (λ list. list ++ now tariffs)
              (all_gone tariffs ((Decides-int_eq day from).0 e)),
        )
        | false ↦ λ e. (
          [],
          ap (λ list. list ++ now tariffs) (none_gone e tariffs)
              ∙ others_now e tariffs
              ∙ sym (append-nil (filter (is_effective day) tariffs)),
        )
      ] refl

-- a text more in force leaves what a day had
accepted_behind : (rulings : Rulings) (text : Option (List ℕ)) (terms : Terms) (day : ℤ) (number : ℕ)
    → tariffs_from_number day number (with_tariff text terms rulings)
    ≡ tariffs_from_number day number rulings
    ++ filter (is_effective day) (record { text = text; terms = terms } ∷ [])
accepted_behind rulings text terms day number =
    let more : List AcceptedTerms = record { text = text; terms = terms } ∷ [] in
    let before : List AcceptedTerms = map its_tariff (drop number rulings.replaced) in
    ap (filter (is_effective day)) (sym (append_assoc before rulings.tariffs more))
    ∙ filter-append (is_effective day) (before ++ rulings.tariffs) more

-- and so does one in the place of another
replaced_behind : (rulings : Rulings) (text : List ℕ) (terms : Terms) (day : ℤ) (number : ℕ)
    → number ≤ length rulings.replaced
    → (behind : List AcceptedTerms)
    × (tariffs_from_number day number (with_replaced text terms rulings)
    ≡ tariffs_from_number day number rulings ++ behind)
replaced_behind rulings text terms day number within =
    let new : AcceptedTerms = record { text = Some text; terms = terms } in
    let tariffs : List AcceptedTerms = rulings.tariffs in
    let own : AcceptedTerms → Bool = is_effective day in
    let gone_now : List AcceptedTerms = filter (is_effective terms.effective) tariffs in
    let before : List AcceptedTerms = map its_tariff (drop number rulings.replaced) in
    let more : List Replaced = map (replaced_in (open_by rulings)) gone_now in
    let found = more_behind day new tariffs in (
      found.0,
      ap (λ list. filter own (map its_tariff list ++ map (or_new new) tariffs))
          (drop-append-le number rulings.replaced more within)
          ∙ ap (λ list. filter own (list ++ map (or_new new) tariffs))
          (map-append its_tariff (drop number rulings.replaced) more
          ∙ ap (λ list. before ++ list) (again (open_by rulings) gone_now))
          ∙ filter-append own (before ++ gone_now) (map (or_new new) tariffs)
          ∙ ap (λ list. list ++ now day new tariffs) (filter-append own before gone_now)
          ∙ append_assoc (filter own before) (gone day new tariffs) (now day new tariffs)
          ∙ ap (λ list. filter own before ++ list) found.1
          ∙ sym (append_assoc (filter own before) (filter own tariffs) found.0)
          ∙ ap (λ list. list ++ found.0) (sym (filter-append own before tariffs)),
    )

-- what was brought stays
brought_accepted : (rulings : Rulings) (text : Option (List ℕ)) (terms : Terms) (day : ℤ)
    (number : ℕ) (seen : RulingSeen) → tariff_brought day number rulings ≡ Some seen
    → tariff_brought day number (with_tariff text terms rulings) ≡ Some seen
brought_accepted rulings text terms day number seen is =
    ap (λ list. option_and_then tariff_seen (slice_get list 0))
    (accepted_behind rulings text terms day number)
    ∙ read_front tariff_seen (tariffs_from_number day number rulings)
    (filter (is_effective day) (record { text = text; terms = terms } ∷ [])) 0 seen is

brought_replaced : (rulings : Rulings) (text : List ℕ) (terms : Terms) (day : ℤ)
    (number : ℕ) (seen : RulingSeen) → number ≤ length rulings.replaced
    → tariff_brought day number rulings ≡ Some seen
    → tariff_brought day number (with_replaced text terms rulings) ≡ Some seen
brought_replaced rulings text terms day number seen within is =
    let found = replaced_behind rulings text terms day number within in
    ap (λ list. option_and_then tariff_seen (slice_get list 0)) found.1
    ∙ read_front tariff_seen (tariffs_from_number day number rulings) found.0 0 seen is

-- so is what was brought in the place of another
abbrev at_number : ℕ → Rulings → Option Replaced → Option RulingSeen
at_number number rulings found =
    option_and_then (λ replaced. tariff_brought replaced.tariff.terms.effective number rulings) found

replacement_accepted : (rulings : Rulings) (text : Option (List ℕ)) (terms : Terms) (number : ℕ)
    (seen : RulingSeen) (found : Option Replaced) → at_number number rulings found ≡ Some seen
    → at_number number (with_tariff text terms rulings) found ≡ Some seen
replacement_accepted rulings text terms number seen None is = cc
replacement_accepted rulings text terms number seen (Some replaced) is =
    brought_accepted rulings text terms replaced.tariff.terms.effective number seen is

replacement_replaced : (rulings : Rulings) (text : List ℕ) (terms : Terms) (number : ℕ)
    (seen : RulingSeen) → at_number number rulings (slice_get rulings.replaced (number - 1)) ≡ Some seen
    → at_number number (with_replaced text terms rulings)
    (slice_get (with_replaced text terms rulings).replaced (number - 1)) ≡ Some seen
replacement_replaced rulings text terms number seen is =
    let more : List Replaced = map (replaced_in (open_by rulings))
    (filter (is_effective terms.effective) rulings.tariffs) in
    elim (slice_get rulings.replaced (number - 1)) as (λ (found : Option Replaced).
    slice_get rulings.replaced (number - 1) ≡ found → at_number number rulings found ≡ Some seen
    → at_number number (with_replaced text terms rulings)
    (slice_get (rulings.replaced ++ more) (number - 1)) ≡ Some seen) [
      | None ↦ λ e is. cc
      | Some replaced ↦ λ e is.
          let within = got_within rulings.replaced (number - 1) replaced e in
          ap (at_number number (with_replaced text terms rulings))
          (got_front rulings.replaced more (number - 1) replaced e)
          ∙ brought_replaced rulings text terms replaced.tariff.terms.effective number seen
          (omega arith) is
    ] refl is

-- a close more
close_stays : (period : ℕ) (closes : List ℤ) (day : ℤ) (seen : RulingSeen)
    → option_map (CloseSeen period) (close_of period closes) ≡ Some seen
    → option_map (CloseSeen period) (close_of period (closes ++ day ∷ [])) ≡ Some seen
close_stays period closes day seen is =
    elim (period == 0) as (λ b.
    option_map (CloseSeen period) (cond b None (slice_get closes (period - 1))) ≡ Some seen
    → option_map (CloseSeen period) (cond b None (slice_get (closes ++ day ∷ []) (period - 1)))
    ≡ Some seen) [
      | true ↦ λ is. is
      | false ↦ λ is. seen_front (CloseSeen period) closes (day ∷ []) (period - 1) seen is
    ] is

-- the adoption
adopted_stays : (adopted : Option ℕ) (period : ℕ) (seen : RulingSeen)
    → option_map AdoptionSeen adopted ≡ Some seen
    → option_map AdoptionSeen (Some (unwrap_or adopted period)) ≡ Some seen
adopted_stays None period seen is = cc
adopted_stays (Some first) period seen is = is

-- whatever comes
stays : (naming : Naming) (book : Book) (event : Event) (place : Place) (seen : RulingSeen)
    → ruling_at naming book.rulings place ≡ Some seen
    → ruling_at naming (after event book).rulings place ≡ Some seen
stays naming book (RecordKept bytes) place seen is = is
stays naming book (ImportBegun note) place seen is = is
stays naming book (ImportRead reading) place seen is = is
stays naming book (ImportEnded ending) place seen is = is
stays naming book (PeriodClosed said day) (TariffOf first) seen is = is
stays naming book (PeriodClosed said day) (ReplacementOf number) seen is = is
stays naming book (PeriodClosed said day) (CloseOf period) seen is =
    close_stays period book.rulings.closes day seen is
stays naming book (PeriodClosed said day) (ChoiceOf number) seen is = is
stays naming book (PeriodClosed said day) AdoptionOf seen is = is
stays naming book (PeriodClosed said day) (CreditOf number) seen is = is
stays naming book (RulingGiven said (TariffAccepted text terms)) (TariffOf first) seen is =
    brought_accepted book.rulings text terms first 0 seen is
stays naming book (RulingGiven said (TariffAccepted text terms)) (ReplacementOf number) seen is =
    replacement_accepted book.rulings text terms number seen
    (slice_get book.rulings.replaced (number - 1)) is
stays naming book (RulingGiven said (TariffAccepted text terms)) (CloseOf period) seen is = is
stays naming book (RulingGiven said (TariffAccepted text terms)) (ChoiceOf number) seen is = is
stays naming book (RulingGiven said (TariffAccepted text terms)) AdoptionOf seen is = is
stays naming book (RulingGiven said (TariffAccepted text terms)) (CreditOf number) seen is = is
stays naming book (RulingGiven said (TariffReplaced text terms)) (TariffOf first) seen is =
    brought_replaced book.rulings text terms first 0 seen (omega arith) is
stays naming book (RulingGiven said (TariffReplaced text terms)) (ReplacementOf number) seen is =
    replacement_replaced book.rulings text terms number seen is
stays naming book (RulingGiven said (TariffReplaced text terms)) (CloseOf period) seen is = is
stays naming book (RulingGiven said (TariffReplaced text terms)) (ChoiceOf number) seen is = is
stays naming book (RulingGiven said (TariffReplaced text terms)) AdoptionOf seen is = is
stays naming book (RulingGiven said (TariffReplaced text terms)) (CreditOf number) seen is = is
stays naming book (RulingGiven said (RecordChosen bytes)) (ChoiceOf number) seen is =
    seen_front (choice_seen naming number) book.rulings.choices
    (record { chosen = bytes; counts = true; period = open_by book.rulings } ∷ []) (number - 1) seen is
stays naming book (RulingGiven said (RecordChosen bytes)) (TariffOf first) seen is = is
stays naming book (RulingGiven said (RecordChosen bytes)) (ReplacementOf number) seen is = is
stays naming book (RulingGiven said (RecordChosen bytes)) (CloseOf period) seen is = is
stays naming book (RulingGiven said (RecordChosen bytes)) AdoptionOf seen is = is
stays naming book (RulingGiven said (RecordChosen bytes)) (CreditOf number) seen is = is
stays naming book (RulingGiven said (WorkWithheld bytes)) (ChoiceOf number) seen is =
    seen_front (choice_seen naming number) book.rulings.choices
    (record { chosen = bytes; counts = false; period = open_by book.rulings } ∷ []) (number - 1) seen is
stays naming book (RulingGiven said (WorkWithheld bytes)) (TariffOf first) seen is = is
stays naming book (RulingGiven said (WorkWithheld bytes)) (ReplacementOf number) seen is = is
stays naming book (RulingGiven said (WorkWithheld bytes)) (CloseOf period) seen is = is
stays naming book (RulingGiven said (WorkWithheld bytes)) AdoptionOf seen is = is
stays naming book (RulingGiven said (WorkWithheld bytes)) (CreditOf number) seen is = is
stays naming book (RulingGiven said SecondRuleAdopted) AdoptionOf seen is =
    adopted_stays book.rulings.adopted (open_by book.rulings) seen is
stays naming book (RulingGiven said SecondRuleAdopted) (TariffOf first) seen is = is
stays naming book (RulingGiven said SecondRuleAdopted) (ReplacementOf number) seen is = is
stays naming book (RulingGiven said SecondRuleAdopted) (CloseOf period) seen is = is
stays naming book (RulingGiven said SecondRuleAdopted) (ChoiceOf number) seen is = is
stays naming book (RulingGiven said SecondRuleAdopted) (CreditOf number) seen is = is
stays naming book (RulingGiven said (CreditGiven centre amount reason)) (CreditOf number) seen is =
    seen_front (credit_seen number) book.rulings.credits
    (record {
      centre = centre;
      amount = amount;
      reason = reason;
      period = open_by book.rulings;
    } ∷ []) (number - 1) seen is
stays naming book (RulingGiven said (CreditGiven centre amount reason)) (TariffOf first) seen is = is
stays naming book (RulingGiven said (CreditGiven centre amount reason)) (ReplacementOf number) seen
    is = is
stays naming book (RulingGiven said (CreditGiven centre amount reason)) (CloseOf period) seen is = is
stays naming book (RulingGiven said (CreditGiven centre amount reason)) (ChoiceOf number) seen is = is
stays naming book (RulingGiven said (CreditGiven centre amount reason)) AdoptionOf seen is = is

-- the newest of a list is found under the number of all
newest_at : {X : Type 0} (xs : List X) (last : X)
    → slice_get (xs ++ last ∷ []) (length xs + 1 - 1) ≡ Some last
newest_at xs last =
    let own : length xs + 1 - 1 ≡ length xs = omega arith in
    ap (slice_get (xs ++ last ∷ [])) own ∙ slice_get-behind xs last

-- the law
pub words_stay : WordsStay
words_stay = record {
  close = λ naming rulings day.
      let number : ℕ = length rulings.closes + 1 in
      ap (λ b. option_map (CloseSeen number)
      (cond b None (slice_get (rulings.closes ++ day ∷ []) (number - 1))))
      (ne_eqb number 0 (λ same. omega arith))
      ∙ ap (option_map (CloseSeen number)) (newest_at rulings.closes day);
  choice = λ naming rulings bytes.
      ap (option_map (choice_seen naming (length rulings.choices + 1)))
      (newest_at rulings.choices
      (record { chosen = bytes; counts = true; period = open_by rulings }));
  withheld = λ naming rulings bytes.
      ap (option_map (choice_seen naming (length rulings.choices + 1)))
      (newest_at rulings.choices
      (record { chosen = bytes; counts = false; period = open_by rulings }));
  credit = λ naming rulings centre amount reason.
      ap (option_map (credit_seen (length rulings.credits + 1)))
      (newest_at rulings.credits
      (record { centre = centre; amount = amount; reason = reason; period = open_by rulings }));
  stays = stays;
}
