-- The words of the journal's tariffs are those that were given.
use Rattle.std.proofs.Common.{◌≡◌, ℕ, suc, ◌+◌, ◌-◌, Bool, true, false, ◌||◌, cond, List, [], ◌∷◌}
use Rattle.std.proofs.Common.{◌++◌, length, map, filter, drop, slice_get, refl, sym, ap, ◌∙◌}
use Rattle.std.proofs.Common.{Option, Some, option_and_then, arith, true≢false, ℤ, int_lt}
use Rattle.std.proofs.lemmas.Bool.Decides.{Decides-int_eq}
use Rattle.std.specs.Ordering.{int_eq}
use Rattle.book_model.proofs.Std.{false_from_ne_true, filter-append, ints, list_all, list_any}
use Rattle.book_model.proofs.Std.{map-append}
use Rattle.book_model.specs.Words.{AcceptedTerms, Event, IsMadeByCalls, Naming, Note, PeriodClosed}
use Rattle.book_model.specs.Words.{ImportBegun, ImportEnded, ImportRead, RecordChosen, RecordKept}
use Rattle.book_model.specs.Words.{Replaced, RulingGiven, Rulings, SecondRuleAdopted}
use Rattle.book_model.specs.Words.{TariffAccepted}
use Rattle.book_model.specs.Words.{CreditGiven, TariffReplaced, Terms, WorkWithheld, are_rising}
use Rattle.book_model.specs.Words.{book_after, is_effective, open_by, or_new, replaced_in, rulings}
use Rattle.book_model.specs.Words.{tariff_seen, with_replaced, with_tariff}
use Rattle.book_model.specs.JournalLaws.{TariffWordsAreGiven}
use Rattle.book_model.specs.JournalLists.{tariff_brought}
use Rattle.book_model.proofs.ListLemmas.{slice_get-behind}
use Rattle.book_model.proofs.MadeByCallsLemmas.{latest_is_last, rulings_are}
use Rattle.book_model.proofs.RecordSets.{first_of, second_of}
use Rattle.book_model.proofs.ReplacedLemmas.{same_day}
use Rattle.book_model.proofs.TestLemmas.{replace_passes, tariff_passes}
use Rattle.book_model.proofs.WordLemmas.{again, its_tariff}

-- where no tariff begins on a day
none_there : (day : ℤ) (tariffs : List AcceptedTerms)
    → list_any (is_effective day) tariffs ≡ false → filter (is_effective day) tariffs ≡ []
none_there day [] none = refl
none_there day (tariff ∷ tariffs) none =
    elim (is_effective day tariff) as (λ b. (b || list_any (is_effective day) tariffs) ≡ false
    → cond b (tariff ∷ filter (is_effective day) tariffs) (filter (is_effective day) tariffs) ≡ []) [
      | true ↦ λ none. absurd (true≢false none)
      | false ↦ λ none. none_there day tariffs none
    ] none

-- a list with something in it is not empty
something : {X : Type 0} (x : X) (xs : List X) → x ∷ xs ≡ [] → ⊥
something x xs same = cc

-- none of some where there is none of all
none_of_some : (day : ℤ) (keep : AcceptedTerms → Bool) (tariffs : List AcceptedTerms)
    → filter (is_effective day) tariffs ≡ [] → filter (is_effective day) (filter keep tariffs) ≡ []
none_of_some day keep [] none = refl
none_of_some day keep (tariff ∷ tariffs) none =
    elim (is_effective day tariff) as (λ b. is_effective day tariff ≡ b
    → cond b (tariff ∷ filter (is_effective day) tariffs) (filter (is_effective day) tariffs) ≡ []
    → filter (is_effective day) (cond (keep tariff) (tariff ∷ filter keep tariffs)
    (filter keep tariffs)) ≡ []) [
      | true ↦ λ e none. absurd (something tariff (filter (is_effective day) tariffs) none)
      | false ↦ λ e none.
          elim (keep tariff) as (λ k. filter (is_effective day) (cond k (tariff ∷ filter keep tariffs)
          (filter keep tariffs)) ≡ []) [
            | true ↦
                ap (λ b. cond b (tariff ∷ filter (is_effective day) (filter keep tariffs))
                (filter (is_effective day) (filter keep tariffs))) e
                ∙ none_of_some day keep tariffs none
            | false ↦ none_of_some day keep tariffs none
          ]
    ] refl none

-- and none before tariffs took the places of others
none_before : (day : ℤ) (new : AcceptedTerms) (tariffs : List AcceptedTerms)
    → filter (is_effective day) (map (or_new new) tariffs) ≡ []
    → filter (is_effective day) tariffs ≡ []
none_before day new [] none = refl
none_before day new (tariff ∷ tariffs) none =
    let same : is_effective day (or_new new tariff) ≡ is_effective day tariff =
    ap (int_eq day) (same_day new tariff) in
    let now : List AcceptedTerms = filter (is_effective day) (map (or_new new) tariffs) in
    elim (is_effective day tariff) as (λ b. is_effective day tariff ≡ b
    → cond b (tariff ∷ filter (is_effective day) tariffs) (filter (is_effective day) tariffs) ≡ []) [
      | true ↦ λ e.
          absurd (something (or_new new tariff) now
          (sym (ap (λ b. cond b (or_new new tariff ∷ now) now) (same ∙ e)) ∙ none))
      | false ↦ λ e.
          none_before day new tariffs
          (sym (ap (λ b. cond b (or_new new tariff ∷ now) now) (same ∙ e)) ∙ none)
    ] refl

-- the first of two lists is empty where both are
first_empty : {X : Type 0} (xs ys : List X) → xs ++ ys ≡ [] → xs ≡ []
first_empty [] ys none = refl
first_empty (x ∷ xs) ys none = absurd (something x (xs ++ ys) none)

-- so a day without a tariff has had none
abbrev Covered : Rulings → Type 0
Covered ruled =
    (day : ℤ) → filter (is_effective day) ruled.tariffs ≡ []
    → filter (is_effective day) (map its_tariff ruled.replaced) ≡ []

covered_accepted : (ruled : Rulings) (text : Option (List ℕ)) (terms : Terms) → Covered ruled
    → Covered (with_tariff text terms ruled)
covered_accepted ruled text terms was day none =
    was day (first_empty (filter (is_effective day) ruled.tariffs)
    (filter (is_effective day) (record { text = text; terms = terms } ∷ []))
    (sym (filter-append (is_effective day) ruled.tariffs (record { text = text; terms = terms } ∷ []))
    ∙ none))

covered_replaced : (ruled : Rulings) (text : List ℕ) (terms : Terms) → Covered ruled
    → Covered (with_replaced text terms ruled)
covered_replaced ruled text terms was day none =
    let new : AcceptedTerms = record { text = Some text; terms = terms } in
    let gone : List AcceptedTerms = filter (is_effective terms.effective) ruled.tariffs in
    let more : List Replaced = map (replaced_in (open_by ruled)) gone in
    let before = none_before day new ruled.tariffs none in
    let first = was day before in
    let rest = none_of_some day (is_effective terms.effective) ruled.tariffs before in
    ap (filter (is_effective day)) (map-append its_tariff ruled.replaced more
    ∙ ap (λ list. map its_tariff ruled.replaced ++ list) (again (open_by ruled) gone))
    ∙ filter-append (is_effective day) (map its_tariff ruled.replaced) gone
    ∙ (λ i. first i ++ rest i)

covered : (history : List Event) → Covered (rulings history)
covered [] day none = refl
covered (RecordKept bytes ∷ older) day none = covered older day none
covered (PeriodClosed said through ∷ older) day none = covered older day none
covered (ImportBegun note ∷ older) day none = covered older day none
covered (ImportRead reading ∷ older) day none = covered older day none
covered (ImportEnded ending ∷ older) day none = covered older day none
covered (RulingGiven said (TariffAccepted text terms) ∷ older) day none =
    covered_accepted (rulings older) text terms (covered older) day none
covered (RulingGiven said (TariffReplaced text terms) ∷ older) day none =
    covered_replaced (rulings older) text terms (covered older) day none
covered (RulingGiven said (RecordChosen bytes) ∷ older) day none = covered older day none
covered (RulingGiven said (WorkWithheld bytes) ∷ older) day none = covered older day none
covered (RulingGiven said SecondRuleAdopted ∷ older) day none = covered older day none
covered (RulingGiven said (CreditGiven centre amount reason) ∷ older) day none =
    covered older day none

-- the first tariff of a day
itself : (day : ℤ) → int_eq day day ≡ true
itself day = (Decides-int_eq day day).1 refl

first : (naming : Naming) (history : List Event) (said : Option Note) (text : List ℕ) (terms : Terms)
    → IsMadeByCalls naming (RulingGiven said (TariffAccepted (Some text) terms) ∷ history)
    → tariff_brought terms.effective 0 (with_tariff (Some text) terms (rulings history))
    ≡ tariff_seen (record { text = Some text; terms = terms })
first naming history said text terms made =
    let ruled : Rulings = rulings history in
    let day : ℤ = terms.effective in
    let new : AcceptedTerms = record { text = Some text; terms = terms } in
    let free = (tariff_passes (book_after history) text terms made.0).free in
    let none : filter (is_effective day) ruled.tariffs ≡ [] =
    none_there day ruled.tariffs
    (ap (λ (ruled : Rulings). list_any (is_effective day) ruled.tariffs) (sym (rulings_are history))
    ∙ free) in
    let gone = covered history day none in
    let own : filter (is_effective day) (new ∷ []) ≡ new ∷ [] =
    ap (λ b. cond b (new ∷ []) []) (itself day) in
    ap (λ list. option_and_then tariff_seen (slice_get list 0))
    (filter-append (is_effective day) (map its_tariff ruled.replaced) (ruled.tariffs ++ new ∷ [])
    ∙ ap (λ list. list ++ filter (is_effective day) (ruled.tariffs ++ new ∷ [])) gone
    ∙ filter-append (is_effective day) ruled.tariffs (new ∷ [])
    ∙ (λ i. none i ++ own i))

-- tariffs that begin later than a day do not begin on it
none_later : (day : ℤ) (tariff : AcceptedTerms) (tariffs : List AcceptedTerms)
    → is_effective day tariff ≡ true
    → list_all (λ later. int_lt tariff.terms.effective later.terms.effective) tariffs ≡ true
    → filter (is_effective day) tariffs ≡ []
none_later day tariff [] same all = refl
none_later day tariff (later ∷ tariffs) same all =
    let rest = list_all (λ other. int_lt tariff.terms.effective other.terms.effective) tariffs in
    let after = first_of (int_lt tariff.terms.effective later.terms.effective) rest all in
    let at = (Decides-int_eq day tariff.terms.effective).0 same in
    let apart : is_effective day later ≡ false =
    false_from_ne_true (is_effective day later) (λ too.
    let also = (Decides-int_eq day later.terms.effective).0 too in
    grind (arith, ints, after, at, also)) in
    ap (λ b. cond b (later ∷ filter (is_effective day) tariffs) (filter (is_effective day) tariffs))
    apart
    ∙ none_later day tariff tariffs same
    (second_of (int_lt tariff.terms.effective later.terms.effective) rest all)

-- of rising tariffs one begins on a day on which some do, and the new one takes its place
one_there : (new : AcceptedTerms) (tariffs : List AcceptedTerms) → are_rising tariffs ≡ true
    → list_any (is_effective new.terms.effective) tariffs ≡ true
    → (one : AcceptedTerms)
    × (filter (is_effective new.terms.effective) tariffs ≡ one ∷ [])
    × (filter (is_effective new.terms.effective) (map (or_new new) tariffs) ≡ new ∷ [])
    × (new.terms.effective ≡ one.terms.effective)
one_there new [] rise some = absurd (true≢false (sym some))
one_there new (tariff ∷ tariffs) rise some =
    let day : ℤ = new.terms.effective in
    let own = list_all (λ later. int_lt tariff.terms.effective later.terms.effective) tariffs in
    let now : List AcceptedTerms = filter (is_effective day) (map (or_new new) tariffs) in
    elim (is_effective day tariff) as (λ b. is_effective day tariff ≡ b
    → (b || list_any (is_effective day) tariffs) ≡ true
    → (one : AcceptedTerms)
    × (cond b (tariff ∷ filter (is_effective day) tariffs) (filter (is_effective day) tariffs)
    ≡ one ∷ [])
    × (cond (is_effective day (cond b new tariff)) (cond b new tariff ∷ now) now ≡ new ∷ [])
    × (day ≡ one.terms.effective)) [
      | true ↦ λ same some.
          let none = none_later day tariff tariffs same (first_of own (are_rising tariffs) rise) in (
            tariff,
            ap (λ rest. tariff ∷ rest) none,
            ap (λ b. cond b (new ∷ now) now) (itself day)
                ∙ ap (λ rest. new ∷ rest) (none_now new tariffs none),
            (Decides-int_eq day tariff.terms.effective).0 same,
          )
      | false ↦ λ apart some.
          let rest = one_there new tariffs (second_of own (are_rising tariffs) rise) some in (
            rest.0,
            rest.1,
            ap (λ b. cond b (tariff ∷ now) now) apart ∙ rest.2,
            rest.3,
          )
    ] refl some
  where
    none_now : (new : AcceptedTerms) (tariffs : List AcceptedTerms)
        → filter (is_effective new.terms.effective) tariffs ≡ []
        → filter (is_effective new.terms.effective) (map (or_new new) tariffs) ≡ []
    none_now new [] none = refl
    none_now new (tariff ∷ tariffs) none =
        let day : ℤ = new.terms.effective in
        let now : List AcceptedTerms = filter (is_effective day) (map (or_new new) tariffs) in
        elim (is_effective day tariff) as (λ b. is_effective day tariff ≡ b
        → cond b (tariff ∷ filter (is_effective day) tariffs) (filter (is_effective day) tariffs) ≡ []
        → cond (is_effective day (cond b new tariff)) (cond b new tariff ∷ now) now ≡ []) [
          | true ↦ λ e none. absurd (something tariff (filter (is_effective day) tariffs) none)
          | false ↦ λ e none. ap (λ b. cond b (tariff ∷ now) now) e ∙ none_now new tariffs none
        ] refl none

-- all of a list is past it
drop_all : {X : Type 0} (list : List X) (last : X) → drop (length list + 1) (list ++ last ∷ []) ≡ []
drop_all [] last = refl
drop_all (x ∷ list) last =
    let same : length (x ∷ list) + 1 ≡ suc (length list + 1) = omega arith in
    ap (λ n. drop n (x ∷ (list ++ last ∷ []))) same ∙ drop_all list last

later : (naming : Naming) (history : List Event) (said : Option Note) (text : List ℕ) (terms : Terms)
    → IsMadeByCalls naming (RulingGiven said (TariffReplaced text terms) ∷ history)
    → option_and_then
    (λ (replaced : Replaced). tariff_brought replaced.tariff.terms.effective
    (length (rulings history).replaced + 1) (with_replaced text terms (rulings history)))
    (slice_get (with_replaced text terms (rulings history)).replaced
    (length (rulings history).replaced + 1 - 1))
    ≡ tariff_seen (record { text = Some text; terms = terms })
later naming history said text terms made =
    let ruled : Rulings = rulings history in
    let day : ℤ = terms.effective in
    let new : AcceptedTerms = record { text = Some text; terms = terms } in
    let number : ℕ = length ruled.replaced + 1 in
    let found = (replace_passes (book_after history) text terms made.0).found in
    let there : list_any (is_effective day) ruled.tariffs ≡ true =
    ap (λ (ruled : Rulings). list_any (is_effective day) ruled.tariffs) (sym (rulings_are history))
    ∙ found in
    let one = one_there new ruled.tariffs (latest_is_last.rising naming history made.1) there in
    let last : Replaced = replaced_in (open_by ruled) one.0 in
    let all : (with_replaced text terms ruled).replaced ≡ ruled.replaced ++ last ∷ [] =
    ap (λ gone. ruled.replaced ++ map (replaced_in (open_by ruled)) gone) one.1 in
    let place : number - 1 ≡ length ruled.replaced = omega arith in
    let own : slice_get (with_replaced text terms ruled).replaced (number - 1) ≡ Some last =
    (λ i. slice_get (all i) (place i)) ∙ slice_get-behind ruled.replaced last in
    let brought : Replaced → Option _ = λ replaced.
    tariff_brought replaced.tariff.terms.effective number (with_replaced text terms ruled) in
    ap (option_and_then brought) own
    ∙ ap (λ at. tariff_brought at number (with_replaced text terms ruled)) (sym one.3)
    ∙ ap (λ list. option_and_then tariff_seen (slice_get (filter (is_effective day)
    (map its_tariff list ++ map (or_new new) ruled.tariffs)) 0))
    (ap (drop number) all ∙ drop_all ruled.replaced last)
    ∙ ap (λ list. option_and_then tariff_seen (slice_get list 0)) one.2

-- the law
pub tariff_words_are_given : TariffWordsAreGiven
tariff_words_are_given = record {
  first = λ naming history said text terms made. first naming history said text terms made;
  later = λ naming history said text terms made. later naming history said text terms made;
}
