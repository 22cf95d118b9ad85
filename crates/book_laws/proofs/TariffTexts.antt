-- The text of a tariff that was accepted is found on its first day, whatever follows.
use Rattle.std.proofs.Common.{◌≡◌, ◌∙◌, ℕ, Bool, true, false, true≢false, List, [], ◌∷◌, ◌++◌}
use Rattle.std.proofs.Common.{Option, Some, None, Ok, ap, refl, ◌||◌, ℤ, if◌then◌else◌, slice_get}
use Rattle.std.proofs.Common.{filter_map, map, option_map, int_eq, cond, sym}
use Rattle.std.proofs.lemmas.Bool.Decides.{Decides-int_eq}
use Rattle.book_model.proofs.Std.{cons_option, list_any, filter_map-append}
use Rattle.book_model.specs.declared.answer.Ruled.TheVariants.{Done}
use Rattle.book_model.specs.Words.{AcceptedTerms, Book, Event, RulingGiven, TariffAccepted}
use Rattle.book_model.specs.Words.{TariffSeen, Terms, after, is_effective, tariff_seen}
use Rattle.book_model.specs.Words.{tariff_text_on, tariffs_seen, terms_answer, text_on, with_tariff}
use Rattle.book_model.specs.Words.{or_new, replace_answer, with_replaced, TariffReplaced}
use Rattle.book_model.proofs.Lemmas.{tariff_passes}
use Rattle.book_model.proofs.TestLemmas.{replace_passes}
use Rattle.book_laws.specs.TariffLaws.{ReplacesNone, TariffTextsStay}

-- what comes first stays first, whatever comes behind
first_stays : {X : Type 0} (front behind : List X) (x : X) → slice_get front 0 ≡ Some x
    → slice_get (front ++ behind) 0 ≡ Some x
first_stays [] behind x none = cc none
first_stays (first ∷ front) behind x is = is

module _ (day : ℤ) where
  -- the texts of tariffs that begin on the day
  abbrev texts : List AcceptedTerms → List (List ℕ)
  texts tariffs = filter_map (text_on day) (tariffs_seen tariffs)

  -- those of more tariffs come behind
  texts_behind : (tariffs more : List AcceptedTerms)
      → texts (tariffs ++ more) ≡ texts tariffs ++ texts more
  texts_behind tariffs more =
      ap (filter_map (text_on day)) (filter_map-append tariff_seen tariffs more)
      ∙ filter_map-append (text_on day) (tariffs_seen tariffs) (tariffs_seen more)

  -- a tariff that begins on another day adds none
  passed : (tariff : AcceptedTerms) (tariffs : List AcceptedTerms)
      → int_eq day tariff.terms.effective ≡ false → texts (tariff ∷ tariffs) ≡ texts tariffs
  passed tariff tariffs apart =
      elim tariff.text as (λ text. filter_map (text_on day)
      (cons_option (option_map (TariffSeen tariff.terms.effective) text) (tariffs_seen tariffs))
      ≡ texts tariffs) [
        | None ↦ refl
        | Some own ↦
            ap (λ same. cons_option (if same then Some own else None) (texts tariffs)) apart
      ]

  -- one tariff before others that have the same
  joined : (tariff : AcceptedTerms) (one other : List AcceptedTerms) → texts one ≡ texts other
      → texts (tariff ∷ one) ≡ texts (tariff ∷ other)
  joined tariff one other same =
      elim tariff.text as (λ text. filter_map (text_on day)
      (cons_option (option_map (TariffSeen tariff.terms.effective) text) (tariffs_seen one))
      ≡ filter_map (text_on day)
      (cons_option (option_map (TariffSeen tariff.terms.effective) text) (tariffs_seen other))) [
        | None ↦ same
        | Some own ↦
            ap (λ rest. cons_option (if int_eq day tariff.terms.effective then Some own else None)
            rest) same
      ]

  -- where none begins on it, there are none
  no_texts : (tariffs : List AcceptedTerms) → list_any (is_effective day) tariffs ≡ false
      → texts tariffs ≡ []
  no_texts [] none = refl
  no_texts (tariff ∷ tariffs) none =
      by tariff.text (int_eq day tariff.terms.effective) refl (no_texts tariffs) none
    where
      by : (text : Option (List ℕ)) (same : Bool) → int_eq day tariff.terms.effective ≡ same
          → (list_any (is_effective day) tariffs ≡ false → texts tariffs ≡ [])
          → (same || list_any (is_effective day) tariffs) ≡ false
          → filter_map (text_on day) (cons_option (option_map (TariffSeen tariff.terms.effective) text)
          (tariffs_seen tariffs)) ≡ []
      by text true is rest never = absurd (true≢false never)
      by None false is rest none = rest none
      by (Some text) false is rest none =
          ap (λ same. cons_option (if same then Some text else None) (texts tariffs)) is ∙ rest none

-- so a tariff whose day is new has its own text there
accepted : (book : Book) (text : List ℕ) (terms : Terms) → terms_answer book text terms ≡ Ok Done
    → tariff_text_on terms.effective (with_tariff (Some text) terms book.rulings) ≡ Some text
accepted book text terms done =
    let day : ℤ = terms.effective in
    let own : AcceptedTerms = record { text = Some text; terms = terms } in
    let none = no_texts day book.rulings.tariffs (tariff_passes book text terms done).free in
    ap (λ all. slice_get all 0)
    (texts_behind day book.rulings.tariffs (own ∷ [])
    ∙ (λ i. none i ++ cons_option (if (Decides-int_eq day day).1 refl i then Some text else None) []))

-- a text that takes the place of a tariff has its own text there
found_first : (new : AcceptedTerms) (text : List ℕ) → new.text ≡ Some text
    → (tariffs : List AcceptedTerms) → list_any (is_effective new.terms.effective) tariffs ≡ true
    → slice_get (texts new.terms.effective (map (or_new new) tariffs)) 0 ≡ Some text
found_first new text is [] some = absurd (true≢false (sym some))
found_first new text is (tariff ∷ tariffs) some =
    let day : ℤ = new.terms.effective in
    elim (is_effective day tariff) as (λ b. is_effective day tariff ≡ b
    → (b || list_any (is_effective day) tariffs) ≡ true
    → slice_get (texts day (cond b new tariff ∷ map (or_new new) tariffs)) 0 ≡ Some text) [
      | true ↦ λ same some.
          ap (λ own. slice_get (filter_map (text_on day) (cons_option
          (option_map (TariffSeen day) own) (tariffs_seen (map (or_new new) tariffs)))) 0) is
          ∙ ap (λ b. slice_get (cons_option (if b then Some text else None)
          (texts day (map (or_new new) tariffs))) 0)
          ((Decides-int_eq day day).1 refl)
      | false ↦ λ apart some.
          ap (λ all. slice_get all 0) (passed day tariff (map (or_new new) tariffs) apart)
          ∙ found_first new text is tariffs some
    ] refl some

replaced : (book : Book) (text : List ℕ) (terms : Terms) → replace_answer book text terms ≡ Ok Done
    → tariff_text_on terms.effective (with_replaced text terms book.rulings) ≡ Some text
replaced book text terms done =
    found_first (record { text = Some text; terms = terms }) text refl book.rulings.tariffs
    (replace_passes book text terms done).found

-- one of another day leaves the texts of a day
others : (new : AcceptedTerms) (day : ℤ) → int_eq day new.terms.effective ≡ false
    → (tariffs : List AcceptedTerms) → texts day (map (or_new new) tariffs) ≡ texts day tariffs
others new day apart [] = refl
others new day apart (tariff ∷ tariffs) =
    let rest = others new day apart tariffs in
    elim (is_effective new.terms.effective tariff) as (λ b.
    is_effective new.terms.effective tariff ≡ b
    → texts day (cond b new tariff ∷ map (or_new new) tariffs) ≡ texts day (tariff ∷ tariffs)) [
      | true ↦ λ same.
          let at = (Decides-int_eq new.terms.effective tariff.terms.effective).0 same in
          passed day new (map (or_new new) tariffs) apart
          ∙ rest
          ∙ sym (passed day tariff tariffs (ap (int_eq day) (sym at) ∙ apart))
      | false ↦ λ other. joined day tariff (map (or_new new) tariffs) tariffs rest
    ] refl

-- and any other event leaves it
stays : (book : Book) (event : Event) (day : ℤ) (text : List ℕ) → ReplacesNone day event
    → tariff_text_on day book.rulings ≡ Some text
    → tariff_text_on day (after event book).rulings ≡ Some text
stays book (RulingGiven said (TariffReplaced other terms)) day text none is =
    ap (λ all. slice_get all 0)
    (others (record { text = Some other; terms = terms }) day none book.rulings.tariffs) ∙ is
stays book (RulingGiven said (TariffAccepted other terms)) day text none is =
    let more : AcceptedTerms = record { text = other; terms = terms } in
    ap (λ all. slice_get all 0) (texts_behind day book.rulings.tariffs (more ∷ []))
    ∙ first_stays (texts day book.rulings.tariffs) (texts day (more ∷ [])) text is
stays book event day text none is = is

-- the law
pub tariff_texts_stay : TariffTextsStay
tariff_texts_stay = record { accepted = accepted; replaced = replaced; stays = stays }
