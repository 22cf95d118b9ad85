-- The tariffs of a ledger come in turn: in the list of its rulings they stand before all others.
use Rattle.std.proofs.Common.{◌≡◌, ◌∙◌, ℕ, zero, suc, ℤ, List, [], ◌∷◌, ◌++◌, refl, ap}
use Rattle.std.proofs.Common.{Option, Some, None, Ok, Bool, true, false, if◌then◌else◌}
use Rattle.std.specs.Prelude.{option_map, slice_get, string_bytes}
use Rattle.std.specs.List.{cons_option}
use Rattle.book_model.specs.Words.{AcceptedTerms, Book, Choice, Naming, Outcome, RulingSeen}
use Rattle.book_model.specs.Words.{TariffSeen, adoption_seen, choices_seen, closes_seen, no_event}
use Rattle.book_model.specs.Words.{rulings_listed, tariffs_seen, ChoiceSeen, Credit, ReplacedSeen}
use Rattle.book_model.specs.Words.{Replaced, WithheldSeen, all_replaced_seen, credits_seen, name_of}
use Rattle.book_model.proofs.ListedLemmas.{in_turn}
use Rattle.book_lists.specs.declared.tariff_cursors.ListedTariff.{ListedTariff}
use Rattle.book_lists.specs.Cursors.{IsNext}

-- a tariff as a ruling of the list
abbrev pub tariff_shown : ListedTariff → RulingSeen
tariff_shown tariff = TariffSeen tariff.day (string_bytes tariff.text)

-- a ruling that was found, where it is a tariff
abbrev pub tariff_among : Option RulingSeen → Option RulingSeen
tariff_among (Some (TariffSeen day text)) = Some (TariffSeen day text)
tariff_among other = None

-- the tariff of a number, from 0, as a ledger is asked for it
abbrev pub tariff_outcome : Naming → ℕ → Book → Outcome (Option RulingSeen)
tariff_outcome naming count book =
    no_event (Ok (tariff_among (slice_get (rulings_listed naming book.rulings) count)))

-- each of these is a tariff
abbrev AreTariffs : List RulingSeen → Type 0
AreTariffs [] = Unit {0}
AreTariffs (ruling ∷ later) = (tariff_among (Some ruling) ≡ Some ruling) × AreTariffs later

are_tariffs : (tariffs : List AcceptedTerms) → AreTariffs (tariffs_seen tariffs)
are_tariffs [] = tt
are_tariffs (tariff ∷ later) = by tariff.text (are_tariffs later)
  where
    by : (text : Option (List ℕ)) → AreTariffs (tariffs_seen later)
        → AreTariffs (cons_option (option_map (TariffSeen tariff.terms.effective) text)
        (tariffs_seen later))
    by None are = are
    by (Some text) are = (refl, are)

-- none of these is one
abbrev HasNoTariffs : List RulingSeen → Type 0
HasNoTariffs [] = Unit {0}
HasNoTariffs (ruling ∷ later) = (tariff_among (Some ruling) ≡ None) × HasNoTariffs later

none_append : (some others : List RulingSeen) → HasNoTariffs some → HasNoTariffs others
    → HasNoTariffs (some ++ others)
none_append [] others none later = later
none_append (ruling ∷ some) others none later = (none.0, none_append some others none.1 later)

none_in_closes : (period : ℕ) (closes : List ℤ) → HasNoTariffs (closes_seen period closes)
none_in_closes period [] = tt
none_in_closes period (through ∷ later) = (refl, none_in_closes (suc period) later)

none_in_choices : (naming : Naming) (number : ℕ) (choices : List Choice)
    → HasNoTariffs (choices_seen naming number choices)
none_in_choices naming number [] = tt
none_in_choices naming number (choice ∷ later) =
    (by choice.counts, none_in_choices naming (suc number) later)
  where
    by : (counts : Bool)
        → tariff_among (Some (if counts then ChoiceSeen number choice.period
        (name_of naming choice.chosen)
        else WithheldSeen number choice.period (name_of naming choice.chosen))) ≡ None
    by true = refl
    by false = refl

none_in_adoption : (adopted : Option ℕ) → HasNoTariffs (adoption_seen adopted)
none_in_adoption None = tt
none_in_adoption (Some period) = (refl, tt)

none_in_replaced : (replaced : List Replaced) → HasNoTariffs (all_replaced_seen replaced)
none_in_replaced [] = tt
none_in_replaced (one ∷ later) = by one.tariff.text (none_in_replaced later)
  where
    by : (text : Option (List ℕ)) → HasNoTariffs (all_replaced_seen later)
        → HasNoTariffs (cons_option
        (option_map (ReplacedSeen one.tariff.terms.effective one.period) text)
        (all_replaced_seen later))
    by None none = none
    by (Some text) none = (refl, none)

none_in_credits : (number : ℕ) (credits : List Credit) → HasNoTariffs (credits_seen number credits)
none_in_credits number [] = tt
none_in_credits number (credit ∷ later) = (refl, none_in_credits (suc number) later)

none_at : (rulings : List RulingSeen) (count : ℕ) → HasNoTariffs rulings
    → tariff_among (slice_get rulings count) ≡ None
none_at [] count none = refl
none_at (ruling ∷ later) zero none = none.0
none_at (ruling ∷ later) (suc count) none = none_at later count none.1

-- so a tariff is found by its number where tariffs stand before all others
found_at : (tariffs rest : List RulingSeen) (count : ℕ) → AreTariffs tariffs → HasNoTariffs rest
    → tariff_among (slice_get (tariffs ++ rest) count) ≡ slice_get tariffs count
found_at [] rest count are none = none_at rest count none
found_at (tariff ∷ later) rest zero are none = are.0
found_at (tariff ∷ later) rest (suc count) are none = found_at later rest count are.1 none

-- they come in turn
pub tariffs_in_turn : (naming : Naming) (book : Book) (count : ℕ) (last : Option RulingSeen)
    → IsNext (Ok (tariffs_seen book.rulings.tariffs)) count last
    (tariff_outcome naming count book).answer
tariffs_in_turn naming book count last known =
    let rulings = book.rulings in
    let closes = closes_seen 1 rulings.closes in
    let choices = choices_seen naming 1 rulings.choices in
    let adoption = adoption_seen rulings.adopted in
    let replaced = all_replaced_seen rulings.replaced in
    let credits = credits_seen 1 rulings.credits in
    let last = none_append replaced credits (none_in_replaced rulings.replaced)
    (none_in_credits 1 rulings.credits) in
    let after = none_append adoption (replaced ++ credits) (none_in_adoption rulings.adopted) last in
    let none = none_append closes (choices ++ (adoption ++ (replaced ++ credits)))
    (none_in_closes 1 rulings.closes)
    (none_append choices (adoption ++ (replaced ++ credits))
    (none_in_choices naming 1 rulings.choices) after) in
    ap Ok
    (ap (λ all. tariff_among (slice_get all count)) (in_turn naming rulings)
    ∙ found_at (tariffs_seen rulings.tariffs)
    (closes ++ (choices ++ (adoption ++ (replaced ++ credits)))) count
    (are_tariffs rulings.tariffs) none)
