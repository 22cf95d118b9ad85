-- Which centres there are in a period, and what is answered of one that is not.
use Rattle.std.specs.Prelude.{◌≡◌, ℕ, Bool, true, false, ◌||◌, if◌then◌else◌, List, Option, Some, None}
use Rattle.std.specs.Prelude.{Result, Ok, Err, All}
use Rattle.book_model.specs.Std.{list_any, option_map_or, result_ok}
use Rattle.smf_type30.specs.Usage.{day_of}
use Rattle.tariff_rules.specs.Price.{has_centre, unassigned}
use Rattle.tariff_rules.specs.TariffFile.{terms_in}
use Rattle.tariff_rules.specs.Terms.{Terms}
use Rattle.tariff_rules.specs.declared.priced.Priced.{Priced}
use Rattle.book_model.specs.declared.fault.LedgerFault.{LedgerFault}
use Rattle.book_model.specs.declared.fault.LedgerFault.TheVariants.{NoSuchCentre}
use Rattle.book_model.specs.Records.{same_bytes}
use Rattle.book_model.specs.CloseDays.{is_through}
use Rattle.book_model.specs.Rulings.{AcceptedTerms, Rulings, price_in}
use Rattle.book_model.specs.RulingAnswers.{is_known_centre, through_of}
use Rattle.book_model.specs.RulingLists.{RulingSeen, TariffSeen, tariffs_seen}
use Rattle.book_model.specs.Bills.{tariffs_through}

-- the text of a tariff has a rule for the centre
abbrev pub text_names : List ℕ → List ℕ → Bool
text_names centre text =
    option_map_or (λ (terms : Terms). has_centre centre terms.centres) (result_ok (terms_in text)) false

-- a ruling of the list is such a tariff
abbrev pub names_centre : List ℕ → RulingSeen → Bool
names_centre centre (TariffSeen day text) = text_names centre text
names_centre centre other = false

-- the tariffs that begin no later than the last day of a period; all of them while it is open
abbrev pub begun_in : ℕ → Rulings → List RulingSeen
begun_in number rulings =
    tariffs_through (through_of number rulings) (tariffs_seen rulings.tariffs)

-- a centre is one that some of the tariffs has a rule for, or that of work which no rule applies to
abbrev pub is_centre : List RulingSeen → List ℕ → Bool
is_centre tariffs centre = same_bytes unassigned centre || list_any (names_centre centre) tariffs

-- what is answered of a centre that is named: of one that is not there, that it is not
abbrev pub of_centre : {A : Type 0} → List RulingSeen → Option (List ℕ) → Result A LedgerFault
    → Result A LedgerFault
of_centre tariffs None answer = answer
of_centre tariffs (Some centre) answer =
    if is_centre tariffs centre then answer else Err NoSuchCentre

-- a tariff came as a text, which says its terms
pub record SaysTerms (tariff : AcceptedTerms) : Type 0 where
  pub text : List ℕ
  pub is : tariff.text ≡ Some text
  pub said : terms_in text ≡ Ok tariff.terms

-- Where each tariff did, the centre of whatever has a price is there in each period that ends no earlier:
-- rows and lines, which are made of prices, have no other.
abbrev pub PricedCentresAreThere : Type 0
PricedCentresAreThere =
    (rulings : Rulings) (bytes : List ℕ) (priced : Priced) (number : ℕ)
    → All SaysTerms rulings.tariffs
    → price_in rulings bytes ≡ Some priced
    → is_through (through_of number rulings) (day_of bytes) ≡ true
    → is_centre (begun_in number rulings) priced.centre ≡ true

-- There, too, a centre that may be credited is one that is there in the open period, whose tariffs are all.
abbrev pub KnownCentresAgree : Type 0
KnownCentresAgree =
    (rulings : Rulings) (centre : List ℕ) → All SaysTerms rulings.tariffs
    → is_known_centre rulings centre ≡ is_centre (tariffs_seen rulings.tariffs) centre
