-- What the office ruled: its tariffs, and which of them it replaced; its closes; its choices among
-- the records of one work, or that none of them counts; its rule of identity; and its credits. What a
-- record costs by them, and which work it measures.
use Rattle.std.specs.Prelude.{ℕ, suc, ◌+◌, nat_le, Bool, true, false, not, ◌&&◌, if◌then◌else◌, List}
use Rattle.std.specs.Prelude.{[], ◌∷◌, ◌++◌, filter, map, length, take, Option, Some, None}
use Rattle.std.specs.Prelude.{unwrap_or, ℤ, int_lt, option_map, option_and_then, filter_map}
use Rattle.book_model.specs.Std.{int_eq, option_map_or, last_or, list_all}
use Rattle.tariff_rules.specs.Terms.{Terms}
use Rattle.tariff_rules.specs.Price.{price_by}
use Rattle.tariff_rules.specs.declared.priced.Priced.{Priced}
use Rattle.smf_type30.specs.Usage.{identity_of, identity2_of, day_of}
use Rattle.book_model.specs.Sets.{members}
use Rattle.book_model.specs.Records.{Records}

-- A tariff that the office accepted. The one that a ledger began with has no text.
pub record AcceptedTerms : Type 0 where
  pub text : Option (List ℕ)
  pub terms : Terms

-- A ruling that closes no period: a tariff comes into force, with its text where it came as one; a
-- text takes the place of the tariff that begins on its first day; a record is chosen; the work of a
-- record is withheld; the second rule of identity is adopted; a centre is credited with an amount, in
-- ten-thousandths of the money unit, for a reason.
pub data Ruling : Type 0 where
  TariffAccepted : Option (List ℕ) → Terms → Ruling
  TariffReplaced : List ℕ → Terms → Ruling
  RecordChosen : List ℕ → Ruling
  WorkWithheld : List ℕ → Ruling
  SecondRuleAdopted : Ruling
  CreditGiven : List ℕ → ℤ → List ℕ → Ruling

-- A record that an operator named among those of its identity, whether it counts from then on or none
-- of them does, and the period that was open then.
pub record Choice : Type 0 where
  pub chosen : List ℕ
  pub counts : Bool
  pub period : ℕ

-- A tariff that another text took the place of, and the period that was open then.
pub record Replaced : Type 0 where
  pub tariff : AcceptedTerms
  pub period : ℕ

-- A credit, and the period that was open then: a positive amount lowers what the centre owes.
pub record Credit : Type 0 where
  pub centre : List ℕ
  pub amount : ℤ
  pub reason : List ℕ
  pub period : ℕ

-- The tariffs that are in force and those that were replaced, the days of the closes, the choices and
-- the credits, each in the order in which they came; and the period that was open when the second
-- rule of identity was adopted, if it was.
pub record Rulings : Type 0 where
  pub tariffs : List AcceptedTerms
  pub closes : List ℤ
  pub choices : List Choice
  pub adopted : Option ℕ
  pub replaced : List Replaced
  pub credits : List Credit

-- nothing was ruled: the first rule of identity is in force
abbrev pub no_rulings : Rulings
no_rulings = record {
  tariffs = [];
  closes = [];
  choices = [];
  adopted = None;
  replaced = [];
  credits = [];
}

-- the number of the period that is open by them
abbrev pub open_by : Rulings → ℕ
open_by rulings = length rulings.closes + 1

-- the rulings with one more tariff
abbrev pub with_tariff : Option (List ℕ) → Terms → Rulings → Rulings
with_tariff text terms rulings =
    record rulings { tariffs = rulings.tariffs ++ record { text = text; terms = terms } ∷ [] }

-- the rulings with one more close
abbrev pub with_close : ℤ → Rulings → Rulings
with_close day rulings = record rulings { closes = rulings.closes ++ day ∷ [] }

-- the rulings with one more choice, which says that the record counts, or that none of its work does
abbrev pub with_named : Bool → List ℕ → Rulings → Rulings
with_named counts bytes rulings = record rulings {
  choices = rulings.choices
      ++ record { chosen = bytes; counts = counts; period = open_by rulings } ∷ [];
}

abbrev pub with_choice : List ℕ → Rulings → Rulings
with_choice bytes rulings = with_named true bytes rulings

abbrev pub with_withheld : List ℕ → Rulings → Rulings
with_withheld bytes rulings = with_named false bytes rulings

-- The rulings with the second rule of identity. It is adopted once: a period in which it was
-- adopted stays.
abbrev pub with_second_rule : Rulings → Rulings
with_second_rule rulings =
    record rulings { adopted = Some (unwrap_or rulings.adopted (open_by rulings)) }

-- the tariff begins on the day
abbrev pub is_effective : ℤ → AcceptedTerms → Bool
is_effective day tariff = int_eq day tariff.terms.effective

-- a tariff, or, where it begins on the day of the new one, the new one
abbrev pub or_new : AcceptedTerms → AcceptedTerms → AcceptedTerms
or_new new tariff = if is_effective new.terms.effective tariff then new else tariff

-- a tariff that is replaced, with the period
abbrev pub replaced_in : ℕ → AcceptedTerms → Replaced
replaced_in period tariff = record { tariff = tariff; period = period }

-- The rulings with a text in the place of the tariff that begins on its first day. What it replaces is
-- kept beside the tariffs that are in force.
abbrev pub with_replaced : List ℕ → Terms → Rulings → Rulings
with_replaced text terms rulings = record rulings {
  tariffs = map (or_new (record { text = Some text; terms = terms })) rulings.tariffs;
  replaced = rulings.replaced
      ++ map (replaced_in (open_by rulings))
      (filter (is_effective terms.effective) rulings.tariffs);
}

-- the rulings with one more credit
abbrev pub with_credit : List ℕ → ℤ → List ℕ → Rulings → Rulings
with_credit centre amount reason rulings = record rulings {
  credits = rulings.credits
      ++ record {
        centre = centre;
        amount = amount;
        reason = reason;
        period = open_by rulings;
      } ∷ [];
}

-- what a ruling that closes no period makes of them,
abbrev pub ruled_more : Ruling → Rulings → Rulings
ruled_more (TariffAccepted text terms) rulings = with_tariff text terms rulings
ruled_more (TariffReplaced text terms) rulings = with_replaced text terms rulings
ruled_more (RecordChosen bytes) rulings = with_choice bytes rulings
ruled_more (WorkWithheld bytes) rulings = with_withheld bytes rulings
ruled_more SecondRuleAdopted rulings = with_second_rule rulings
ruled_more (CreditGiven centre amount reason) rulings = with_credit centre amount reason rulings

-- whichever it is: the closes stay
abbrev pub with_ruling : Ruling → Rulings → Rulings
with_ruling ruling rulings = record (ruled_more ruling rulings) { closes = rulings.closes }

-- a period, where it was open before the close that came after the given number of others
abbrev pub if_before : ℕ → ℕ → Option ℕ
if_before others period = if nat_le period (suc others) then Some period else None

-- The rulings before the close that came after the given number of others, as far as they say what is
-- charged: what was ruled while a period was open is before the close of that period. A tariff that
-- came later stays among them: it changes no price of a record that is dated no later than that close.
-- So do the credits, which charge no record.
abbrev pub rulings_before : ℕ → Rulings → Rulings
rulings_before others rulings = record rulings {
  closes = take others rulings.closes;
  choices = filter (λ choice. nat_le choice.period (suc others)) rulings.choices;
  adopted = option_and_then (if_before others) rulings.adopted;
}

-- of two tariffs, the one with the later first day
abbrev pub later_of : AcceptedTerms → AcceptedTerms → AcceptedTerms
later_of one other = if int_lt one.terms.effective other.terms.effective then other else one

-- of some tariffs, the one with the latest first day
abbrev pub latest : List AcceptedTerms → Option AcceptedTerms
latest [] = None
latest (tariff ∷ others) = Some (option_map_or (later_of tariff) (latest others) tariff)

-- each tariff begins later than those before it
abbrev pub are_rising : List AcceptedTerms → Bool
are_rising [] = true
are_rising (tariff ∷ others) =
    list_all (λ later. int_lt tariff.terms.effective later.terms.effective) others
    && are_rising others

-- the tariff begins on the day or before it
abbrev pub has_begun : ℤ → AcceptedTerms → Bool
has_begun day tariff = not (int_lt day tariff.terms.effective)

-- the terms in force on a day: of the tariffs that have begun, those of the latest
abbrev pub in_force : ℤ → List AcceptedTerms → Option Terms
in_force day tariffs =
    option_map (λ tariff. tariff.terms) (latest (filter (has_begun day) tariffs))

-- of some tariffs the one that begins on the first day of these terms is in force on a day
abbrev pub is_under : List AcceptedTerms → Terms → ℤ → Bool
is_under tariffs terms day =
    option_map_or (λ (own : Terms). int_eq terms.effective own.effective) (in_force day tariffs) false

-- what a record costs by the tariff in force on its day, if there is one
abbrev pub price_under : List AcceptedTerms → List ℕ → Option Priced
price_under tariffs bytes = option_map (λ terms. price_by terms bytes)
    (in_force (day_of bytes) tariffs)

-- the same by the rulings
abbrev pub price_in : Rulings → List ℕ → Option Priced
price_in rulings bytes = price_under rulings.tariffs bytes

-- what the members of a set cost
abbrev pub prices : Rulings → Records → List Priced
prices rulings records = filter_map (price_in rulings) (members records)

-- which work a record measures, by the rule in force
abbrev pub identity_by : Rulings → List ℕ → List ℕ
identity_by rulings bytes =
    option_map_or (λ period. identity2_of bytes) rulings.adopted (identity_of bytes)

-- the day of the last close, if there was one
abbrev pub last_close : Rulings → Option ℤ
last_close rulings = last_or None rulings.closes
