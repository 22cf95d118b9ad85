-- Rulings as books are asked for them, and which may be asked for.
use Rattle.std.specs.Prelude.{ℕ, nat_le, ℤ, pos, neg_ℤ, int_lt, Bool, not, ◌&&◌, IsTrue, List, length}
use Rattle.book_model.specs.Std.{int_eq, list_all}
use Rattle.smf_text.specs.Day.{IsDay}
use Rattle.smf_text.specs.Names.{IsName}
use Rattle.book_model.specs.declared.ruling.Ruling.{Ruling}
use Rattle.book_model.specs.declared.ruling.Ruling.TheVariants as ruling
use Rattle.book_model.specs.Limits.{credit_end, most_reason}

-- A ruling that is asked for: a tariff, by its text; a close, by its period and its day; a choice,
-- by the record's name; the adoption of a rule of identity, by its number; a tariff in the place of
-- another, by its text; the choice of none, by the name of a record of the work; a credit, by its
-- period, the centre, the amount and the reason.
pub data RulingAsked : Type 0 where
  TariffAsked : List ℕ → RulingAsked
  CloseAsked : ℕ → ℤ → RulingAsked
  ChoiceAsked : List ℕ → RulingAsked
  AdoptionAsked : ℕ → RulingAsked
  ReplacementAsked : List ℕ → RulingAsked
  WithholdingAsked : List ℕ → RulingAsked
  CreditAsked : ℕ → List ℕ → ℤ → List ℕ → RulingAsked

-- as a ledger is asked for it
abbrev pub ruling_asked : Ruling → RulingAsked
ruling_asked (ruling.Tariff text) = TariffAsked text.now
ruling_asked (ruling.Close period through) = CloseAsked period through
ruling_asked (ruling.Choose name) = ChoiceAsked name
ruling_asked (ruling.Adopt rule) = AdoptionAsked rule
ruling_asked (ruling.Replace text) = ReplacementAsked text.now
ruling_asked (ruling.Withhold name) = WithholdingAsked name
ruling_asked (ruling.Credit period centre amount reason) =
    CreditAsked period centre amount reason.now

-- an amount that may be credited: it is not 0, and its absolute value is within the limit
abbrev pub is_credit_amount : ℤ → Bool
is_credit_amount amount =
    int_lt (neg_ℤ (pos credit_end)) amount && int_lt amount (pos credit_end)
    && not (int_eq amount (pos 0))

-- a blank, a tilde, or a character between them, in ASCII
abbrev pub is_reason_character : ℕ → Bool
is_reason_character character = nat_le 32 character && nat_le character 126

-- one of them at least, and no more than a reason has
abbrev pub is_reason : List ℕ → Bool
is_reason text =
    nat_le 1 (length text) && nat_le (length text) most_reason
    && list_all is_reason_character text

-- what may be credited to a centre
pub record IsCreditOf (centre : List ℕ) (amount : ℤ) (reason : List ℕ) : Type 0 where
  pub named : IsName centre
  pub limited : IsTrue (is_credit_amount amount)
  pub reasoned : IsTrue (is_reason reason)

-- It may be asked for: a close is through a day, and a credit is within the limits.
abbrev pub MayBeAsked : RulingAsked → Type 0
MayBeAsked (CloseAsked period through) = IsDay through
MayBeAsked (CreditAsked period centre amount reason) = IsCreditOf centre amount reason
MayBeAsked other = Unit {0}
