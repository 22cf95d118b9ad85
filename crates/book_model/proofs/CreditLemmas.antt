-- Credits stand apart from what is charged, and those of a closed period stay. And what choices of a
-- record and of none leave charged.
use Rattle.std.proofs.Common.{◌≡◌, ℕ, ◌<◌, List, [], ◌∷◌, ◌++◌, refl, ap, ◌∙◌, arith}
use Rattle.std.proofs.Common.{Bool, cond, filter, ◌==◌, ne_eqb, append-nil}
use Rattle.book_model.proofs.Std.{filter-append}
use Rattle.book_model.specs.Words.{Credit, CreditGiven, Event, RulingGiven, credits_in, open_by}
use Rattle.book_model.specs.Words.{rulings}
use Rattle.book_model.specs.Laws.{ChoosingTakesOne, CreditsStandApart, WithheldIsUncharged}
use Rattle.book_model.specs.Laws.{WithholdingTakesTheWork}
use Rattle.book_model.specs.Words.{PeriodClosed, RecordKept, TariffAccepted, TariffReplaced}
use Rattle.book_model.specs.Words.{RecordChosen, SecondRuleAdopted, WorkWithheld}
use Rattle.book_model.specs.Words.{ImportBegun, ImportEnded, ImportRead}
use Rattle.book_model.proofs.ChosenLemmas.{charged-choice, charged-withheld, withheld_uncharged}

-- a credit of the open period is not one of a closed period
pub credit_late : (credits : List Credit) (credit : Credit) (number : ℕ) → number < credit.period
    → filter (λ (credit : Credit). credit.period == number) (credits ++ credit ∷ [])
    ≡ filter (λ (credit : Credit). credit.period == number) credits
credit_late credits credit number closed =
    let own : Credit → Bool = λ credit. credit.period == number in
    filter-append own credits (credit ∷ [])
    ∙ ap (λ b. filter own credits ++ cond b (credit ∷ []) [])
    (ne_eqb credit.period number (λ same. omega arith))
    ∙ append-nil (filter own credits)

closed_credits : (history : List Event) (event : Event) (number : ℕ)
    → number < open_by (rulings history)
    → credits_in number (rulings (event ∷ history)) ≡ credits_in number (rulings history)
closed_credits history (RulingGiven said (CreditGiven centre amount reason)) number closed =
    credit_late (rulings history).credits (record {
      centre = centre;
      amount = amount;
      reason = reason;
      period = open_by (rulings history);
    }) number closed
closed_credits history (RecordKept bytes) number closed = refl
closed_credits history (PeriodClosed said day) number closed = refl
closed_credits history (ImportBegun note) number closed = refl
closed_credits history (ImportRead reading) number closed = refl
closed_credits history (ImportEnded ending) number closed = refl
closed_credits history (RulingGiven said (TariffAccepted text terms)) number closed = refl
closed_credits history (RulingGiven said (TariffReplaced text terms)) number closed = refl
closed_credits history (RulingGiven said (RecordChosen bytes)) number closed = refl
closed_credits history (RulingGiven said (WorkWithheld bytes)) number closed = refl
closed_credits history (RulingGiven said SecondRuleAdopted) number closed = refl

-- the law of credits
pub credits_stand_apart : CreditsStandApart
credits_stand_apart = record {
  charged = λ book centre amount reason. refl;
  prices = λ rulings centre amount reason bytes. refl;
  closed = closed_credits;
}

-- the laws of choices
pub withheld_is_uncharged : WithheldIsUncharged
withheld_is_uncharged ruled held bytes withheld = withheld_uncharged ruled held bytes withheld

pub withholding_takes_the_work : WithholdingTakesTheWork
withholding_takes_the_work book bytes = charged-withheld book.rulings book.held bytes

pub choosing_takes_one : ChoosingTakesOne
choosing_takes_one book bytes there = charged-choice book.rulings book.held bytes there
