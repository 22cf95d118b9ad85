-- The credits of a book that stand on a bill are those of its period, for the centre that is named or
-- for the whole office.
use Rattle.std.proofs.Common.{◌≡◌, ◌∙◌, ℕ, List, [], ◌∷◌, refl, ap, cond, filter, ◌==◌, ◌&&◌}
use Rattle.std.proofs.Common.{Bool, true, false, Option, Some, None, ◌+◌, map, sum_by}
use Rattle.std.specs.List.{cons_option}
use Rattle.book_model.proofs.Std.{fold-map, map-map}
use Rattle.book_model.specs.declared.bill.Credit as billed
use Rattle.book_model.specs.Words.{Credit, Rulings, credit_shown, credits_asked, credits_in, same_bytes}
use Rattle.report_texts.specs.Charges.{plain_credit, plain_credits}
use Rattle.report_texts.specs.declared.charges.CreditAmount.{CreditAmount}
use Rattle.book_reports.specs.BillCredits.{credit_if, credits_of, size_of}

-- those of all centres
own_all : (number : ℕ) (credits : List Credit)
    → credits_of number None credits
    ≡ filter (λ (credit : Credit). credit.period == number) credits
own_all number [] = refl
own_all number (credit ∷ later) =
    let rest = own_all number later in
    let front : List Credit = credits_of number None later in
    let own : List Credit = filter (λ (credit : Credit). credit.period == number) later in
    elim (credit.period == number) as (λ b.
    cons_option (credit_if (b && true) credit) front ≡ cond b (credit ∷ own) own) [
      | true ↦ ap (λ rest. credit ∷ rest) rest
      | false ↦ rest
    ]

-- and of one
own_centre : (number : ℕ) (centre : List ℕ) (credits : List Credit)
    → credits_of number (Some centre) credits
    ≡ filter (λ (credit : Credit). same_bytes credit.centre centre)
    (filter (λ (credit : Credit). credit.period == number) credits)
own_centre number centre [] = refl
own_centre number centre (credit ∷ later) =
    let rest = own_centre number centre later in
    let front : List Credit = credits_of number (Some centre) later in
    let all : List Credit = filter (λ (credit : Credit). credit.period == number) later in
    let is_its : Credit → Bool = λ credit. same_bytes credit.centre centre in
    elim (credit.period == number) as (λ b.
    cons_option (credit_if (b && is_its credit) credit) front
    ≡ filter is_its (cond b (credit ∷ all) all)) [
      | true ↦ elim (is_its credit) as (λ b.
          cons_option (credit_if b credit) front
          ≡ cond b (credit ∷ filter is_its all) (filter is_its all)) [
            | true ↦ ap (λ rest. credit ∷ rest) rest
            | false ↦ rest
          ]
      | false ↦ rest
    ]

-- they are the credits of the bill
pub credits_are : (number : ℕ) (named : Option (List ℕ)) (rulings : Rulings)
    → credits_of number named rulings.credits ≡ credits_asked named (credits_in number rulings)
credits_are number None rulings = own_all number rulings.credits
credits_are number (Some centre) rulings = own_centre number centre rulings.credits

-- what the credits of a bill come to, whatever their signs, one after another
pub sizes_made : (credits : List billed.Credit)
    → sum_by (λ credit. credit.credited + credit.debited) (plain_credits (map credit_shown credits))
    ≡ sum_by (λ credit. size_of (credit_shown credit)) credits
sizes_made credits =
    let size : CreditAmount → ℕ = λ credit. credit.credited + credit.debited in
    let plain : billed.Credit → CreditAmount = λ credit. plain_credit (credit_shown credit) in
    ap (sum_by size) (map-map plain_credit credit_shown credits)
    ∙ fold-map (λ n one. n + size one) plain 0 credits
