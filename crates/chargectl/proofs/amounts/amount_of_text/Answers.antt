use Rattle.std.proofs.Common.{◌≡◌, ◌∙◌, Bool, FitsSigned, None, Some, ap, false, if◌then◌else◌}
use Rattle.std.proofs.Common.{option_and_then, rules, sym, true, w64}
use Rattle.book_model.proofs.Std.{to_z-of_z}
use Rattle.book_model.specs.Words.{is_credit_amount}
use Rattle.chargectl.specs.Amounts.{if_credited, signed_in}
use Rattle.chargectl.proofs.amounts.amount_of_text.Goals as goal

-- it may not be credited
pub returns-then-not-is_credit_amount-clause-amount :
    goal.returns-then-not-is_credit_amount-clause-amount
returns-then-not-is_credit_amount-clause-amount c =
    let amount = c.in_ok-amount.amount in
    let fits : FitsSigned w64 amount = search rules in
    let none : is_credit_amount amount ≡ false =
    sym (ap is_credit_amount (to_z-of_z w64 amount fits)) ∙ sym c.is_credit_amount.ensures
    ∙ c.if-not-is_credit_amount.true in
    ap (λ (may : Bool). if may then Some amount else None) (sym none)
    ∙ ap (option_and_then if_credited)
    (c.in_ok-amount.ensures ∙ ap signed_in c.as_bytes.ensures.value)

-- or it may
pub returns-clause-amount : goal.returns-clause-amount
returns-clause-amount c =
    let amount = c.in_ok-amount.amount in
    let fits : FitsSigned w64 amount = search rules in
    let some : is_credit_amount amount ≡ true =
    sym (ap is_credit_amount (to_z-of_z w64 amount fits)) ∙ sym c.is_credit_amount.ensures
    ∙ c.if-not-is_credit_amount.false in
    ap Some (to_z-of_z w64 amount fits)
    ∙ ap (λ (may : Bool). if may then Some amount else None) (sym some)
    ∙ ap (option_and_then if_credited)
    (c.in_ok-amount.ensures ∙ ap signed_in c.as_bytes.ensures.value)

pub returns-clause-limited : goal.returns-clause-limited
returns-clause-limited c = sym c.is_credit_amount.ensures ∙ c.if-not-is_credit_amount.false
