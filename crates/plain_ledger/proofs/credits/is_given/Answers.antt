use Rattle.std.proofs.Common.{◌≡◌, ◌∙◌, Bool, ap, of_z, sym, to_z, w64, ℤ}
use Rattle.std.specs.List.{list_any}
use Rattle.tariff_rules.proofs.SearchLemmas.{any_passes, fails_more, none_passes}
use Rattle.book_model.proofs.Std.{to_z-of_z}
use Rattle.book_model.proofs.Lemmas.{list_any-map}
use Rattle.book_model.specs.Words.{credit_shown, is_credit}
use Rattle.book_model.specs.declared.bill.Credit.{Credit}
use Rattle.plain_ledger.proofs.credits.is_given.Goals as goal

pub returns-then-is_same : goal.returns-then-is_same
returns-then-is_same c =
    let test : Credit → Bool =
    λ credit. is_credit c.args.period c.args.centre c.args.amount c.args.reason.now
    (credit_shown credit) in
    let one = c.is_same.ensures
    ∙ ap (λ (amount : ℤ). is_credit c.args.period c.args.centre amount c.args.reason.now
    (credit_shown c.credit-item.result)) (to_z-of_z w64 c.args.amount c.ranges.amount) in
    any_passes test c.args.credits.now c.loop-credit.credit-index c.credit-item.result
    c.loop-credit-test.true (rw (← c.credit-item.is) (sym one ∙ c.if-is_same.true))
    ∙ sym (list_any-map (is_credit c.args.period c.args.centre c.args.amount c.args.reason.now)
    credit_shown c.args.credits.now)

-- the loop has the amount as the bits of a number
pub loop-credit-preserved : goal.loop-credit-preserved
loop-credit-preserved c =
    let test : Credit → Bool =
    λ credit. is_credit c.args.period c.args.centre (to_z w64 (of_z w64 c.args.amount))
    c.args.reason.now (credit_shown credit) in
    fails_more test c.args.credits.now c.loop-credit.credit-index c.credit-item.result
    c.loop-credit-test.true c.loop-credit.invariant
    (rw (← c.credit-item.is) (sym c.is_same.ensures ∙ c.if-is_same.false))

pub returns : goal.returns
returns c =
    let credits = c.args.credits.now in
    let test : ℤ → Credit → Bool = λ amount credit.
    is_credit c.args.period c.args.centre amount c.args.reason.now (credit_shown credit) in
    none_passes (test (to_z w64 (of_z w64 c.args.amount))) credits c.loop-credit.credit-index
    c.loop-credit-test.false c.loop-credit.invariant
    ∙ ap (λ (amount : ℤ). list_any (test amount) credits)
    (to_z-of_z w64 c.args.amount c.ranges.amount)
    ∙ sym (list_any-map (is_credit c.args.period c.args.centre c.args.amount c.args.reason.now)
    credit_shown credits)
