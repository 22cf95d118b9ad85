use Rattle.std.proofs.Common.{FitsSigned, ap, rules, w64}
use Rattle.book_model.proofs.Std.{to_z-of_z}
use Rattle.book_model.specs.Words.{CreditAsked, ReplacementAsked, TariffAsked}
use Rattle.office.proofs.request.OwnedRuling.lent.Goals as goal

pub returns-in-Tariff : goal.returns-in-Tariff
returns-in-Tariff c = rw c.in-Tariff.is (ap TariffAsked c.as_str.ensures.value)

pub returns-in-Replace : goal.returns-in-Replace
returns-in-Replace c =
    rw c.in-Replace.is (ap ReplacementAsked c.as_str-in-Replace.ensures.value)

pub returns-in-Credit : goal.returns-in-Credit
returns-in-Credit c =
    let amount = c.in-Credit.amount in
    let fits : FitsSigned w64 amount = search rules in
    rw c.in-Credit.is
    (λ i. CreditAsked c.in-Credit.period c.in-Credit.centre (to_z-of_z w64 amount fits i)
    (c.as_str-in-Credit.ensures.value i))
