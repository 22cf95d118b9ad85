use Rattle.std.proofs.Common.{FitsSigned, None, rules, subst, w64, ℤ}
use Rattle.book_model.proofs.Std.{to_z-of_z}
use Rattle.book_model.specs.declared.answer.Ruled.{Ruled}
use Rattle.book_model.specs.declared.ruling.Ruling.{Ruling}
use Rattle.book_model.specs.Words.{MayBeAsked, close_outcome, credit_outcome, ruling_asked}
use Rattle.book_model.proofs.Lemmas.{day_kept}
use Rattle.plain_ledger.specs.PlainBook.{IsPlainCall}
use Rattle.plain_ledger.proofs.plain.PlainBooks.make_ruling.Goals as goal

pub returns-in-Tariff : goal.returns-in-Tariff
returns-in-Tariff g c = rw c.in-Tariff.is c.put_in_force.ensures

pub returns-in-Close : goal.returns-in-Close
returns-in-Close g c =
    let is_day = subst (λ (ruling : Ruling). MayBeAsked (ruling_asked ruling)) c.in-Close.is c.requires
    in
    rw c.in-Close.is
    (subst (λ day. IsPlainCall (λ (ruled : Ruled). ruled) c.args.self.now c.close_period.new.self
    c.close_period.result (close_outcome None c.in-Close.period day))
    (day_kept c.in-Close.through is_day) c.close_period.ensures)

pub returns-in-Choose : goal.returns-in-Choose
returns-in-Choose g c = rw c.in-Choose.is c.choose_named.ensures

pub returns-in-Adopt : goal.returns-in-Adopt
returns-in-Adopt g c = rw c.in-Adopt.is c.adopt_rule.ensures

pub returns-in-Replace : goal.returns-in-Replace
returns-in-Replace g c = rw c.in-Replace.is c.replace_in_force.ensures

pub returns-in-Withhold : goal.returns-in-Withhold
returns-in-Withhold g c = rw c.in-Withhold.is c.withhold_named.ensures

pub returns-in-Credit : goal.returns-in-Credit
returns-in-Credit g c =
    let amount = c.in-Credit.amount in
    let fits : FitsSigned w64 amount = search rules in
    rw c.in-Credit.is
    (subst (λ (amount : ℤ). IsPlainCall (λ (ruled : Ruled). ruled) c.args.self.now
    c.give_credit.new.self c.give_credit.result
    (credit_outcome None c.in-Credit.period c.in-Credit.centre amount c.in-Credit.reason.now))
    (to_z-of_z w64 amount fits) c.give_credit.ensures)
