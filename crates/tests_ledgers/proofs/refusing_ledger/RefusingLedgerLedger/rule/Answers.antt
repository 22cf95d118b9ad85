use Rattle.std.proofs.Common.{FitsSigned, rules, subst, sym, w64, ℤ}
use Rattle.smf_text.specs.Day.{IsDay}
use Rattle.book_model.proofs.Std.{to_z-of_z}
use Rattle.book_model.specs.declared.answer.Ruled.{Ruled}
use Rattle.book_model.specs.declared.ruling.Ruling.{Ruling}
use Rattle.book_model.specs.Words.{IsCreditOf, MayBeAsked, close_outcome, credit_outcome, note_given}
use Rattle.book_model.specs.Words.{ruling_asked}
use Rattle.book_model.proofs.Lemmas.{day_kept}
use Rattle.book_core.specs.Calls.{IsCall}
use Rattle.tests_ledgers.proofs.RefusalLemmas.{refused_as}
use Rattle.tests_ledgers.proofs.refusing_ledger.RefusingLedgerLedger.rule.Goals as goal

pub returns-then-is_due : goal.returns-then-is_due
returns-then-is_due g c =
    refused_as _ (λ (ruled : Ruled). ruled) _ _ _ _ c.refusal.ensures

-- what may be asked as a ruling may be asked as a close, and as a credit
pub close-requires : goal.close-requires
close-requires g c =
    let is_day = subst (λ (ruling : Ruling). MayBeAsked (ruling_asked ruling)) c.in-Close.is c.requires
    in
    subst IsDay (sym (day_kept c.in-Close.through is_day)) is_day

pub credit-requires : goal.credit-requires
credit-requires g c =
    let credit = c.in-Credit in
    let fits : FitsSigned w64 credit.amount = search rules in
    subst (λ (amount : ℤ). IsCreditOf credit.centre amount credit.reason.now)
    (sym (to_z-of_z w64 credit.amount fits))
    (subst (λ (ruling : Ruling). MayBeAsked (ruling_asked ruling)) credit.is c.requires)

pub returns-in-Tariff : goal.returns-in-Tariff
returns-in-Tariff g c = rw c.in-Tariff.is c.tariff.ensures

pub returns-in-Close : goal.returns-in-Close
returns-in-Close g c =
    let seen = g.L.Ledger.seen in
    let is_day = subst (λ (ruling : Ruling). MayBeAsked (ruling_asked ruling)) c.in-Close.is c.requires
    in
    rw c.in-Close.is
    (subst (λ day. IsCall (λ (ruled : Ruled). ruled) (seen c.args.self.now.inner.now)
    (seen c.close.new.self) c.close.result
    (close_outcome (note_given c.args.note.now) c.in-Close.period day))
    (day_kept c.in-Close.through is_day) c.close.ensures)

pub returns-in-Choose : goal.returns-in-Choose
returns-in-Choose g c = rw c.in-Choose.is c.choose.ensures

pub returns-in-Adopt : goal.returns-in-Adopt
returns-in-Adopt g c = rw c.in-Adopt.is c.adopt_identity.ensures

pub returns-in-Replace : goal.returns-in-Replace
returns-in-Replace g c = rw c.in-Replace.is c.replace_tariff.ensures

pub returns-in-Withhold : goal.returns-in-Withhold
returns-in-Withhold g c = rw c.in-Withhold.is c.withhold.ensures

pub returns-in-Credit : goal.returns-in-Credit
returns-in-Credit g c =
    let seen = g.L.Ledger.seen in
    let credit = c.in-Credit in
    let fits : FitsSigned w64 credit.amount = search rules in
    rw credit.is
    (subst (λ (amount : ℤ). IsCall (λ (ruled : Ruled). ruled) (seen c.args.self.now.inner.now)
    (seen c.credit.new.self) c.credit.result
    (credit_outcome (note_given c.args.note.now) credit.period credit.centre amount credit.reason.now))
    (to_z-of_z w64 credit.amount fits) c.credit.ensures)
