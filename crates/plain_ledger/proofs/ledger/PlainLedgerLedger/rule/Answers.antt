use Rattle.std.proofs.Common.{FitsSigned, ap, refl, rules, subst, w64, ℤ}
use Rattle.book_model.proofs.Std.{to_z-of_z}
use Rattle.book_model.specs.declared.ruling.Ruling.{Ruling}
use Rattle.book_model.specs.Words.{AdoptionAsked, ChoiceAsked, CloseAsked, CreditAsked, MayBeAsked}
use Rattle.book_model.specs.Words.{ReplacementAsked, TariffAsked, WithholdingAsked, note_given}
use Rattle.book_model.specs.Words.{ruling_asked}
use Rattle.book_model.proofs.Lemmas.{day_kept}
use Rattle.plain_ledger.proofs.JournalLemmas.{entered_call}
use Rattle.plain_ledger.proofs.ledger.PlainLedgerLedger.rule.Goals as goal

pub returns-in-Tariff : goal.returns-in-Tariff
returns-in-Tariff g c =
    rw c.in-Tariff.is
    (entered_call c.args.self.now c.make_entered.new.self (note_given c.args.note.now)
    (TariffAsked c.in-Tariff.text.now) refl c.make_entered.result c.make_entered.ensures.books
    c.make_entered.ensures.said)

-- a day and an amount are given as they are asked
pub returns-in-Close : goal.returns-in-Close
returns-in-Close g c =
    let may = subst (λ (ruling : Ruling). MayBeAsked (ruling_asked ruling)) c.in-Close.is c.requires in
    rw c.in-Close.is
    (entered_call c.args.self.now c.make_entered-in-Close.new.self (note_given c.args.note.now)
    (CloseAsked c.in-Close.period c.in-Close.through)
    (ap (CloseAsked c.in-Close.period) (day_kept c.in-Close.through may))
    c.make_entered-in-Close.result c.make_entered-in-Close.ensures.books
    c.make_entered-in-Close.ensures.said)

pub returns-in-Choose : goal.returns-in-Choose
returns-in-Choose g c =
    rw c.in-Choose.is
    (entered_call c.args.self.now c.make_entered-in-Choose.new.self (note_given c.args.note.now)
    (ChoiceAsked c.in-Choose.name) refl c.make_entered-in-Choose.result
    c.make_entered-in-Choose.ensures.books c.make_entered-in-Choose.ensures.said)

pub returns-in-Adopt : goal.returns-in-Adopt
returns-in-Adopt g c =
    rw c.in-Adopt.is
    (entered_call c.args.self.now c.make_entered-in-Adopt.new.self (note_given c.args.note.now)
    (AdoptionAsked c.in-Adopt.rule) refl c.make_entered-in-Adopt.result
    c.make_entered-in-Adopt.ensures.books c.make_entered-in-Adopt.ensures.said)

pub returns-in-Replace : goal.returns-in-Replace
returns-in-Replace g c =
    rw c.in-Replace.is
    (entered_call c.args.self.now c.make_entered-in-Replace.new.self (note_given c.args.note.now)
    (ReplacementAsked c.in-Replace.text.now) refl c.make_entered-in-Replace.result
    c.make_entered-in-Replace.ensures.books c.make_entered-in-Replace.ensures.said)

pub returns-in-Withhold : goal.returns-in-Withhold
returns-in-Withhold g c =
    rw c.in-Withhold.is
    (entered_call c.args.self.now c.make_entered-in-Withhold.new.self (note_given c.args.note.now)
    (WithholdingAsked c.in-Withhold.name) refl c.make_entered-in-Withhold.result
    c.make_entered-in-Withhold.ensures.books c.make_entered-in-Withhold.ensures.said)

pub returns-in-Credit : goal.returns-in-Credit
returns-in-Credit g c =
    let amount = c.in-Credit.amount in
    let fits : FitsSigned w64 amount = search rules in
    rw c.in-Credit.is
    (entered_call c.args.self.now c.make_entered-in-Credit.new.self (note_given c.args.note.now)
    (CreditAsked c.in-Credit.period c.in-Credit.centre amount c.in-Credit.reason.now)
    (ap (λ (amount : ℤ).
    CreditAsked c.in-Credit.period c.in-Credit.centre amount c.in-Credit.reason.now)
    (to_z-of_z w64 amount fits)) c.make_entered-in-Credit.result
    c.make_entered-in-Credit.ensures.books c.make_entered-in-Credit.ensures.said)
