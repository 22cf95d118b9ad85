use Rattle.std.proofs.Common.{sym, ap, subst, ◌∙◌, Ok}
use Rattle.plain_ledger.proofs.DisputeLemmas.{disputes_in-held}
use Rattle.book_model.specs.Words.{AreDisputes}
use Rattle.plain_ledger.specs.Plain.{disputes_among, rulings_of}
use Rattle.plain_ledger.proofs.HeldLimits.{are_disputes}
use Rattle.plain_ledger.proofs.plain.PlainBooks.disputes_held.Goals as goal

pub returns-clause-disputes : goal.returns-clause-disputes
returns-clause-disputes g c =
    let ledger = c.args.self.now in
    ap Ok (disputes_in-held ledger.kept ledger.rising
    ∙ (λ i. disputes_among (rulings_of (sym c.deref.ensures.value i) (sym c.adopted-adopted.ensures i))
    ledger.held.entries)
    ∙ sym c.in_ok-disputes.ensures)

pub returns-clause-shown : goal.returns-clause-shown
returns-clause-shown g c =
    let ledger = c.args.self.now in
    subst AreDisputes
    (sym (c.in_ok-disputes.ensures
    ∙ (λ i. disputes_among (rulings_of (c.deref.ensures.value i) (c.adopted-adopted.ensures i))
    ledger.held.entries)))
    (are_disputes ledger.kept)
