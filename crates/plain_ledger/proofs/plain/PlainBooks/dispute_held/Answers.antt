use Rattle.std.proofs.Common.{sym, ap, subst, ◌∙◌, Ok, option_map}
use Rattle.book_model.specs.Words.{AreDisputes, ShowsDispute, dispute_from, dispute_shown, is_from}
use Rattle.book_model.specs.Words.{Disputed}
use Rattle.book_model.proofs.FromLemmas.{find-map}
use Rattle.plain_ledger.proofs.DisputeLemmas.{disputes_in-held, found_shows}
use Rattle.plain_ledger.proofs.HeldLimits.{are_disputes}
use Rattle.plain_ledger.specs.Plain.{disputes_among, rulings_of}
use Rattle.plain_ledger.proofs.plain.PlainBooks.dispute_held.Goals as goal

pub returns-clause-dispute : goal.returns-clause-dispute
returns-clause-dispute g c =
    let ledger = c.args.self.now in
    let from = c.args.from.now in
    ap Ok (ap (dispute_from from) (disputes_in-held ledger.kept ledger.rising
    ∙ (λ i. disputes_among (rulings_of (sym c.deref.ensures.value i) (sym c.adopted-rule.ensures i))
    ledger.held.entries)
    ∙ sym c.in_ok-found.ensures)
    ∙ find-map dispute_shown (λ (one : Disputed). is_from from one.identity) c.in_ok-found.found.items
    ∙ ap (option_map dispute_shown) (sym c.first_from.ensures))

pub returns-clause-shown : goal.returns-clause-shown
returns-clause-shown g c =
    let ledger = c.args.self.now in
    subst ShowsDispute (sym c.first_from.ensures)
    (found_shows _ c.in_ok-found.found.items
    (subst AreDisputes
    (sym (c.in_ok-found.ensures
    ∙ (λ i. disputes_among (rulings_of (c.deref.ensures.value i) (c.adopted-rule.ensures i))
    ledger.held.entries)))
    (are_disputes ledger.kept)))
