use Rattle.std.proofs.Common.{◌∙◌, refl, sym, ap, length, arith, ltb-false, ok_or, slice_get, ◌-◌}
use Rattle.std.proofs.lemmas.Option.{slice_get_past, slice_get_read}
use Rattle.book_model.specs.declared.fault.LedgerFault.TheVariants.{NoSuchPeriod}
use Rattle.plain_ledger.specs.PlainBook.{book_in}
use Rattle.plain_ledger.proofs.BookLemmas.{period_of-closed, period_of-open}
use Rattle.plain_ledger.proofs.plain.PlainBooks.period.Goals as goal

pub returns-in-Some : goal.returns-in-Some
returns-in-Some g c =
    let ledger = c.args.self.now in
    ap (λ found. ok_or found NoSuchPeriod)
    (period_of-closed (book_in ledger).rulings ledger.held.entries ledger.posted ledger.closed.items
    c.args.number c.in-Some.closed.now ledger.counted (omega arith)
    (ap (λ closed. slice_get closed (c.args.number - 1)) (sym c.deref.ensures.value)
    ∙ slice_get_read c.deref.result.now (length c.deref.result.now) (c.args.number - 1)
    c.in-Some.closed.now refl c.in-Some.ensures.lookup.3.0 c.in-Some.ensures.lookup.1))

pub returns-in_ok-period_end-in-None : goal.returns-in_ok-period_end-in-None
returns-in_ok-period_end-in-None g c =
    let ledger = c.args.self.now in
    ap (λ found. ok_or found NoSuchPeriod)
    (period_of-open ledger.kept ledger.rising ledger.posted ledger.closed.items
    c.in_ok-period_end-in-None.field-0 c.args.number c.in_ok-period_end-in-None.ensures
    ledger.counted (omega arith) (omega arith)
    (ap (λ closed. slice_get closed (c.args.number - 1)) (sym c.deref.ensures.value)
    ∙ slice_get_past c.deref.result.now (c.args.number - 1)
    (ltb-false (c.args.number - 1) (length c.deref.result.now)
    (sym c.in-None.ensures.lookup.0))))
