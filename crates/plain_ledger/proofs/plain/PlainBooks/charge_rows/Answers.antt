use Rattle.std.proofs.Common.{◌∙◌, sym, ap, subst, Bool, Ok}
use Rattle.book_model.specs.Words.{Period, period_of, rows_for, rows_of, FitSums, AreRows}
use Rattle.plain_ledger.specs.Plain.{Entry}
use Rattle.plain_ledger.specs.PlainBook.{book_in}
use Rattle.plain_ledger.specs.Treatments.{is_counted, treatment_in}
use Rattle.plain_ledger.proofs.BookLemmas.{read_of}
use Rattle.plain_ledger.proofs.TreatmentLemmas.{rows_for-where}
use Rattle.plain_ledger.proofs.HeldLimits.{fit_sums, are_rows}
use Rattle.plain_ledger.proofs.plain.PlainBooks.charge_rows.Goals as goal

pub charge_rows-requires : goal.charge_rows-requires
charge_rows-requires g c =
    let ledger = c.args.self.now in
    let counted : Entry → Bool = λ entry.
    is_counted (treatment_in c.in_ok-period.period ledger.posted entry) in
    subst FitSums (sym (c.deref.ensures.value ∙ c.in_ok-prices.ensures))
    (fit_sums ledger.kept counted)

pub returns-clause-rows : goal.returns-clause-rows
returns-clause-rows g c =
    let ledger = c.args.self.now in
    let rulings = (book_in ledger).rulings in
    let counted : Entry → Bool = λ entry.
    is_counted (treatment_in c.in_ok-period.period ledger.posted entry) in
    read_of (λ (period : Period). rows_for rulings period.counted)
    (period_of (book_in ledger) c.args.number) _ c.in_ok-period.ensures
    ∙ ap Ok (rows_for-where ledger.kept ledger.rising counted
    ∙ ap rows_of (sym (c.deref.ensures.value ∙ c.in_ok-prices.ensures))
    ∙ sym c.in_ok-charge_rows.ensures)

pub returns-clause-shown : goal.returns-clause-shown
returns-clause-shown g c =
    let ledger = c.args.self.now in
    let counted : Entry → Bool = λ entry.
    is_counted (treatment_in c.in_ok-period.period ledger.posted entry) in
    subst AreRows
    (sym (c.in_ok-charge_rows.ensures
    ∙ ap rows_of (c.deref.ensures.value ∙ c.in_ok-prices.ensures)))
    (are_rows ledger.kept counted)
