use Rattle.std.proofs.Common.{◌∙◌, ◌+◌, List, Ok, ap, refl, subst, sym, w32}
use Rattle.book_model.proofs.Std.{to_z-of_z}
use Rattle.book_model.proofs.Lemmas.{day_fits}
use Rattle.report_texts.specs.declared.dry_runs.TriedRuling.TheVariants.{Replace, Tariff}
use Rattle.report_texts.specs.DryRuns.{NamesDay}
use Rattle.report_texts.specs.Figures.{record_count_from}
use Rattle.book_reports.specs.Figures.{count_outcome, credit_count_outcome, priced_outcome}
use Rattle.book_reports.proofs.Words.{Line, figures_by, call_failed, read_as, same_value}
use Rattle.book_reports.proofs.Words.{dispute_count_outcome}
use Rattle.book_reports.proofs.FigureLemmas.{own_read}
use Rattle.book_reports.proofs.figures.figures_with.Goals as goal

pub returns-in_err-lines : goal.returns-in_err-lines
returns-in_err-lines g c =
    call_failed c.from_residual.result c.from_residual.ensures.1 (λ book. refl) (λ book. refl)
    (λ book is. cc is) c.in_err-lines.ensures.lines

-- of a tariff nothing else is read
pub returns-in-Tariff : goal.returns-in-Tariff
returns-in-Tariff g c =
    let rows = c.args.rows.now in
    let first = c.in-Tariff.first in
    let named : NamesDay (Tariff first) = subst NamesDay c.in-Tariff.is c.requires.day in
    let counted = c.record_count_from.ensures
    ∙ ap (λ day. record_count_from day rows) (to_z-of_z w32 first (day_fits first named)) in
    let made = (rw (c.deref.ensures.value, counted) at c.figures_of.ensures) in
    rw c.in-Tariff.is
    (read_as (λ book. refl) (λ book. refl) (record { reopen = refl; store = refl })
    (λ book said. ap (λ (lines : List Line). Ok (figures_by rows lines (record_count_from first rows)))
    (same_value said) ∙ ap Ok (sym made))
    c.in_ok-lines.ensures.lines)

pub returns-in-Close : goal.returns-in-Close
returns-in-Close g c =
    let call = c.in_ok-lines.ensures.lines in
    let naming = (g.L.Ledger.seen c.args.ledger.now).naming in
    rw c.in-Close.is
    (own_read naming c.args.period c.args.rows.now (count_outcome (c.args.period + 1))
    c.count_of_period.result c.figures_and.result (λ book. refl) call c.count_of_period.ensures
    (rw c.deref-in-Close.ensures.value at c.figures_and.ensures))

pub returns-in-Choose : goal.returns-in-Choose
returns-in-Choose g c =
    let call = c.in_ok-lines.ensures.lines in
    let naming = (g.L.Ledger.seen c.args.ledger.now).naming in
    rw c.in-Choose.is
    (own_read naming c.args.period c.args.rows.now (dispute_count_outcome naming)
    c.count_disputes.result c.figures_and-in-Choose.result (λ book. refl) call
    (rw call.work.naming at c.count_disputes.ensures)
    (rw c.deref-in-Choose.ensures.value at c.figures_and-in-Choose.ensures))

pub returns-in-Withhold : goal.returns-in-Withhold
returns-in-Withhold g c =
    let call = c.in_ok-lines.ensures.lines in
    let naming = (g.L.Ledger.seen c.args.ledger.now).naming in
    rw c.in-Withhold.is
    (own_read naming c.args.period c.args.rows.now (dispute_count_outcome naming)
    c.count_disputes-in-Withhold.result c.figures_and-in-Withhold.result (λ book. refl) call
    (rw call.work.naming at c.count_disputes-in-Withhold.ensures)
    (rw c.deref-in-Withhold.ensures.value at c.figures_and-in-Withhold.ensures))

-- of a tariff in the place of another the next one is looked for
pub returns-in-Replace : goal.returns-in-Replace
returns-in-Replace g c =
    let call = c.in_ok-lines.ensures.lines in
    let naming = (g.L.Ledger.seen c.args.ledger.now).naming in
    let first = c.in-Replace.first in
    let named : NamesDay (Replace first) = subst NamesDay c.in-Replace.is c.requires.day in
    rw c.in-Replace.is
    (own_read naming c.args.period c.args.rows.now (priced_outcome first c.args.rows.now)
    c.count_priced.result c.figures_and-in-Replace.result (λ book. refl) call
    (rw (to_z-of_z w32 first (day_fits first named)) at c.count_priced.ensures)
    (rw c.deref-in-Replace.ensures.value at c.figures_and-in-Replace.ensures))

pub returns-in-Credit : goal.returns-in-Credit
returns-in-Credit g c =
    let call = c.in_ok-lines.ensures.lines in
    let naming = (g.L.Ledger.seen c.args.ledger.now).naming in
    rw c.in-Credit.is
    (own_read naming c.args.period c.args.rows.now (credit_count_outcome c.args.period)
    c.count_credits.result c.figures_and-in-Credit.result (λ book. refl) call c.count_credits.ensures
    (rw c.deref-in-Credit.ensures.value at c.figures_and-in-Credit.ensures))

pub returns : goal.returns
returns g c =
    let call = c.in_ok-lines.ensures.lines in
    let naming = (g.L.Ledger.seen c.args.ledger.now).naming in
    rw c.in-Adopt.is
    (own_read naming c.args.period c.args.rows.now (dispute_count_outcome naming)
    c.count_disputes-in-Adopt.result c.figures_and-in-Adopt.result (λ book. refl) call
    (rw call.work.naming at c.count_disputes-in-Adopt.ensures)
    (rw c.deref-in-Adopt.ensures.value at c.figures_and-in-Adopt.ensures))
