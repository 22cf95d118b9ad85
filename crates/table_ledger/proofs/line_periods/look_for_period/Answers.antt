use Rattle.std.proofs.Common.{◌∙◌, Bool, Some, ap, if◌then◌else◌, sym}
use Rattle.book_core.specs.OfficeRulings.{ruled_in}
use Rattle.book_model.specs.Words.{charged_before, period_on}
use Rattle.table_model.specs.Words.{life_read}
use Rattle.tree_tables.specs.Stored.{stored_entry}
use Rattle.table_ledger.proofs.LooksRefused.{look_refused}
use Rattle.table_ledger.proofs.TryLemmas.{looks_known, saw_found, saw_none}
use Rattle.table_ledger.proofs.line_periods.look_for_period.Goals as goal

-- a plus line speaks of the period of the day
pub returns-then-plus : goal.returns-then-plus
returns-then-plus g c =
    let stored = c.args.stored.now in
    let ruled = ruled_in c.args.summary.now.rulings in
    looks_known saw_none (λ tables known.
    ap Some c.period_of_day.ensures.number
    ∙ ap (λ (plus : Bool). if plus then Some (period_on ruled.closes stored.priced.day)
    else charged_before c.args.number (life_read ruled tables.lines (stored_entry stored)))
    (sym c.if-plus.true))

-- a minus line of that of the last charge
pub returns : goal.returns
returns g c =
    let stored = c.args.stored.now in
    let ruled = ruled_in c.args.summary.now.rulings in
    looks_known (saw_found c.in_ok-life.ensures.looks) (λ tables known.
    c.charged_before.ensures
    ∙ ap (charged_before c.args.number) (c.deref.ensures.value ∙ known)
    ∙ ap (λ (plus : Bool). if plus then Some (period_on ruled.closes stored.priced.day)
    else charged_before c.args.number (life_read ruled tables.lines (stored_entry stored)))
    (sym c.if-plus.false))

-- its lines are not read
pub returns-in_err-life : goal.returns-in_err-life
returns-in_err-life g c =
    look_refused _ c.from_residual.ensures.0 saw_none c.in_err-life.ensures.looks
