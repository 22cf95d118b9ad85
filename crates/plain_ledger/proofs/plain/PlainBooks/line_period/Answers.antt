use Rattle.std.proofs.Common.{◌∙◌, Bool, Ok, Some, ap, sym, if◌then◌else◌}
use Rattle.book_model.specs.Words.{charged_before, life_of, period_on}
use Rattle.plain_ledger.specs.Plain.{record_of, ruled_beside}
use Rattle.plain_ledger.specs.PlainBook.{book_in}
use Rattle.plain_ledger.proofs.TrailLemmas.{line-told, line-untold}
use Rattle.plain_ledger.proofs.plain.PlainBooks.line_period.Goals as goal

-- no record of its name is held
pub returns-in_default : goal.returns-in_default
returns-in_default g c =
    let ledger = c.args.self.now in
    ap Ok (line-untold (ruled_beside ledger.rulings ledger.replaced.items ledger.credits.items)
    ledger.choices.items ledger.kept ledger.rising ledger.posted ledger.closed.items c.args.number
    c.args.line.now (sym c.in_default.ensures.value))

-- a plus line speaks of the period of the record's day
pub returns-then-line : goal.returns-then-line
returns-then-line g c =
    let ledger = c.args.self.now in
    let held = c.in-Some.held.now in
    let life = life_of (book_in ledger) (record_of held) in
    let ruled = ruled_beside ledger.rulings ledger.replaced.items ledger.credits.items in
    ap Ok (line-told ruled ledger.choices.items ledger.kept ledger.rising ledger.posted
    ledger.closed.items c.args.number c.args.line.now held (sym c.in-Some.ensures.value)
    ∙ ap (λ (plus : Bool). if plus then Some (period_on ruled.closes held.priced.day)
    else charged_before c.args.number life) c.if-line.true
    ∙ ap Some (sym c.period_of_day.ensures.number))

-- a minus line of that of its last charge
pub returns : goal.returns
returns g c =
    let ledger = c.args.self.now in
    let held = c.in-Some.held.now in
    let life = life_of (book_in ledger) (record_of held) in
    let ruled = ruled_beside ledger.rulings ledger.replaced.items ledger.credits.items in
    ap Ok (line-told ruled ledger.choices.items ledger.kept ledger.rising ledger.posted
    ledger.closed.items c.args.number c.args.line.now held (sym c.in-Some.ensures.value)
    ∙ ap (λ (plus : Bool). if plus then Some (period_on ruled.closes held.priced.day)
    else charged_before c.args.number life) c.if-line.false
    ∙ ap (charged_before c.args.number) (sym (c.deref.ensures.value ∙ c.in_ok-life.ensures))
    ∙ sym c.charged_before.ensures)
