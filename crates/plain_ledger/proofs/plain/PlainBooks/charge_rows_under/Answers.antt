use Rattle.std.proofs.Common.{◌≡◌, ◌∙◌, sym, ap, subst, Bool, Ok, refl}
use Rattle.book_model.specs.Words.{AreRows, FitSums, period_of, rows_if_room, rows_of}
use Rattle.book_model.specs.Words.{what_if_answer}
use Rattle.plain_ledger.specs.Plain.{Entry}
use Rattle.plain_ledger.specs.PlainBook.{book_in}
use Rattle.plain_ledger.specs.Treatments.{is_counted, treatment_in}
use Rattle.plain_ledger.proofs.OtherPriceLemmas.{answer_under, fit_under, room_of, shown_under}
use Rattle.plain_ledger.proofs.OtherPriceLemmas.{when_dear, when_room}
use Rattle.plain_ledger.proofs.plain.PlainBooks.charge_rows_under.Given.{Over}
use Rattle.plain_ledger.proofs.plain.PlainBooks.charge_rows_under.Goals as goal
use Rattle.plain_ledger.proofs.plain.PlainBooks.charge_rows_under.Goals.{After-are_too_dear}

pub charge_rows-requires : goal.charge_rows-requires
charge_rows-requires g c =
    let ledger = c.args.self.now in
    let counted : Entry → Bool = λ entry.
    is_counted (treatment_in c.in_ok-period.period ledger.posted entry) in
    let prices = c.in_ok-prices.prices.items in
    subst FitSums (sym c.deref-2.ensures.value)
    (fit_under c.args.tariff.now counted ledger.held.entries prices ledger.kept.few
    c.in_ok-prices.ensures.prices c.in_ok-prices.ensures.bounds
    (room_of c.deref.ensures.value (sym c.are_too_dear.ensures ∙ c.if-are_too_dear.false)))

-- by the prices that were read the books answer so
by_prices : (g : Over) (c : After-are_too_dear g)
    → what_if_answer c.args.tariff.now (period_of (book_in c.args.self.now) c.args.number)
    ≡ rows_if_room c.deref.result.now
by_prices g c =
    let ledger = c.args.self.now in
    let counted : Entry → Bool = λ entry.
    is_counted (treatment_in c.in_ok-period.period ledger.posted entry) in
    answer_under ledger.kept ledger.rising c.args.tariff.now counted
    (period_of (book_in ledger) c.args.number) _ c.in_ok-period.ensures refl
    ∙ ap rows_if_room (sym (c.deref.ensures.value ∙ c.in_ok-prices.ensures.prices))

pub returns-then-are_too_dear-clause-rows : goal.returns-then-are_too_dear-clause-rows
returns-then-are_too_dear-clause-rows g c =
    by_prices g (goal.at.returns-then-are_too_dear-clause-rows g c).After-are_too_dear
    ∙ when_dear c.deref.result.now (sym c.are_too_dear.ensures ∙ c.if-are_too_dear.true)

pub returns-clause-rows : goal.returns-clause-rows
returns-clause-rows g c =
    by_prices g (goal.at.returns-clause-rows g c).After-are_too_dear
    ∙ when_room c.deref.result.now (sym c.are_too_dear.ensures ∙ c.if-are_too_dear.false)
    ∙ ap Ok (ap rows_of (c.deref.ensures.value ∙ sym c.deref-2.ensures.value)
    ∙ sym c.in_ok-charge_rows.ensures)

pub returns-clause-shown : goal.returns-clause-shown
returns-clause-shown g c =
    let ledger = c.args.self.now in
    let counted : Entry → Bool = λ entry.
    is_counted (treatment_in c.in_ok-period.period ledger.posted entry) in
    let prices = c.in_ok-prices.prices.items in
    subst AreRows (sym (c.in_ok-charge_rows.ensures ∙ ap rows_of c.deref-2.ensures.value))
    (shown_under c.args.tariff.now counted ledger.held.entries prices ledger.kept.few
    c.in_ok-prices.ensures.prices c.in_ok-prices.ensures.bounds
    (room_of c.deref.ensures.value (sym c.are_too_dear.ensures ∙ c.if-are_too_dear.false)))
