use Rattle.std.proofs.Common.{◌∙◌, ◌≢◌, ap, arith, option_map, sym}
use Rattle.book_model.specs.Words.{CloseSeen, close_of}
use Rattle.book_model.proofs.ListedLemmas.{closes_count}
use Rattle.book_core.specs.OfficeRulings.{ruled_in}
use Rattle.book_core.proofs.ClosesListed.{close_listed, close_past}
use Rattle.book_core.proofs.rulings.Rulings.listed_close.Goals as goal

-- no period has the number 0
pub returns-then-period-eq0-clause-shown : goal.returns-then-period-eq0-clause-shown
returns-then-period-eq0-clause-shown c =
    sym (ap (λ period. option_map (CloseSeen period)
    (close_of period (ruled_in c.args.self.now).closes)) c.if-period-eq0.true)

-- it was closed
pub returns-in-Ok-clause-shown : goal.returns-in-Ok-clause-shown
returns-in-Ok-clause-shown c =
    let period = c.args.period in
    let some : period ≢ 0 = λ none. omega (arith, none, c.if-period-eq0.false) in
    let leads = rw (c.closes.ensures, c.in-Ok.is) at c.close_at.ensures.leads in
    sym leads.1 ∙ close_listed (ruled_in c.args.self.now).closes period some

-- or is open, or later
pub returns-in-Err-clause-shown : goal.returns-in-Err-clause-shown
returns-in-Err-clause-shown c =
    let period = c.args.period in
    let closes = (ruled_in c.args.self.now).closes in
    let some : period ≢ 0 = λ none. omega (arith, none, c.if-period-eq0.false) in
    let leads = rw (c.closes.ensures, c.in-Err.is) at c.close_at.ensures.leads in
    let count = closes_count 1 closes in
    close_past closes period some (omega (arith, leads, count))
