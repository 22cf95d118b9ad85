use Rattle.std.proofs.Common.{◌≡◌, ◌∙◌, ◌-◌, arith, option_map, slice_get, sym}
use Rattle.book_model.specs.Words.{credit_seen}
use Rattle.plain_ledger.specs.PlainBook.{book_in}
use Rattle.plain_ledger.proofs.plain.PlainBooks.listed_credit.Goals as goal

-- it is shown by its number
pub returns-clause-shown : goal.returns-clause-shown
returns-clause-shown g c =
    let ledger = c.args.self.now in
    let all = (book_in ledger).rulings.credits in
    let its = c.in_ok-place.ensures.its in
    let same : c.in_ok-place.place ≡ c.args.number - 1 = omega (arith, its) in
    c.in_ok-ruling.ensures.listed
    ∙ (λ i. option_map (credit_seen (sym its i)) (slice_get all (same i)))

-- it is one of them
pub credit_listed-requires : goal.credit_listed-requires
credit_listed-requires g c = omega (arith, c.credit_count-count.ensures, c.in_ok-place.ensures.there)
