use Rattle.std.proofs.Common.{◌≡◌, ◌∙◌, ◌-◌, arith, option_map, slice_get, sym}
use Rattle.book_model.specs.Words.{choice_seen}
use Rattle.plain_ledger.specs.PlainBook.{book_in, naming_in}
use Rattle.plain_ledger.proofs.plain.PlainBooks.listed_choice.Goals as goal

-- it is shown by its number
pub returns-clause-shown : goal.returns-clause-shown
returns-clause-shown g c =
    let ledger = c.args.self.now in
    let all = (book_in ledger).rulings.choices in
    let its = c.in_ok-place.ensures.its in
    let same : c.in_ok-place.place ≡ c.args.number - 1 = omega (arith, its) in
    c.choice_listed-ruling.ensures.listed
    ∙ (λ i. option_map (choice_seen (g.N.Naming.name_of (naming_in ledger)) (sym its i))
    (slice_get all (same i)))

-- it is one of them
pub choice_listed-ruling-requires : goal.choice_listed-ruling-requires
choice_listed-ruling-requires g c = omega (arith, c.choice_count-count.ensures, c.in_ok-place.ensures.there)
