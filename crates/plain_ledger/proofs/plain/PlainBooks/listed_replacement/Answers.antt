use Rattle.std.proofs.Common.{◌∙◌, SFits, arith, rules, w32}
use Rattle.book_model.proofs.Std.{to_z-of_z}
use Rattle.plain_ledger.specs.PlainBook.{book_in, naming_in}
use Rattle.plain_ledger.proofs.PlaceLemmas.{replacement_here}
use Rattle.plain_ledger.proofs.plain.PlainBooks.listed_replacement.Goals as goal

-- it is the next of the day of the one that was replaced
pub returns-clause-shown : goal.returns-clause-shown
returns-clause-shown g c =
    let ledger = c.args.self.now in
    let day = c.replaced_day-day.result in
    let fits : SFits w32 day = search rules in
    (rw (to_z-of_z w32 day fits) at c.in_ok-found.ensures.shown)
    ∙ replacement_here (g.N.Naming.name_of (naming_in ledger)) (book_in ledger).rulings
    c.args.number c.in_ok-place.place day c.in_ok-place.ensures.its c.replaced_day-day.ensures

-- so many were replaced
pub replaced_day-day-requires : goal.replaced_day-day-requires
replaced_day-day-requires g c =
    omega (arith, c.replaced_count-count.ensures, c.in_ok-place.ensures.there)
