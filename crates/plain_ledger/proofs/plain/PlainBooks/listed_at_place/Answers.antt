use Rattle.std.proofs.Common.{SFits, rules, w32}
use Rattle.book_model.proofs.Std.{to_z-of_z}
use Rattle.plain_ledger.proofs.plain.PlainBooks.listed_at_place.Goals as goal

pub returns-in_ok-listed_brought-in-Tariff-clause-shown :
    goal.returns-in_ok-listed_brought-in-Tariff-clause-shown
returns-in_ok-listed_brought-in-Tariff-clause-shown g c =
    let day = c.in-Tariff.day in
    let fits : SFits w32 day = search rules in
    rw c.in-Tariff.is
    (rw (to_z-of_z w32 day fits) at c.in_ok-listed_brought-in-Tariff.ensures.shown)

pub returns-in-Close-clause-shown : goal.returns-in-Close-clause-shown
returns-in-Close-clause-shown g c = rw c.in-Close.is c.listed_close.ensures.shown

pub returns-in-Choice-clause-shown : goal.returns-in-Choice-clause-shown
returns-in-Choice-clause-shown g c = rw c.in-Choice.is c.listed_choice.ensures.shown

pub returns-in-Adoption-clause-shown : goal.returns-in-Adoption-clause-shown
returns-in-Adoption-clause-shown g c = rw c.in-Adoption.is c.listed_adoption.ensures.shown

pub returns-in-Replacement-clause-shown : goal.returns-in-Replacement-clause-shown
returns-in-Replacement-clause-shown g c = rw c.in-Replacement.is c.listed_replacement.ensures.shown

pub returns-in-Credit-clause-shown : goal.returns-in-Credit-clause-shown
returns-in-Credit-clause-shown g c = rw c.in-Credit.is c.listed_credit.ensures.shown
