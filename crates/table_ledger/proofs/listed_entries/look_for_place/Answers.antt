use Rattle.std.proofs.Common.{SFits, rules, w32}
use Rattle.book_model.proofs.Std.{to_z-of_z}
use Rattle.table_ledger.proofs.TryLemmas.{looks_known, saw_none}
use Rattle.table_ledger.proofs.listed_entries.look_for_place.Goals as goal

pub returns-in-Tariff-clause-looks : goal.returns-in-Tariff-clause-looks
returns-in-Tariff-clause-looks g c =
    let day = c.in-Tariff.day in
    let fits : SFits w32 day = search rules in
    rw c.in-Tariff.is
    (rw (to_z-of_z w32 day fits) at c.look_for_brought.ensures.looks)

-- a close is remembered
pub returns-in-Close-clause-looks : goal.returns-in-Close-clause-looks
returns-in-Close-clause-looks g c =
    rw c.in-Close.is
    (looks_known saw_none (λ tables nothing. c.listed_close.ensures.shown))

pub returns-in-Choice-clause-looks : goal.returns-in-Choice-clause-looks
returns-in-Choice-clause-looks g c =
    rw c.in-Choice.is c.look_for_numbered.ensures.looks

-- so is the adoption
pub returns-in-Adoption-clause-looks : goal.returns-in-Adoption-clause-looks
returns-in-Adoption-clause-looks g c =
    rw c.in-Adoption.is
    (looks_known saw_none (λ tables nothing. c.listed_adoption.ensures.shown))

pub returns-in-Replacement-clause-looks : goal.returns-in-Replacement-clause-looks
returns-in-Replacement-clause-looks g c =
    rw c.in-Replacement.is c.look_for_replacement.ensures.looks

pub returns-in-Credit-clause-looks : goal.returns-in-Credit-clause-looks
returns-in-Credit-clause-looks g c =
    rw c.in-Credit.is c.look_for_numbered_credit.ensures.looks
