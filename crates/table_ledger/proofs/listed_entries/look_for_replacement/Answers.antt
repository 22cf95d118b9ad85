use Rattle.std.proofs.Common.{SFits, arith, refl, rules, w32}
use Rattle.book_model.proofs.Std.{to_z-of_z}
use Rattle.table_ledger.proofs.EntryTries.{replacement_found}
use Rattle.table_ledger.proofs.LooksRefused.{look_given_up, look_refused}
use Rattle.table_ledger.proofs.TryLemmas.{looks_known, saw_found, saw_none, saw_then}
use Rattle.table_ledger.proofs.listed_entries.look_for_replacement.Goals as goal

-- it is that of the day of the one that was replaced
pub returns-clause-looks : goal.returns-clause-looks
returns-clause-looks g c =
    let number = c.args.number in
    let day = c.in-Some.tariff.day in
    let fits : SFits w32 day = search rules in
    looks_known (saw_then (saw_found (rw c.in-Some.is at c.in_ok-tariff.ensures.looks))
    (saw_found (rw (to_z-of_z w32 day fits) at c.in_ok-found.ensures.looks)))
    (λ tables known. replacement_found c.args.summary.now number tables c.in-Some.tariff _
    (omega (arith, c.if-number-eq0.false)) known.0 known.1)

-- ---- what is not read leaves all as it was

pub returns-then-number-eq0-clause-looks : goal.returns-then-number-eq0-clause-looks
returns-then-number-eq0-clause-looks g c = look_given_up _ refl saw_none

pub returns-in_err-tariff-clause-looks : goal.returns-in_err-tariff-clause-looks
returns-in_err-tariff-clause-looks g c =
    look_refused _ c.from_residual.ensures.0 saw_none c.in_err-tariff.ensures.looks

pub returns-in_default-clause-looks : goal.returns-in_default-clause-looks
returns-in_default-clause-looks g c =
    look_given_up _ refl (saw_found c.in_ok-tariff.ensures.looks)

pub returns-in_err-found-clause-looks : goal.returns-in_err-found-clause-looks
returns-in_err-found-clause-looks g c =
    look_refused _ c.from_residual-in_err-found.ensures.0
    (saw_found c.in_ok-tariff.ensures.looks) c.in_err-found.ensures.looks
