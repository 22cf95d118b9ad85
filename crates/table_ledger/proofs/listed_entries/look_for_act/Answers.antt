use Rattle.std.proofs.Common.{option_map, refl}
use Rattle.book_model.specs.Words.{ruling_shown}
use Rattle.table_ledger.proofs.LooksRefused.{look_refused}
use Rattle.table_ledger.proofs.TryLemmas.{looks_known, saw_found, saw_none}
use Rattle.table_ledger.proofs.listed_entries.look_for_act.Goals as goal

-- an import says what its row does
pub returns-in-Import-clause-looks : goal.returns-in-Import-clause-looks
returns-in-Import-clause-looks g c =
    rw c.in-Import.is (looks_known saw_none (λ tables nothing. refl))

-- a ruling is that of its place
pub returns-in_ok-found-in-Ruling-clause-looks : goal.returns-in_ok-found-in-Ruling-clause-looks
returns-in_ok-found-in-Ruling-clause-looks g c =
    rw c.in-Ruling.is
    (looks_known (saw_found c.in_ok-found-in-Ruling.ensures.looks)
    (λ tables known. (option_map ruling_shown c.in_ok-found-in-Ruling.found, known, refl)))

-- what is not read leaves all as it was
pub returns-in_err-found-in-Ruling-clause-looks : goal.returns-in_err-found-in-Ruling-clause-looks
returns-in_err-found-in-Ruling-clause-looks g c =
    look_refused _ c.from_residual.ensures.0 saw_none c.in_err-found-in-Ruling.ensures.looks
