use Rattle.std.proofs.Common.{◌∙◌, ap, arith, sym}
use Rattle.table_model.specs.ListsRead.{choice_read_at}
use Rattle.table_ledger.proofs.LooksRefused.{look_given_up, look_refused}
use Rattle.table_ledger.proofs.TryLemmas.{looks_known, saw_found, saw_none}
use Rattle.table_ledger.proofs.listed_entries.look_for_numbered.Goals as goal

-- its number is one that was chosen
pub look_for_choice-requires : goal.look_for_choice-requires
look_for_choice-requires g c =
    let few = c.args.summary.now.chosen in
    omega (arith, few, c.in_ok-place.ensures.there)

-- it is read under it
pub returns-clause-looks : goal.returns-clause-looks
returns-clause-looks g c =
    let its = c.in_ok-place.ensures.its in
    looks_known (saw_found c.in_ok-ruling.ensures.looks) (λ tables known. (
      omega (arith, its),
      sym known ∙ ap (λ n. choice_read_at n tables.choices) (sym its),
    ))

-- ---- what is not read leaves all as it was

pub returns-in_err-place-clause-looks : goal.returns-in_err-place-clause-looks
returns-in_err-place-clause-looks g c = look_given_up _ c.from_residual.ensures.0 saw_none

pub returns-in_err-ruling-clause-looks : goal.returns-in_err-ruling-clause-looks
returns-in_err-ruling-clause-looks g c =
    look_refused _ c.from_residual-in_err-ruling.ensures.0 saw_none
    c.in_err-ruling.ensures.looks
