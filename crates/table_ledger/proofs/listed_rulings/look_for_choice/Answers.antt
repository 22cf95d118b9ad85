use Rattle.std.proofs.Common.{◌∙◌, ◌+◌, Some, ap, sym}
use Rattle.table_ledger.proofs.RulingReads.{choice_found}
use Rattle.table_ledger.proofs.TryLemmas.{looks_known, saw_found}
use Rattle.table_ledger.proofs.listed_rulings.look_for_choice.Goals as goal

-- it is shown as its row says
pub returns-clause-looks : goal.returns-clause-looks
returns-clause-looks g c =
    looks_known (saw_found (rw c.in-Some.is at c.in_ok-choice.ensures.looks)) (λ tables known.
    choice_found (c.args.place + 1) c.in-Some.choice tables known
    ∙ ap Some (sym c.listed_choice.ensures.shown))
