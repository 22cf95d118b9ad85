use Rattle.std.proofs.Common.{◌∙◌, ◌+◌, Some, ap, sym}
use Rattle.table_ledger.proofs.RulingReads.{credit_found}
use Rattle.table_ledger.proofs.TryLemmas.{looks_known, saw_found}
use Rattle.table_ledger.proofs.given_credits.look_for_given.Goals as goal

-- it is that of its row
pub returns : goal.returns
returns g c =
    looks_known (saw_found (rw c.in-Some.is at c.in_ok-stored.ensures.looks)) (λ tables known.
    credit_found (c.args.place + 1) c.in-Some.stored tables known
    ∙ ap Some (sym c.credit_in.ensures))
