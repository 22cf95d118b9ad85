use Rattle.table_ledger.proofs.TryLemmas.{looks_known, saw_found, saw_then}
use Rattle.table_ledger.proofs.groups.newest_entry.Goals as goal

-- its number, and its row
pub returns : goal.returns
returns g c =
    looks_known (saw_then (saw_found c.in_ok-number.ensures.looks) (saw_found c.in_ok-entry.ensures.looks))
    (λ tables known. record { number = known.0; entry = known.1 })
