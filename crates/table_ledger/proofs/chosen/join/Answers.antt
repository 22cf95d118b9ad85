use Rattle.table_ledger.proofs.AcceptTries.{saw_as}
use Rattle.table_ledger.proofs.DueCharges.{joins_found}
use Rattle.table_ledger.proofs.TryLemmas.{looks_known}
use Rattle.table_ledger.proofs.chosen.join.Goals as goal

-- the record that was found is the last of its identity
pub returns-in_ok-put : goal.returns-in_ok-put
returns-in_ok-put g c = record {
  looks =
      let choice = c.args.choice.now in
      looks_known (saw_as choice.name c.in-Some.is c.in_ok-stored.ensures.looks) (λ tables found.
      joins_found c.args.chosen.now c.put.new.self choice c.in-Some.stored tables found
      c.in_ok-put.ensures);
}
