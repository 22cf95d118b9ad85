use Rattle.plain_ledger.proofs.MadeLemmas.{begins}
use Rattle.plain_ledger.proofs.made_entries.join.Goals as goal

-- it begins an entry
pub returns : goal.returns
returns c =
    begins c.args.said.now c.args.made.now.items c.push.new.self.items c.in-Some.entry
    c.in_ok-push.ensures.items (rw c.in-Some.is at c.in_ok-entry.ensures)

-- else the newest entry is about it
pub change_last-requires : goal.change_last-requires
change_last-requires c = rw c.in_default.is at c.in_ok-entry.ensures
