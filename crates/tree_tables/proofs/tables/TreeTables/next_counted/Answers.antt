use Rattle.tree_tables.proofs.LateWalk.{counted_some}
use Rattle.tree_tables.proofs.Looking.{looks_also}
use Rattle.tree_tables.proofs.tables.TreeTables.next_counted.Goals as goal

-- the record of the first one is read
pub returns : goal.returns
returns g c = record {
  looks = looks_also (rw c.in-Some.is at c.in_ok-detail.ensures.looks) c.in_ok-stored.ensures.looks
      (λ tables next found. counted_some tables c.args.start.now c.in-Some.detail next
      c.in_ok-stored.stored found);
}
