use Rattle.tree_tables.proofs.FoundNames.{named_more}
use Rattle.tree_tables.proofs.Looking.{looks_also}
use Rattle.tree_tables.proofs.tables.TreeTables.read_named.Goals as goal

-- one more record is found
pub loop-named-preserved : goal.loop-named-preserved
loop-named-preserved g c =
    looks_also c.loop-named.invariant c.in_ok-record.ensures.looks
    (λ tables so_far found. named_more c.args.names.now c.loop-named.named-index _ tables
    c.loop-named.all.items c.push.new.self.items c.in_ok-record.record c.loop-named-test.true
    c.in_ok-push.ensures.items so_far found)
