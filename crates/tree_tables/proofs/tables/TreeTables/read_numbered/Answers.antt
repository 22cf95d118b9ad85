use Rattle.tree_tables.proofs.ChosenLists.{numbered_more}
use Rattle.tree_tables.proofs.Looking.{looks_also}
use Rattle.tree_tables.proofs.tables.TreeTables.read_numbered.Goals as goal

-- one more choice is found
pub loop-one-preserved : goal.loop-one-preserved
loop-one-preserved g c =
    looks_also c.loop-one.invariant c.in_ok-choice.ensures.looks
    (λ tables so_far found. numbered_more c.args.numbers.now c.loop-one.one-index _ tables
    c.loop-one.all.items c.push.new.self.items c.in_ok-choice.choice c.loop-one-test.true
    c.in_ok-push.ensures.items so_far found)
