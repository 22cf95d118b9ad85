use Rattle.tree_tables.proofs.MemoryTrees.{has_shapes}
use Rattle.tree_tables.proofs.memory.trees_in_memory.Goals as goal

pub returns-clause-shapes : goal.returns-clause-shapes
returns-clause-shapes c =
    has_shapes c.tree.result c.new.result c.tree.ensures c.new.ensures.shape
    c.new.ensures.clean
