use Rattle.book_trees.proofs.Moved.{moved_if_open}
use Rattle.book_trees.proofs.closing.checkpoint_log.Goals as goal

pub returns-clause-moved : goal.returns-clause-moved
returns-clause-moved g c =
    moved_if_open _ _ _ c.checkpoint.result c.checkpoint.ensures.moved c.rollback.ensures.logged

-- no outcome is new after either of the two
pub returns-clause-outcomes : goal.returns-clause-outcomes
returns-clause-outcomes g c = λ trees left.
    c.rollback.ensures.quiet.outcomes trees (c.checkpoint.ensures.quiet.outcomes trees left)
