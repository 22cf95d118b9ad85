use Rattle.book_trees.proofs.ClosedFiles.{found_rows, found_whole, log_leaves, store_clean}
use Rattle.book_trees.proofs.closing.close_moved.Goals as goal

pub returns-clause-honest : goal.returns-clause-honest
returns-clause-honest g c =
    store_clean c.args.store c.checkpoint_log-moved.new.store
    c.close_over-closed.result.files c.log_left-closed.new.log g.met.D.Disk.seen_may_stay
    c.checkpoint_log-moved.ensures.outcomes c.checkpoint_log-moved.ensures.clean
    c.close_over-closed.ensures.files c.log_left-closed.ensures.clean c.log_left-closed.ensures.crash

pub returns-clause-log : goal.returns-clause-log
returns-clause-log g c =
    log_leaves c.args.store c.checkpoint_log-moved.new.store
    c.close_over-closed.result.files c.log_left-closed.new.log g.met.D.Disk.seen_may_stay
    c.checkpoint_log-moved.ensures.outcomes c.checkpoint_log-moved.ensures.clean
    c.close_over-closed.ensures.files c.log_left-closed.ensures.clean c.log_left-closed.ensures.crash
    c.checkpoint_log-moved.result c.checkpoint_log-moved.ensures.moved c.log_left-closed.result
    c.log_left-closed.ensures.short c.log_left-closed.ensures.emptied
    c.log_left-closed.ensures.tried

pub returns-clause-left : goal.returns-clause-left
returns-clause-left g c kept =
    found_whole c.args.store c.checkpoint_log-moved.new.store
    c.close_over-closed.result.files c.log_left-closed.new.log g.met.D.Disk.seen_may_stay
    c.checkpoint_log-moved.ensures.outcomes c.checkpoint_log-moved.ensures.clean
    c.close_over-closed.ensures.files c.log_left-closed.ensures.clean c.log_left-closed.ensures.crash
    (c.close_over-closed.ensures.kept kept)

pub returns-clause-rows : goal.returns-clause-rows
returns-clause-rows g c =
    found_rows c.args.store c.checkpoint_log-moved.new.store
    c.close_over-closed.result.files c.log_left-closed.new.log g.met.D.Disk.seen_may_stay
    c.checkpoint_log-moved.ensures.outcomes c.checkpoint_log-moved.ensures.clean
    c.close_over-closed.ensures.files c.log_left-closed.ensures.clean c.log_left-closed.ensures.crash
