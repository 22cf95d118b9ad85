use Rattle.sqlite_wal.specs.Reads.{IsClean}
use Rattle.book_trees.proofs.UnusedLogs.{passed_alone}
use Rattle.book_trees.proofs.unused_logs.is_unused.Goals as goal

pub returns-clause-alone : goal.returns-clause-alone
returns-clause-alone g c =
    passed_alone (IsClean g.D.Disk c.has_no_frame.new.log) (g.D.Disk.seen c.args.log.now)
    (g.D.Disk.seen c.len.new.self) c.has_no_frame.result c.len.ensures.seen
    c.has_no_frame.ensures.none
