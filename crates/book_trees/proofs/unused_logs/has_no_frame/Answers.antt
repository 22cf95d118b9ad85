use Rattle.std.proofs.Common.{length, subst, ℕ}
use Rattle.sqlite_wal.specs.Recovery.{Replays}
use Rattle.book_trees.specs.LedgerFiles.{page_size}
use Rattle.book_trees.proofs.UnusedLogs.{lists_none}
use Rattle.book_trees.proofs.unused_logs.has_no_frame.Goals as goal

pub returns-in-Ok-clause-none : goal.returns-in-Ok-clause-none
returns-in-Ok-clause-none g c clean =
    let pages = c.in-Ok.pages in
    let log = g.D.Disk.seen c.args.log.now in
    lists_none page_size log pages.items _ c.is_empty.result c.is_empty.ensures pages.ok.0
    (subst (λ (size : ℕ). Replays size log (length pages.items)) c.size_of_a_page.ensures
    (c.in-Ok.ensures.ok clean).0)
