use Rattle.std.proofs.Common.{arith}
use Rattle.book_trees.proofs.ClosedFiles.{found_rows, found_whole, store_clean}
use Rattle.book_trees.proofs.closing.close_over.Goals as goal

pub returns-clause-honest : goal.returns-clause-honest
returns-clause-honest g c =
    store_clean c.args.store c.args.store c.close-files.result c.close-files.result.log
    g.met.D.Disk.seen_may_stay (λ trees left. left) (omega arith) c.close-files.ensures
    (λ clean. clean) (λ bytes may. may)

pub returns-clause-left : goal.returns-clause-left
returns-clause-left g c kept =
    found_whole c.args.store c.args.store c.close-files.result c.close-files.result.log
    g.met.D.Disk.seen_may_stay (λ trees left. left) (omega arith) c.close-files.ensures
    (λ clean. clean) (λ bytes may. may) (c.is_seen-is_kept.ensures kept)

pub returns-clause-rows : goal.returns-clause-rows
returns-clause-rows g c =
    found_rows c.args.store c.args.store c.close-files.result c.close-files.result.log
    g.met.D.Disk.seen_may_stay (λ trees left. left) (omega arith) c.close-files.ensures
    (λ clean. clean) (λ bytes may. may)
