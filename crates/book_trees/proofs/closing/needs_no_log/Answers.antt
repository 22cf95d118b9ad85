use Rattle.std.proofs.Common.{◌<◌, arith, length}
use Rattle.book_trees.specs.LedgerFiles.{shortest_log}
use Rattle.book_trees.proofs.UnusedLogs.{short_alone}
use Rattle.book_trees.proofs.closing.needs_no_log.Goals as goal

pub returns-clause-alone : goal.returns-clause-alone
returns-clause-alone c taken image same wanted held =
    let short : length image.log < shortest_log = grind (arith, taken, same) in
    short_alone image short held
