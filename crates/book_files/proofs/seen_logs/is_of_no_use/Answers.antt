use Rattle.std.proofs.Common.{subst, sym}
use Rattle.book_trees.specs.LedgerFiles.{IsUnused}
use Rattle.book_sessions.proofs.Causes.{ok_so}
use Rattle.book_files.proofs.seen_logs.is_of_no_use.Goals as goal

-- what was seen of it is what it holds still
pub returns : goal.returns
returns g c =
    ok_so c.is_unused.result c.is_unused.ensures.unused (λ is told yes. record {
      unused = λ clean.
          subst IsUnused (sym c.is_unused.ensures.read.seen) ((told clean).0 yes);
    })
