use Rattle.std.proofs.Common.{subst, sym}
use Rattle.book_files.specs.Releases.{LeftLooksShort}
use Rattle.book_files.proofs.releases.released.Goals as goal

pub returns-then-is_kept-clause-short : goal.returns-then-is_kept-clause-short
returns-then-is_kept-clause-short g c = λ none.
    subst (LeftLooksShort g.D.Disk) (sym c.in-Closed.is) (c.release-has_log.ensures.short none)

pub returns-else-is_kept-clause-short : goal.returns-else-is_kept-clause-short
returns-else-is_kept-clause-short g c = λ none.
    subst (LeftLooksShort g.D.Disk) (sym c.in-Closed.is) (c.release-has_log.ensures.short none)

pub returns-in-Refused-clause-short : goal.returns-in-Refused-clause-short
returns-in-Refused-clause-short g c = λ none.
    subst (LeftLooksShort g.D.Disk) (sym c.in-Refused.is) (c.leave-has_log.ensures.short none)
