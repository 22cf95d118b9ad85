use Rattle.std.proofs.Common.{subst, sym}
use Rattle.book_files.specs.Releases.{UnmovedLooksShort}
use Rattle.book_files.proofs.log.Log.release.Goals as goal

pub returns-in-Unmoved-clause-short : goal.returns-in-Unmoved-clause-short
returns-in-Unmoved-clause-short g c = λ none.
    subst (λ left. UnmovedLooksShort g.D.Disk left c.args.closed.files) (sym c.in-Unmoved.is)
    (c.leave.ensures.short none)

pub returns-in-Short-clause-short : goal.returns-in-Short-clause-short
returns-in-Short-clause-short g c = λ none.
    subst (λ left. UnmovedLooksShort g.D.Disk left c.args.closed.files) (sym c.in-Short.is) tt
