use Rattle.std.proofs.Common.{subst, sym, IfSome}
use Rattle.book_files.specs.Logs.{LooksShort}
use Rattle.book_files.proofs.log.Log.leave.Goals as goal

pub returns-in-Some-clause-short : goal.returns-in-Some-clause-short
returns-in-Some-clause-short g c = λ none.
    subst (λ files. IfSome files (LooksShort g.D.Disk)) (sym c.in-Some.is)
    (c.leave_locked.ensures.short none)

pub returns-in-None-clause-short : goal.returns-in-None-clause-short
returns-in-None-clause-short g c = λ none.
    subst (λ files. IfSome files (LooksShort g.D.Disk)) (sym c.in-None.is) tt
