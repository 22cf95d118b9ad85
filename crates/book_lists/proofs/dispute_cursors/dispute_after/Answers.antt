use Rattle.std.proofs.Common.{refl}
use Rattle.book_lists.proofs.DisputeCursorLemmas.{behind_asked}
use Rattle.book_lists.proofs.ReadingLemmas.{passed_on}
use Rattle.book_lists.proofs.ShownLemmas.{answers_none, nothing_shown}
use Rattle.book_lists.proofs.dispute_cursors.dispute_after.Goals as goal

-- there is no last one
pub returns-in_default-clause-dispute : goal.returns-in_default-clause-dispute
returns-in_default-clause-dispute g c = rw c.in_default.is c.dispute_from.ensures.dispute

-- there is no memory for the bytes behind it
pub returns-in_err-from-clause-dispute : goal.returns-in_err-from-clause-dispute
returns-in_err-from-clause-dispute g c =
    rw (passed_on c.from_residual.result c.from_residual.ensures.1)
    (answers_none (λ book. refl) (nothing_shown (g.L.Ledger.seen c.args.ledger.now) c.requires))

-- the next one is the first from them on
pub returns-clause-dispute : goal.returns-clause-dispute
returns-clause-dispute g c =
    behind_asked c.args.last c.in-Some.dispute c.in_ok-from.from.items c.in-Some.is
    c.in_ok-from.ensures (rw c.deref.ensures.value at c.dispute_from-2.ensures.dispute)
