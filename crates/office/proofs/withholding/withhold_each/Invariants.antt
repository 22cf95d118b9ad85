use Rattle.std.proofs.Common.{length}
use Rattle.book_model.specs.Words.{note_given}
use Rattle.office.proofs.WithholdingLemmas.{SoFar}
use Rattle.office.proofs.withholding.withhold_each.Given as goal

-- the works of the names before the rest were withheld and counted
abbrev pub invariant-loop-rest : goal.invariant-loop-rest
invariant-loop-rest g l =
    SoFar (note_given l.fn.note) (g.L.Ledger.seen l.initial.ledger)
    (g.L.Ledger.seen l.ledger) l.fn.names l.rest l.counts

abbrev pub decreases-loop-rest : goal.decreases-loop-rest
decreases-loop-rest g l = length l.rest
