use Rattle.std.proofs.Common.{subst}
use Rattle.book_model.specs.Words.{note_given}
use Rattle.book_core.specs.Transition.{IsTransition}
use Rattle.chargectl.specs.WithheldWorks.{WorksBy}
use Rattle.chargectl.proofs.withheld_works.NamedWorksVisit.visit.Goals as goal

pub returns-clause-done : goal.returns-clause-done
returns-clause-done g c =
    let seen = g.L.Ledger.seen in
    let old = seen c.args.books.now in
    subst (λ names. IsTransition old (seen c.withhold_each.new.ledger)
    (WorksBy (note_given c.args.self.now.note) old.naming names c.withhold_each.result))
    c.deref.ensures.value c.withhold_each.ensures
