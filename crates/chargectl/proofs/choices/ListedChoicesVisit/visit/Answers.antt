use Rattle.std.proofs.Common.{subst}
use Rattle.book_model.specs.Words.{note_given}
use Rattle.book_core.specs.Transition.{IsTransition}
use Rattle.chargectl.specs.Choices.{ChoosesBy}
use Rattle.chargectl.proofs.ListLemmas.{choices_made}
use Rattle.chargectl.proofs.choices.ListedChoicesVisit.visit.Goals as goal

pub returns-clause-done : goal.returns-clause-done
returns-clause-done g c =
    let seen = g.L.Ledger.seen in
    let old = c.args.books.now in
    let new = c.choose_each.new.ledger in
    let told = c.choose_each.result in
    let said = note_given c.args.self.now.note in
    subst (λ names. IsTransition (seen old) (seen new) (ChoosesBy said c.args.self.now.withheld
    (seen old).naming names told))
    c.deref.ensures.value
    (choices_made said c.args.self.now.withheld seen old new c.deref.result.now told
    c.choose_each.ensures.chosen c.choose_each.ensures.none)
