use Rattle.std.proofs.Common.{Bool, subst, sym}
use Rattle.book_model.specs.declared.answer.Ruled.{Ruled}
use Rattle.book_model.specs.Words.{note_given}
use Rattle.book_core.specs.Calls.{IsCall}
use Rattle.office.specs.Choices.{named_outcome}
use Rattle.office.proofs.choosing.choose_named.Goals as goal

pub returns-then-withheld : goal.returns-then-withheld
returns-then-withheld g c =
    let seen = g.L.Ledger.seen in
    let old = seen c.args.ledger.now in
    subst (λ (withheld : Bool). IsCall (λ (ruled : Ruled). ruled) old (seen c.withhold.new.self)
    c.withhold.result (named_outcome (note_given c.args.note.now) withheld old.naming c.args.name))
    (sym c.if-withheld.true) c.withhold.ensures

pub returns : goal.returns
returns g c =
    let seen = g.L.Ledger.seen in
    let old = seen c.args.ledger.now in
    subst (λ (withheld : Bool). IsCall (λ (ruled : Ruled). ruled) old (seen c.choose.new.self)
    c.choose.result (named_outcome (note_given c.args.note.now) withheld old.naming c.args.name))
    (sym c.if-withheld.false) c.choose.ensures
