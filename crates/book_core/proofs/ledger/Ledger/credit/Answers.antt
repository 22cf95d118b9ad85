use Rattle.std.proofs.Common.{subst, sym, w64, ℤ}
use Rattle.book_model.proofs.Std.{to_z-of_z}
use Rattle.book_model.specs.declared.answer.Ruled.{Ruled}
use Rattle.book_model.specs.Words.{IsCreditOf, credit_outcome, note_given}
use Rattle.book_core.specs.Calls.{IsCall}
use Rattle.book_core.proofs.ledger.Ledger.credit.Goals as goal

pub rule-requires : goal.rule-requires
rule-requires g c =
    subst (λ (amount : ℤ). IsCreditOf c.args.centre amount c.args.reason.now)
    (sym (to_z-of_z w64 c.args.amount c.ranges.amount)) c.requires

pub returns : goal.returns
returns g c =
    let old = g.Self.Ledger.seen c.args.self.now in
    let new = g.Self.Ledger.seen c.rule.new.self in
    subst (λ (amount : ℤ). IsCall (λ (ruled : Ruled). ruled) old new c.rule.result
    (credit_outcome (note_given c.args.note.now) c.args.period c.args.centre amount
    c.args.reason.now))
    (to_z-of_z w64 c.args.amount c.ranges.amount) c.rule.ensures
