use Rattle.std.proofs.Common.{subst}
use Rattle.book_model.specs.declared.answer.Ruled.{Ruled}
use Rattle.book_model.specs.Words.{close_outcome, note_given}
use Rattle.book_model.proofs.Lemmas.{day_kept}
use Rattle.book_core.specs.Calls.{IsCall}
use Rattle.book_core.proofs.ledger.Ledger.close.Goals as goal

pub returns : goal.returns
returns g c =
    let old = g.Self.Ledger.seen c.args.self.now in
    let new = g.Self.Ledger.seen c.rule.new.self in
    subst (λ day. IsCall (λ (ruled : Ruled). ruled) old new c.rule.result
    (close_outcome (note_given c.args.note.now) c.args.period day))
    (day_kept c.args.through c.requires) c.rule.ensures
