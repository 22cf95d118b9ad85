use Rattle.std.proofs.Common.{◌∙◌, Err, Result, [], ap, arith, get_or, subst}
use Rattle.std.proofs.lemmas.Result.{err_from_is_err_and}
use Rattle.book_model.specs.declared.answer.Ruled.{Ruled}
use Rattle.book_model.specs.declared.fault.LedgerFault.{LedgerFault}
use Rattle.book_model.specs.Words.{note_given, withhold_outcome}
use Rattle.book_core.specs.Calls.{IsCall}
use Rattle.book_core.specs.declared.withheld.Withheld.{Withheld}
use Rattle.book_core.proofs.WithholdingLemmas.{first_name, more_withheld, one_refused, one_withheld}
use Rattle.book_core.proofs.ledger.Ledger.withhold_many.Goals as goal

-- the first work is refused
pub returns-in_err-answer-clause-takes : goal.returns-in_err-answer-clause-takes
returns-in_err-answer-clause-takes g c =
    let p = err_from_is_err_and c.from_residual.result c.from_residual.ensures.1 in
    let old = g.Self.Ledger.seen c.args.self.now in
    one_refused (note_given c.args.note.now) c.args.names.now c.from_residual.result (p.1 ∙ ap Err p.2)
    c.requires c.in_err-answer.ensures.held
    (first_name c.args.names.now [] c.requires)
    (subst (λ (told : Result Ruled LedgerFault). IsCall (λ (ruled : Ruled). ruled) old
    (g.Self.Ledger.seen c.withhold-told.new.self) told
    (withhold_outcome old.naming (note_given c.args.note.now) (get_or c.args.names.now 0 [])))
    c.in_err-answer.ensures.refused c.withhold-told.ensures)

-- or it is answered
pub returns-clause-takes : goal.returns-clause-takes
returns-clause-takes g c =
    let answer = c.in_ok-answer.answer in
    let old = g.Self.Ledger.seen c.args.self.now in
    one_withheld (note_given c.args.note.now) answer (c.with_answer.ensures.value ∙ more_withheld [] answer)
    c.requires
    (first_name c.args.names.now [] c.requires)
    (subst (λ (told : Result Ruled LedgerFault). IsCall (λ (ruled : Ruled). ruled) old
    (g.Self.Ledger.seen c.withhold-told.new.self) told
    (withhold_outcome old.naming (note_given c.args.note.now) (get_or c.args.names.now 0 [])))
    c.in_ok-answer.ensures.answer c.withhold-told.ensures)

-- it is one of those that are there
pub returns-clause-few : goal.returns-clause-few
returns-clause-few g c =
    let one = ap (λ (told : Withheld). told.taken) c.with_answer.ensures.value in
    omega (arith, one, c.requires)

pub returns-clause-done : goal.returns-clause-done
returns-clause-done g c = c.with_answer.ensures.within
