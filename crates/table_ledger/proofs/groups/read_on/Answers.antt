use Rattle.std.proofs.Common.{◌∙◌, [], ◌∷◌, ap}
use Rattle.book_model.specs.Words.{read_with}
use Rattle.table_ledger.proofs.AnswersRead.{read_more}
use Rattle.table_ledger.proofs.groups.read_on.Goals as goal

-- one more is
pub loop-answer-preserved : goal.loop-answer-preserved
loop-answer-preserved c =
    c.in_ok-more.ensures ∙ ap (read_with (_ ∷ [])) c.loop-answer.invariant
    ∙ read_more c.args.answers.now c.loop-answer.answer-index _ _ c.loop-answer-test.true
