use Rattle.without_books.proofs.OutputLemmas.{flush_failed}
use Rattle.without_books.proofs.printed_text.let_out.Goals as goal

pub returns-in-Err-clause-failed : goal.returns-in-Err-clause-failed
returns-in-Err-clause-failed g c =
    flush_failed g.O.Writer.may_answer c.args.output.now c.let_go.new.self c.in-Err.error
    c.in-Err.ensures.failed
