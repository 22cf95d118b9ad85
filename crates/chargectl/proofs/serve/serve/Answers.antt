use Rattle.streams.specs.Failures.{HasFailed}
use Rattle.named_books.proofs.ShelfLemmas.{opened_untouched}
use Rattle.chargectl.proofs.ServingLemmas.{serves_after, serves_none}
use Rattle.chargectl.proofs.serve.serve.Goals as goal

pub returns-in-Ok : goal.returns-in-Ok
returns-in-Ok g c =
    let shelf = g.S.Repository.shelf in
    let contents = g.O.Write.contents in
    let book = c.args.book.now in
    let old = c.args.repository.now in
    let between = c.open-answer.new.self in
    serves_after shelf book old between c.serve_here-output.new.repository c.args.requests
    (contents c.args.output) (contents c.serve_here-output.result.1)
    (∥ HasFailed g.O.Writer.may_answer c.serve_here-output.result.1 ∥₁) c.serve_here-output.result.0
    (opened_untouched book (shelf old) (shelf between) c.open-answer.result.answer
    c.open-answer.ensures.opened)
    c.serve_here-output.ensures

pub returns-in-Err-listen : goal.returns-in-Err-listen
returns-in-Err-listen g c =
    let held = g.O.Write.contents c.args.output in
    serves_none g.S.Repository.shelf c.args.book.now c.args.repository.now c.open-answer.new.self
    c.args.requests held (∥ HasFailed g.O.Writer.may_answer c.args.output ∥₁) c.ended.result
    c.in-Err-listen.fault
    c.open-answer.result.has_log c.open-answer.result.answer c.ended.ensures c.in-Err-listen.ensures
    c.open-answer.ensures.opened c.open-answer.ensures.log
