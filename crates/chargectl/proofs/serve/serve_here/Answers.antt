use Rattle.std.proofs.Common.{◌∙◌, ap, inr, sym}
use Rattle.std.specs.IoError.{error_kind}
use Rattle.streams.specs.Failures.{HasFailed}
use Rattle.without_books.specs.ServedLines.{seen_of}
use Rattle.chargectl.specs.declared.port.Port.{Port}
use Rattle.chargectl.proofs.ServingLemmas.{all_came, due_in_turn, serves_all, serves_cut}
use Rattle.chargectl.proofs.serve.serve_here.Goals as goal

pub returns-in-Ok : goal.returns-in-Ok
returns-in-Ok g c =
    let contents = g.O.Write.contents in
    let seen = seen_of contents in
    let each = c.serve_each-answered in
    let served = rw c.in-Ok.is at each.ensures.served in
    let serving = served.serving in
    let due = λ (port : Port). port.due in
    let last = due served.last in
    let turn = due_in_turn g.S.Repository.shelf _ due c.args.book.now c.over-port.result served.last
    c.args.repository.now each.new.repository serving.told serving.came in
    let none = ap (λ (port : Port). port.due.left) (sym served.ends)
    ∙ rw c.in-Ok.is at each.ensures.all in
    serves_all g.S.Repository.shelf c.args.book.now c.args.repository.now each.new.repository
    c.args.requests (contents c.args.output) (contents c.into_inner.result)
    (∥ HasFailed g.O.Writer.may_answer c.into_inner.result ∥₁) (seen c.new-lines.result)
    (seen c.say_ready.new.lines) (seen each.new.lines) c.has_failed.result c.ended.result
    each.result.1 c.new-lines.ensures c.say_ready.ensures serving
    (all_came c.args.requests serving.told (due c.over-port.result) last c.over-port.ensures turn none
    serving.count)
    c.into_inner.ensures.holds c.has_failed.ensures c.into_inner.ensures.cause
    (rw c.told_end-came.ensures at c.ended.ensures) each.ensures.log

pub returns : goal.returns
returns g c =
    let contents = g.O.Write.contents in
    let seen = seen_of contents in
    let each = c.serve_each-answered in
    let served = rw c.in-Err.is at each.ensures.served in
    serves_cut g.S.Repository.shelf (λ _. ⊥) c.args.book.now c.args.repository.now
    each.new.repository c.args.requests (contents c.args.output)
    (contents c.into_inner-in-Err.result)
    (∥ HasFailed g.O.Writer.may_answer c.into_inner-in-Err.result ∥₁) (seen c.new-lines.result)
    (seen c.say_ready.new.lines) (seen each.new.lines) c.ended-in-Err.result c.from-fault.result
    each.result.1 c.new-lines.ensures c.say_ready.ensures c.into_inner-in-Err.ensures.holds
    c.ended-in-Err.ensures
    (inr (error_kind c.in-Err.error, c.from-fault.ensures)) served.serving each.ensures.log
