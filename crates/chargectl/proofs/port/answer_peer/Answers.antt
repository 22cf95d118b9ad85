use Rattle.std.proofs.Common.{◌∙◌, ap, refl, sym, true≢false}
use Rattle.streams.specs.Sources.{has_ended}
use Rattle.book_http.specs.Reads.{bytes_read}
use Rattle.book_http.specs.Served.{is_write_fault}
use Rattle.chargectl.specs.ClientRequests.{later_of}
use Rattle.chargectl.proofs.ClientLemmas.{attends, by_reads, front_taken, status_of}
use Rattle.chargectl.proofs.port.answer_peer.Goals as goal

pub returns-in-Answered-clause-served : goal.returns-in-Answered-clause-served
returns-in-Answered-clause-served g c =
    let remaining = g.P.Read.remaining in
    let came = c.serve_request-attended in
    let told = came.ensures.served in
    attends g.S.Repository.shelf c.args.repository.now came.new.repository c.args.book.now
    (bytes_read told.reads) (has_ended came.new.source) (remaining c.args.peer) _ _
    (front_taken (remaining c.args.peer) _ _ (bytes_read told.reads) told.between.taken
    (ap remaining c.new-source.ensures.reader)) came.result.0 told.gave came.ensures.closed
    came.ensures.nobody came.ensures.log

pub returns-in-Answered-clause-reads : goal.returns-in-Answered-clause-reads
returns-in-Answered-clause-reads g c =
    let first = c.new-source in
    let came = c.serve_request-attended in
    by_reads g.S.Repository.shelf c.args.repository.now came.new.repository c.args.book.now
    c.args.peer _ _ _ came.result.0.served (later_of came.result.0) first.result came.new.source
    first.ensures.reader first.ensures.failed first.ensures.ended came.ensures.served
    came.ensures.read c.drain.ensures.unwritten

pub returns-in_default-clause-served : goal.returns-in_default-clause-served
returns-in_default-clause-served g c =
    let remaining = g.P.Read.remaining in
    let came = c.serve_request-attended in
    let told = came.ensures.served in
    attends g.S.Repository.shelf c.args.repository.now came.new.repository c.args.book.now
    (bytes_read told.reads) (has_ended came.new.source) (remaining c.args.peer) _ _
    (front_taken (remaining c.args.peer) _ _ (bytes_read told.reads) told.between.taken
    (ap remaining c.new-source.ensures.reader)) came.result.0 told.gave came.ensures.closed
    came.ensures.nobody came.ensures.log

pub returns-in_default-clause-reads : goal.returns-in_default-clause-reads
returns-in_default-clause-reads g c =
    let first = c.new-source in
    let came = c.serve_request-attended in
    by_reads g.S.Repository.shelf c.args.repository.now came.new.repository c.args.book.now
    c.args.peer _ _ _ came.result.0.served (later_of came.result.0) first.result came.new.source
    first.ensures.reader first.ensures.failed first.ensures.ended came.ensures.served
    came.ensures.read refl

-- nothing was written to who is not answered, and what it still sends is read without a write
pub returns-in-Answered-clause-unwritten : goal.returns-in-Answered-clause-unwritten
returns-in-Answered-clause-unwritten g c = λ unanswered.
    c.drain.ensures.unwritten
    ∙ ap g.P.Write.contents (c.serve_request-attended.ensures.unwritten unanswered)

pub returns-in_default-clause-unwritten : goal.returns-in_default-clause-unwritten
returns-in_default-clause-unwritten g c = λ unanswered.
    ap g.P.Write.contents (c.serve_request-attended.ensures.unwritten unanswered)

pub returns-in_default-clause-drained : goal.returns-in_default-clause-drained
returns-in_default-clause-drained g c = λ answered.
    let status = status_of c.serve_request-attended.result.0.served answered in
    absurd (c.in_default.not-Answered status.0 status.1)

-- an answer that was written did not fail
pub returns-in-Answered-clause-write : goal.returns-in-Answered-clause-write
returns-in-Answered-clause-write g c = λ told.
    absurd (true≢false (sym told ∙ ap is_write_fault c.in-Answered.is))
