use Rattle.streams.specs.Sinks.{writer_of}
use Rattle.book_lists.proofs.ReadingLemmas.{passed_on}
use Rattle.book_lists.proofs.StreamedLemmas.{first_written}
use Rattle.book_lists.proofs.waiting.flush_much.Goals as goal

-- what waits is not written, or not whole
pub returns-in_err-flush-clause-written : goal.returns-in_err-flush-clause-written
returns-in_err-flush-clause-written g c =
    let held = g.W.Write.contents (writer_of c.args.sink.now) in
    let holds = g.W.Write.contents (writer_of c.flush.new.sink) in
    let wrote = c.in_err-flush.ensures.written in
    rw (passed_on c.from_residual.result c.from_residual.ensures.1)
    (first_written _ wrote.0 held holds wrote.1)
