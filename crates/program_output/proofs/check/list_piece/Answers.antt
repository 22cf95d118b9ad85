use Rattle.std.proofs.lemmas.Result.{err_from_is_err_and}
use Rattle.streams.specs.Sinks.{writer_of}
use Rattle.program_output.proofs.ListingLemmas.{listed_flushed, grows_on}
use Rattle.program_output.proofs.PieceLemmas.{come_unflushed}
use Rattle.program_output.proofs.check.list_piece.Goals as goal

pub returns-in_err-flush-clause-listed : goal.returns-in_err-flush-clause-listed
returns-in_err-flush-clause-listed g c =
    let failed = err_from_is_err_and c.from_residual-in_err-flush.result
    c.from_residual-in_err-flush.ensures.1 in
    let wrote = c.in_err-flush.ensures.written in
    rw failed.1 (come_unflushed c.args.joiner.now c.list_records.new.joiner c.args.piece.now
    c.in_ok-found.found c.args.listing.now c.list_records.new.listing c.flush.new.self
    (g.W.Write.contents (writer_of c.args.sink.now))
    (g.W.Write.contents (writer_of c.list_records.new.sink))
    (g.W.Write.contents (writer_of c.flush.new.sink)) wrote.0 failed.0 c.in_ok-found.ensures.taken
    c.in_ok-found.ensures.listed wrote.1)

pub returns-clause-listed : goal.returns-clause-listed
returns-clause-listed g c = λ text held stood listed.
    let wrote = c.in_ok-flush.ensures in
    listed_flushed _ held (g.W.Write.contents (writer_of c.list_records.new.sink))
    (g.W.Write.contents (writer_of c.flush.new.sink)) c.list_records.new.listing c.flush.new.self
    (c.in_ok-found.ensures.listed text held stood listed) wrote.written wrote.waits wrote.count
    wrote.marks

pub returns-in_err-flush-clause-grown : goal.returns-in_err-flush-clause-grown
returns-in_err-flush-clause-grown g c =
    grows_on _ _ (g.W.Write.contents (writer_of c.flush.new.sink)) c.in_ok-found.ensures.grown
    (_, c.in_err-flush.ensures.written.1)

pub returns-clause-grown : goal.returns-clause-grown
returns-clause-grown g c =
    grows_on _ _ (g.W.Write.contents (writer_of c.flush.new.sink)) c.in_ok-found.ensures.grown
    (_, c.in_ok-flush.ensures.written)
