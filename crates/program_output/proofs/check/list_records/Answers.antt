use Rattle.std.proofs.Common.{arith}
use Rattle.std.proofs.lemmas.Result.{err_from_is_err_and}
use Rattle.streams.specs.Sinks.{writer_of}
use Rattle.book_import.proofs.FeedLemmas.{shorter, goes_on, all_done, takes_all}
use Rattle.book_import.proofs.FeedLemmas.{breaks, broken_done}
use Rattle.program_output.proofs.ListingLemmas.{listed_more, grows_on}
use Rattle.program_output.proofs.PieceLemmas.{come_cut}
use Rattle.program_output.proofs.check.list_records.Goals as goal

pub returns-in-Err-clause-listed : goal.returns-in-Err-clause-listed
returns-in-Err-clause-listed g c = λ text held stood.
    broken_done c.loop-fault.invariant.goes c.in-Err.ensures text stood held

pub returns-in-Err-clause-taken : goal.returns-in-Err-clause-taken
returns-in-Err-clause-taken g c = breaks c.loop-fault.invariant.goes c.in-Err.ensures

pub returns-in_default-clause-listed : goal.returns-in_default-clause-listed
returns-in_default-clause-listed g c = λ text held stood.
    all_done c.loop-fault.invariant.goes c.in-Ok.ensures c.in_default.ensures.exact text stood held

pub returns-in_default-clause-taken : goal.returns-in_default-clause-taken
returns-in_default-clause-taken g c =
    takes_all c.loop-fault.invariant.goes c.in-Ok.ensures c.in_default.ensures.exact

pub returns-in_err-push_line-clause-listed : goal.returns-in_err-push_line-clause-listed
returns-in_err-push_line-clause-listed g c =
    let failed = err_from_is_err_and c.from_residual.result c.from_residual.ensures.1 in
    let wrote = c.in_err-push_line.ensures.written in
    rw failed.1 (come_cut c.args.listing.now c.loop-fault.listing c.push_line.new.self
    (g.W.Write.contents (writer_of c.args.sink.now))
    (g.W.Write.contents (writer_of c.loop-fault.sink))
    (g.W.Write.contents (writer_of c.push_line.new.sink)) c.in-Some.bytes.now wrote.0 failed.0
    c.loop-fault.invariant.goes c.in-Ok.ensures c.in-Some.ensures.exact wrote.1)

pub returns-in_err-push_line-clause-grown : goal.returns-in_err-push_line-clause-grown
returns-in_err-push_line-clause-grown g c =
    let wrote = c.in_err-push_line.ensures.written in
    grows_on _ _ (g.W.Write.contents (writer_of c.push_line.new.sink))
    c.loop-fault.invariant.grown (wrote.1.first, wrote.1.grown)

pub loop-fault-preserved : goal.loop-fault-preserved
loop-fault-preserved g c =
    let goes = c.loop-fault.invariant.goes in
    let wrote = c.in_ok-push_line.ensures in
    let less = shorter goes c.in-Ok.ensures c.in-Some.ensures.exact c.split_at.ensures.back
    c.requires.stands in
    record {
      goes = goes_on goes c.in-Ok.ensures c.in-Some.ensures.exact c.split_at.ensures.back
          c.next.ensures.value c.next.ensures.stands
          (λ first found lists held listed. listed_more found c.in-Some.bytes.now held
          (g.W.Write.contents (writer_of c.loop-fault.sink))
          (g.W.Write.contents (writer_of c.push_line.new.sink)) c.loop-fault.listing
          c.push_line.new.self (lists held listed) wrote.written wrote.count wrote.marks);
      few = omega (arith, c.loop-fault.invariant.few, wrote.count, less);
      room = wrote.room;
      grown = grows_on _ _ (g.W.Write.contents (writer_of c.push_line.new.sink))
          c.loop-fault.invariant.grown (wrote.written.first, wrote.written.grown);
      unwritten = wrote.failed;
    }
