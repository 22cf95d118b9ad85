use Rattle.std.proofs.Common.{◌+◌, arith, ap, length, length-append}
use Rattle.std.proofs.lemmas.Result.{err_from_is_err_and}
use Rattle.streams.specs.Sinks.{writer_of}
use Rattle.book_lists.proofs.StreamedLemmas.{first_written, none_written, written_as}
use Rattle.book_reports.specs.CheckLists.{record_line}
use Rattle.program_output.specs.Listings.{waiting}
use Rattle.program_output.proofs.LineLemmas.{record_line_short}
use Rattle.program_output.proofs.listing.Listing.push_line.Goals as goal

pub returns-in_err-push_record_line-clause-written :
    goal.returns-in_err-push_record_line-clause-written
returns-in_err-push_record_line-clause-written g c =
    let failed = err_from_is_err_and c.from_residual.result c.from_residual.ensures.1 in
    rw failed.1 (_, none_written _ _)

pub flush-requires-clause-short : goal.flush-requires-clause-short
flush-requires-clause-short g c =
    let line = record_line c.args.names (c.args.self.now.count + 1) c.args.bytes.now in
    omega (
      arith,
      c.requires.room,
      ap length c.in_ok-push_record_line.ensures,
      length-append (waiting c.args.self.now) line,
      record_line_short c.args.names (c.args.self.now.count + 1) c.args.bytes.now
          (omega (arith, c.requires.few)) (λ i. (c.type_inv.bytes i).fits),
    )

pub returns-in_err-flush-clause-written : goal.returns-in_err-flush-clause-written
returns-in_err-flush-clause-written g c =
    let failed = err_from_is_err_and c.from_residual-in_err-flush.result
    c.from_residual-in_err-flush.ensures.1 in
    let held = g.W.Write.contents (writer_of c.args.sink.now) in
    let holds = g.W.Write.contents (writer_of c.flush.new.sink) in
    let wrote = c.in_err-flush.ensures.written in
    let part = first_written _ wrote.0 held holds wrote.1 in
    rw failed.1 (part.0, written_as _ _ part.0 held holds c.in_ok-push_record_line.ensures part.1)
