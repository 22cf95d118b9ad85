use Rattle.std.proofs.Common.{arith, ap, length, length-append, subst, Err, List, ℕ}
use Rattle.std.proofs.KnownBytes.{Appends-nil}
use Rattle.std.proofs.lemmas.Result.{err_from_is_err_and}
use Rattle.streams.specs.Sinks.{writer_of}
use Rattle.book_lists.specs.Writing.{WritesUntil}
use Rattle.book_lists.proofs.StreamedLemmas.{some_behind}
use Rattle.book_reports.specs.CheckLists.{last_line}
use Rattle.program_output.specs.declared.listing.Checked.{Checked}
use Rattle.program_output.specs.Listings.{waiting}
use Rattle.program_output.proofs.LineLemmas.{last_line_short, last_line_some}
use Rattle.program_output.proofs.listing.Listing.end.Goals as goal

-- there is no memory for the last line
pub returns-in_err-push_last_line-clause-written : goal.returns-in_err-push_last_line-clause-written
returns-in_err-push_last_line-clause-written g c =
    let failed = err_from_is_err_and c.from_residual.result c.from_residual.ensures.1 in
    let count = c.args.self.now.count in
    rw failed.1 (
      0,
      some_behind (waiting c.args.self.now) (last_line count c.args.stop)
          (last_line_some count c.args.stop),
      Appends-nil (g.W.Write.contents (writer_of c.args.sink.now)),
    )

-- what waits is not written, or not whole
pub returns-in_err-flush-clause-written : goal.returns-in_err-flush-clause-written
returns-in_err-flush-clause-written g c =
    let failed = err_from_is_err_and c.from_residual-in_err-flush.result
    c.from_residual-in_err-flush.ensures.1 in
    let held = g.W.Write.contents (writer_of c.args.sink.now) in
    let holds = g.W.Write.contents (writer_of c.flush.new.sink) in
    rw failed.1
    (subst (λ (text : List ℕ). WritesUntil {A = Checked} text held holds (Err failed.0))
    c.in_ok-push_last_line.ensures c.in_err-flush.ensures.until)

pub flush-requires-clause-short : goal.flush-requires-clause-short
flush-requires-clause-short g c =
    let last = last_line c.args.self.now.count c.args.stop in
    omega (
      arith,
      c.requires.room,
      ap length c.in_ok-push_last_line.ensures,
      length-append (waiting c.args.self.now) last,
      last_line_short c.args.self.now.count c.args.stop (omega (arith, c.requires.few)),
    )
