use Rattle.std.proofs.Common.{[], ap, length, map, refl, sym}
use Rattle.book_model.proofs.Std.{length-map}
use Rattle.book_model.specs.Words.{dispute_shown}
use Rattle.book_reports.proofs.Words.{Appends-nil, writer_of, passed_on, some_by, counted_part}
use Rattle.book_reports.proofs.Words.{disputes_text, filled, missing_lines}
use Rattle.book_reports.proofs.DisputeLemmas.{listed_text, text_counted, text_uncounted}
use Rattle.book_reports.proofs.streamed_disputes.write_disputes.Goals as goal

-- they are not counted
pub returns-in_err-count-clause-written : goal.returns-in_err-count-clause-written
returns-in_err-count-clause-written g c =
    rw (passed_on c.from_residual.result c.from_residual.ensures.1)
    (text_uncounted c.args.form _ _ c.in_err-count.field-0.0
    (g.W.Write.contents (writer_of c.args.sink.now)) c.in_err-count.ensures)

pub returns-in_err-count-clause-some : goal.returns-in_err-count-clause-some
returns-in_err-count-clause-some g c =
    rw (passed_on c.from_residual.result c.from_residual.ensures.1)
    ([], (0, Appends-nil (g.W.Write.contents (writer_of c.args.sink.now))))

-- or they are, and then written
pub returns-clause-written : goal.returns-clause-written
returns-clause-written g c =
    let form = c.args.form in
    let count = c.in_ok-count.count in
    text_counted form _ _ _ count (g.W.Write.contents (writer_of c.args.sink.now))
    (g.W.Write.contents (writer_of c.write_list.new.sink)) c.write_list.result c.in_ok-count.ensures
    (c.write_list.ensures.written (counted_part form count)
    (λ disputes. missing_lines form count (length disputes))
    (record {
      parts = λ number dispute. refl;
      ends = λ disputes. ap (missing_lines form count) (sym (length-map disputes dispute_shown));
    }))

pub returns-clause-some : goal.returns-clause-some
returns-clause-some g c =
    let form = c.args.form in
    let count = c.in_ok-count.count in
    some_by (disputes_text form) (λ disputes. filled count (map dispute_shown disputes))
    (listed_text form count) (g.W.Write.contents (writer_of c.args.sink.now))
    (g.W.Write.contents (writer_of c.write_list.new.sink)) c.write_list.result
    c.write_list.ensures.some
