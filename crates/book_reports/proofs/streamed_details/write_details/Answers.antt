use Rattle.std.proofs.Common.{[], None, ap, refl}
use Rattle.book_reports.proofs.Words.{Appends-nil, writer_of, map_same, passed_on, some_by}
use Rattle.book_reports.proofs.Words.{details_end, details_part, details_text, sums_of}
use Rattle.book_reports.proofs.DetailLemmas.{details_then, details_written, none_read}
use Rattle.book_reports.proofs.streamed_details.write_details.Goals as goal

-- the centre is not there
pub returns-in_err-through-clause-written : goal.returns-in_err-through-clause-written
returns-in_err-through-clause-written g c =
    rw (passed_on c.from_residual.result c.from_residual.ensures.1)
    (none_read c.args.report _ _ c.in_err-through.field-0.0
    (g.W.Write.contents (writer_of c.args.sink.now)) c.in_err-through.ensures.through)

pub returns-in_err-through-clause-some : goal.returns-in_err-through-clause-some
returns-in_err-through-clause-some g c =
    rw (passed_on c.from_residual.result c.from_residual.ensures.1)
    ((None, []), (0, Appends-nil (g.W.Write.contents (writer_of c.args.sink.now))))

pub returns-clause-written : goal.returns-clause-written
returns-clause-written g c =
    details_then c.args.report _ _ _ c.in_ok-through.through
    (g.W.Write.contents (writer_of c.args.sink.now)) (g.W.Write.contents (writer_of c.write_list.new.sink))
    c.write_list.result c.in_ok-through.ensures.through
    (c.write_list.ensures.written (λ number. details_part c.args.report)
    (λ details. details_end c.args.report (sums_of details))
    (record {
      parts = λ number detail. refl;
      ends = λ details. ap (λ details. details_end c.args.report (sums_of details)) (map_same details);
    }))

pub returns-clause-some : goal.returns-clause-some
returns-clause-some g c =
    some_by (λ of. details_text c.args.report of.0 of.1) (λ details. (c.in_ok-through.through, details))
    (details_written c.args.report c.in_ok-through.through)
    (g.W.Write.contents (writer_of c.args.sink.now)) (g.W.Write.contents (writer_of c.write_list.new.sink))
    c.write_list.result c.write_list.ensures.some
