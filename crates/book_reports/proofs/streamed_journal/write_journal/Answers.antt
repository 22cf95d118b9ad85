use Rattle.std.proofs.Common.{[], map, refl}
use Rattle.book_model.specs.Words.{entry_shown}
use Rattle.book_reports.proofs.Words.{Appends-nil, writer_of, passed_on, some_by}
use Rattle.book_reports.specs.StreamedJournal.{entry_part, journal_text}
use Rattle.book_reports.proofs.JournalLemmas.{entries_written, journal_counted, journal_uncounted}
use Rattle.book_reports.proofs.streamed_journal.write_journal.Goals as goal

-- they are not counted
pub returns-in_err-count-clause-written : goal.returns-in_err-count-clause-written
returns-in_err-count-clause-written g c =
    rw (passed_on c.from_residual.result c.from_residual.ensures.1)
    (journal_uncounted c.args.form _ _ c.in_err-count.field-0.0
    (g.W.Write.contents (writer_of c.args.sink.now)) c.in_err-count.ensures)

pub returns-in_err-count-clause-some : goal.returns-in_err-count-clause-some
returns-in_err-count-clause-some g c =
    rw (passed_on c.from_residual.result c.from_residual.ensures.1)
    ((0, []), (0, Appends-nil (g.W.Write.contents (writer_of c.args.sink.now))))

-- or they are, and then written
pub returns-clause-written : goal.returns-clause-written
returns-clause-written g c =
    let form = c.args.form in
    journal_counted form _ _ _ c.in_ok-count.count
    (g.W.Write.contents (writer_of c.args.sink.now))
    (g.W.Write.contents (writer_of c.write_list.new.sink)) c.write_list.result c.in_ok-count.ensures
    (c.write_list.ensures.written (λ number. entry_part form) (λ entries. []) (record {
      parts = λ number entry. refl;
      ends = λ entries. refl;
    }))

pub returns-clause-some : goal.returns-clause-some
returns-clause-some g c =
    let form = c.args.form in
    let count = c.in_ok-count.count in
    some_by (λ made. journal_text form made.0 made.1) (λ entries. (count, map entry_shown entries))
    (entries_written form count) (g.W.Write.contents (writer_of c.args.sink.now))
    (g.W.Write.contents (writer_of c.write_list.new.sink)) c.write_list.result
    c.write_list.ensures.some
