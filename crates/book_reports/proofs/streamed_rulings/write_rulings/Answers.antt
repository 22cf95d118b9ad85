use Rattle.std.proofs.Common.{[], ap, map, refl, Ok}
use Rattle.book_model.specs.Words.{ruling_shown, rulings_listed}
use Rattle.book_lists.proofs.WrittenListLemmas.{written_by}
use Rattle.book_reports.specs.BookTexts.{ruling_text}
use Rattle.book_reports.proofs.Words.{writer_of, ruling_line, ruling_list_text, some_by}
use Rattle.book_reports.proofs.Words.{answered_by}
use Rattle.book_reports.proofs.RulingLemmas.{listed_written, rulings_written}
use Rattle.book_reports.proofs.streamed_rulings.write_rulings.Goals as goal

pub returns-clause-written : goal.returns-clause-written
returns-clause-written g c =
    written_by (answered_by ruling_text)
    (λ book. ap Ok
    (rulings_written (rulings_listed (g.L.Ledger.seen c.args.ledger.now).naming book.rulings)))
    (c.write_list.ensures.written (λ number. ruling_line) (λ rulings. []) (record {
      parts = λ number ruling. refl;
      ends = λ rulings. refl;
    }))

pub returns-clause-some : goal.returns-clause-some
returns-clause-some g c =
    some_by ruling_list_text (map ruling_shown) listed_written
    (g.W.Write.contents (writer_of c.args.sink.now)) (g.W.Write.contents (writer_of c.write_list.new.sink))
    c.write_list.result c.write_list.ensures.some
