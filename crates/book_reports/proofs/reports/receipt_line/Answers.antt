use Rattle.std.proofs.Common.{◌∙◌, [], ◌∷◌, subst}
use Rattle.book_lists.proofs.WritingLemmas.{text_written}
use Rattle.book_reports.proofs.Words.{writer_of, WritesTexts}
use Rattle.book_reports.proofs.reports.receipt_line.Goals as goal

pub returns-clause-text : goal.returns-clause-text
returns-clause-text g c =
    let held = g.W.Write.contents (writer_of c.args.sink.now) in
    let holds = g.W.Write.contents (writer_of c.write_text.new.sink) in
    let text = c.as_str.ensures.value ∙ c.receipt_line_text.ensures in
    subst (λ text. WritesTexts (text ∷ []) held holds c.write_text.result) text
    (text_written _ held holds c.as_str.result.now c.write_text.result
    c.write_text.ensures.whole c.write_text.ensures.fault c.write_text.ensures.prefix)
