use Rattle.std.proofs.Common.{◌∙◌, refl, sym}
use Rattle.command_line.specs.Requests.{rows_in}
use Rattle.command_line.proofs.ReportLemmas.{named_word, no_words, words_of_report}
use Rattle.command_line.proofs.RowLemmas.{true_false}
use Rattle.command_line.proofs.matched_request.named_in.Goals as goal

pub returns-in_err-report-clause-some : goal.returns-in_err-report-clause-some
returns-in_err-report-clause-some c =
    λ has others.
    absurd (no_words (rows_in c.args.found.now) c.args.name.now c.in_err-report.ensures
    (assumption others) (assumption others) has)

pub returns-in_err-asked-clause-some : goal.returns-in_err-asked-clause-some
returns-in_err-asked-clause-some c =
    λ has others.
    let words = words_of_report (rows_in c.args.found.now) c.args.name.now c.in_ok-report.report
    c.in_ok-report.ensures (assumption others) has in
    absurd (true_false (sym (c.in_err-asked.ensures.some words.named words.csv words.html)))

-- the words ask for a table and for a page
pub returns-then-is_both-clause-request : goal.returns-then-is_both-clause-request
returns-then-is_both-clause-request c =
    λ other. (
      c.in_ok-asked.asked,
      c.in_ok-asked.ensures.asked c.args.name.now
          (named_word c.args.name.now c.in_ok-report.report c.in_ok-report.ensures) other,
      sym c.is_both.ensures ∙ c.if-is_both.true,
    )

pub returns-clause-request : goal.returns-clause-request
returns-clause-request c =
    λ other.
    c.of_books_in.ensures.request c.args.name.now
    (c.in_ok-asked.ensures.asked c.args.name.now
    (named_word c.args.name.now c.in_ok-report.report c.in_ok-report.ensures) other)

pub returns-clause-some : goal.returns-clause-some
returns-clause-some c =
    λ has others.
    let words = words_of_report (rows_in c.args.found.now) c.args.name.now c.in_ok-report.report
    c.in_ok-report.ensures (assumption others) has in
    c.of_books_in.ensures.some words.book words.wait refl
