use Rattle.std.proofs.Common.{◌∙◌, ap, subst, sym}
use Rattle.report_rows.specs.ReportRows.{Row}
use Rattle.command_line.specs.Given.{HasWords}
use Rattle.command_line.specs.Known.{named_by}
use Rattle.command_line.specs.Requests.{HasShape, rows_in}
use Rattle.command_line.proofs.RowLemmas.{true_false}
use Rattle.command_line.proofs.report_words.report_in.Goals as goal

-- the form and the words are there
pub returns-in_err-form-clause-some : goal.returns-in_err-form-clause-some
returns-in_err-form-clause-some c =
    λ named csv html.
    absurd (true_false (sym (c.in_err-form.ensures.some
    (λ is. csv (ap (λ (row : Row). row.csv) c.row_of-row.ensures ∙ is)))))

pub returns-in_err-html-clause-some : goal.returns-in_err-html-clause-some
returns-in_err-html-clause-some c =
    λ named csv html.
    absurd (true_false (sym (c.in_err-html.ensures.some
    (λ is. html (ap (λ (row : Row). row.html) c.row_of-row.ensures ∙ is)))))

pub returns-in_err-words-clause-some : goal.returns-in_err-words-clause-some
returns-in_err-words-clause-some c =
    λ named csv html.
    absurd (true_false (sym (c.in_err-words.ensures.some
    (subst (λ (row : Row). HasWords (rows_in c.args.found.now) (named_by row.shape))
    c.row_of-row.ensures named))))

-- they are those of the row
pub returns-clause-asked : goal.returns-clause-asked
returns-clause-asked c =
    λ text is other.
    c.request_for.ensures text (rows_in c.args.found.now)
    (record {
      word = is;
      table = λ may.
          c.in_ok-form.ensures.table (sym (ap (λ (row : Row). row.csv) c.row_of-row.ensures) ∙ may);
      text = λ never.
          c.in_ok-form.ensures.text (sym (ap (λ (row : Row). row.csv) c.row_of-row.ensures) ∙ never);
      page = λ may.
          c.in_ok-html.ensures.page (sym (ap (λ (row : Row). row.html) c.row_of-row.ensures) ∙ may);
      no_page = λ never.
          c.in_ok-html.ensures.text (sym (ap (λ (row : Row). row.html) c.row_of-row.ensures) ∙ never);
      words = subst (λ (row : Row). HasShape row.shape (rows_in c.args.found.now) c.in_ok-words.words)
          (sym c.row_of-row.ensures) c.in_ok-words.ensures.words;
      charged = λ it. absurd (other it);
    })
    (ap (λ (row : Row). row.streamed) c.row_of-row.ensures)
