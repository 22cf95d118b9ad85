use Rattle.book_laws.proofs.PageLemmas.{page_totals_are_the_reports}
use Rattle.book_laws.proofs.pages.page_totals_are_the_reports.Goals as goal

pub returns : goal.returns
returns c = page_totals_are_the_reports
