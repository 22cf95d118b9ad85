use Rattle.std.proofs.Common.{◌∙◌, refl, sym}
use Rattle.std.proofs.lemmas.List.Elements.{All-nil}
use Rattle.book_model.specs.Words.{IsDay, by_bytes}
use Rattle.book_model.proofs.SetLemmas.{members-empty}
use Rattle.coverage_texts.specs.declared.coverage_rows.SystemDetail.{SystemDetail}
use Rattle.book_reports.proofs.CoverageLemmas.{keyed_coverage-none}
use Rattle.book_reports.proofs.coverage_sums.CoverageSums.new.Goals as goal

pub returns : goal.returns
returns c = record {
  rows = c.new-rows.ensures.empty ∙ sym keyed_coverage-none;
  systems = c.new-systems.ensures.empty ∙ sym (members-empty by_bytes);
  first = refl;
  last = refl;
  days = All-nil (λ (one : SystemDetail). IsDay one.detail.priced.day);
}
