use Rattle.std.proofs.Common.{◌∙◌, arith, refl, sym}
use Rattle.std.proofs.lemmas.List.Elements.{All-nil}
use Rattle.book_model.specs.declared.detail.Detail.{Detail}
use Rattle.book_model.specs.Words.{IsDay}
use Rattle.book_core.proofs.KeyedRowLemmas.{keyed_rows-none}
use Rattle.book_reports.proofs.bill_work.WorkSums.new.Goals as goal

pub returns : goal.returns
returns c = record {
  steps = c.new-steps.ensures.empty ∙ sym keyed_rows-none;
  jobs = c.new-jobs.ensures.empty ∙ sym keyed_rows-none;
  all = refl;
  fit = record { count = omega arith; cpu = omega arith; blocks = omega arith; amount = omega arith };
  days = All-nil (λ (detail : Detail). IsDay detail.priced.day);
}
