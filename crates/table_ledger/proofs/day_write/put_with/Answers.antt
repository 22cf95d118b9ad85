use Rattle.std.proofs.Common.{◌∙◌, ap, sym}
use Rattle.book_model.proofs.Std.{get}
use Rattle.table_model.specs.Words.{put_day_row, row_key}
use Rattle.table_ledger.proofs.StepLemmas.{does_so}
use Rattle.table_ledger.proofs.day_write.put_with.Goals as goal

-- the row with the price is under the same place
pub returns : goal.returns
returns g c = record {
  does =
      let more = c.in-Some.ensures.value in
      does_so _ c.put_day.ensures.does (λ tables found. (
        found ∙ ap (λ row. get tables.days (c.args.period, row_key row)) (sym more),
        ap (λ row. put_day_row c.args.period row tables) more,
      ));
}
