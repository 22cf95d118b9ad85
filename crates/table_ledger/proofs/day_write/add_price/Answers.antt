use Rattle.std.proofs.Common.{◌≡◌, ◌∙◌, [], ap, sym, unwrap_or}
use Rattle.book_model.specs.Words.{key_of, row_at}
use Rattle.book_core.specs.Words.{with_price}
use Rattle.table_model.specs.Words.{put_day_row, row_key}
use Rattle.table_ledger.proofs.DaySteps.{found_at, here_placed, joins}
use Rattle.table_ledger.proofs.DayLooks.{day_stepped}
use Rattle.table_ledger.proofs.day_write.add_price.Goals as goal

-- the row of the place, or an empty one, with the price
pub returns : goal.returns
returns g c = record {
  does =
      let period = c.args.period in
      let priced = c.args.priced.now in
      let found = c.in_ok-found.found in
      let row : c.unwrap_or-row.result ≡ unwrap_or found (row_at [] (key_of priced)) =
      c.unwrap_or-row.ensures
      ∙ ap (unwrap_or found) (c.empty_row.ensures ∙ ap (row_at []) c.key_of.ensures) in
      day_stepped period priced _ c.key_of-place.ensures c.in_ok-found.ensures.looks
      c.put_with.ensures.does
      (λ tables placed is. (
        found_at period tables (key_of priced) c.unwrap_or-row.result found is
            (ap row_key row ∙ here_placed period priced tables placed found is),
        joins period priced tables placed
            ∙ ap (λ row. put_day_row period (with_price row priced) tables)
            (ap (λ found. unwrap_or found (row_at [] (key_of priced))) is ∙ sym row),
      ));
}
