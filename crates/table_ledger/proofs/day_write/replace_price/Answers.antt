use Rattle.std.proofs.Common.{◌∙◌, ap, sym}
use Rattle.book_model.specs.Words.{key_of}
use Rattle.book_core.specs.Words.{with_price}
use Rattle.table_model.specs.Words.{put_day_row, row_key}
use Rattle.table_ledger.proofs.DayLooks.{day_stepped, replaced, rest_placed}
use Rattle.table_ledger.proofs.DaySteps.{found_at}
use Rattle.table_ledger.proofs.day_write.replace_price.Goals as goal

pub returns : goal.returns
returns g c = record {
  does =
      let period = c.args.period in
      let old = c.args.old.now in
      let new = c.args.new.now in
      let found = c.in_ok-found.found in
      day_stepped period old _ c.key_of-place.ensures c.in_ok-found.ensures.looks
      c.put_with.ensures.does
      (λ tables placed is. (
        found_at period tables (key_of old) c.rest_of.result found is
            (ap row_key c.rest_of.ensures
            ∙ rest_placed period old new c.requires tables placed found is),
        replaced period old new c.requires tables placed found is
            ∙ ap (λ row. put_day_row period (with_price row new) tables) (sym c.rest_of.ensures),
      ));
}
