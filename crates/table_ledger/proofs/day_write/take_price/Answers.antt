use Rattle.std.proofs.Common.{◌∙◌, Some, ap, arith, sym, ◌==◌}
use Rattle.book_model.proofs.Std.{nat_tests}
use Rattle.book_model.specs.Words.{key_of}
use Rattle.table_model.specs.Words.{drop_day_row, put_day_row, row_key}
use Rattle.table_ledger.proofs.DaySteps.{found_at, leaves, leaves_last}
use Rattle.table_ledger.proofs.DayLooks.{day_stepped}
use Rattle.table_ledger.proofs.day_write.take_price.Goals as goal

-- it has no other price
pub returns-then-row-eq1 : goal.returns-then-row-eq1
returns-then-row-eq1 g c = record {
  does = day_stepped c.args.period c.args.priced.now _ c.key_of-place.ensures
      c.in_ok-row.ensures.looks c.drop_day.ensures.does
      (λ tables placed is.
      let there = is ∙ c.in-Some.is in
      let own = placed (c.args.period, key_of c.args.priced.now) c.in-Some.row there in (
        found_at c.args.period tables (key_of c.args.priced.now) c.in-Some.row (Some c.in-Some.row)
            there own,
        leaves_last c.args.period c.args.priced.now tables placed c.in-Some.row there
            (ap (λ n. n == 1) c.if-row-eq1.true)
            ∙ ap (λ place. drop_day_row c.args.period place tables) (sym own),
      ));
}

-- it has others
pub returns : goal.returns
returns g c = record {
  does = day_stepped c.args.period c.args.priced.now _ c.key_of-place.ensures
      c.in_ok-row.ensures.looks c.put_day.ensures.does
      (λ tables placed is.
      let there = is ∙ c.in-Some.is in
      let own = ap row_key c.less_price-less.ensures
      ∙ placed (c.args.period, key_of c.args.priced.now) c.in-Some.row there in (
        found_at c.args.period tables (key_of c.args.priced.now) c.less_price-less.result
            (Some c.in-Some.row) there own,
        leaves c.args.period c.args.priced.now tables placed c.in-Some.row there
            (grind (arith, nat_tests, c.if-row-eq1.false))
            ∙ ap (λ row. put_day_row c.args.period row tables) (sym c.less_price-less.ensures),
      ));
}
