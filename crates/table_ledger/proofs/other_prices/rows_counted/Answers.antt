use Rattle.std.proofs.Common.{List, subst}
use Rattle.book_model.specs.Words.{Priced}
use Rattle.book_core.specs.Words.{ruled_in}
use Rattle.table_ledger.proofs.Words.{looks_after_look, AreRowsOf}
use Rattle.table_ledger.proofs.DetailCosts.{kept_costs}
use Rattle.table_ledger.proofs.other_prices.rows_counted.Goals as goal

-- what is kept of its days is what the period counts
pub returns-then-few : goal.returns-then-few
returns-then-few g c = record {
  looks = looks_after_look c.rows_by_details.result c.in_ok-few.ensures.looks
      c.rows_by_details.ensures.looks
      (λ tables found few finds keeps. subst (λ (costs : List Priced). AreRowsOf costs found)
      (kept_costs c.args.period (ruled_in c.args.summary.now.rulings) c.args.tariff.now tables
      c.through_of-close.result c.through_of-through.result c.through_of-close.ensures
      c.through_of-through.ensures keeps) finds);
}

pub returns : goal.returns
returns g c = record {
  looks = looks_after_look c.rows_by_name.result c.in_ok-few.ensures.looks
      c.rows_by_name.ensures.looks (λ tables found few finds. finds);
}
