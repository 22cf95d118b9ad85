use Rattle.std.proofs.Common.{List, subst, sym}
use Rattle.book_model.specs.Words.{Priced}
use Rattle.book_core.specs.Words.{ruled_in}
use Rattle.table_ledger.proofs.Words.{looks_after_look, AreRowsOf}
use Rattle.table_ledger.proofs.WhatIfTries.{costs_tested}
use Rattle.table_ledger.proofs.other_prices.rows_by_name.Goals as goal

-- those that pass the test are what the period counts
pub returns : goal.returns
returns g c = record {
  looks = looks_after_look c.rows_under.result c.in_ok-test.ensures.looks c.rows_under.ensures.looks
      (λ tables found tests finds keeps. subst (λ (costs : List Priced). AreRowsOf costs found)
      (sym (costs_tested c.args.period (ruled_in c.args.summary.now.rulings) c.args.tariff.now
      tables c.in_ok-test.test tests)) finds);
}
