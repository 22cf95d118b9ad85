use Rattle.std.proofs.Common.{◌≡◌, rules}
use Rattle.std.specs.BTreeMap.{values}
use Rattle.std.proofs.lemmas.Result.{IfOk-weaker}
use Rattle.table_ledger.proofs.OtherPriceLemmas.{rows_summed}
use Rattle.table_ledger.proofs.row_sums.RowSums.into_rows.Goals as goal

pub returns : goal.returns
returns c =
    IfOk-weaker c.collect.result (λ rows. rows.items ≡ values c.args.self.rows) _
    (λ rows is costs are. rows_summed costs rows are is) (search rules)
