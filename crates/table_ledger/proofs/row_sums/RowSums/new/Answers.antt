use Rattle.std.proofs.Common.{◌∙◌, sym, refl, arith}
use Rattle.book_core.proofs.KeyedRowLemmas.{keyed_rows-none}
use Rattle.table_ledger.proofs.row_sums.RowSums.new.Goals as goal

pub returns : goal.returns
returns c = record {
  rows = c.new.ensures.empty ∙ sym keyed_rows-none;
  cost = refl;
  small = omega arith;
}
