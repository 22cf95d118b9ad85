use Rattle.book_audit.proofs.Rows.Columns.{arrived_is}
use Rattle.book_audit.proofs.record_row.record_in.Goals as goal

pub returns : goal.returns
returns c = record {
  read = arrived_is c.args.row.now c.in_ok-record.record c.in_ok-came.came c.in_ok-record.ensures
      c.in_ok-came.ensures;
}
