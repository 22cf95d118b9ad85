use Rattle.std.proofs.Common.{rules}
use Rattle.book_audit.proofs.Rows.Columns.{row_is}
use Rattle.book_audit.proofs.kept_credits.credit_in.Goals as goal

pub returns : goal.returns
returns c = record { read = row_is c.args.row.now _ c.requires (search rules parts 13) }
