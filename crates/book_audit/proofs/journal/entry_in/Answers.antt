use Rattle.std.proofs.Common.{rules}
use Rattle.book_audit.specs.Journal.{IsWhole}
use Rattle.book_audit.proofs.Rows.Columns.{entry_is}
use Rattle.book_audit.proofs.journal.entry_in.Goals as goal

pub returns : goal.returns
returns c =
    let row = c.args.row.now in
    let entry = c.in_ok-entry.entry in
    let whole : IsWhole row entry.act = search rules in
    record {
      read = entry_is row c.in_ok-number.number entry c.in_ok-number.ensures.read
          c.in_ok-entry.ensures.says whole;
    }
