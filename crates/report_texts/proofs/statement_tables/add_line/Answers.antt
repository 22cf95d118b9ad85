use Rattle.std.proofs.Common.{◌∙◌, ◌++◌, ap, arith}
use Rattle.report_texts.proofs.TableLemmas.{plain_line}
use Rattle.report_texts.proofs.statement_tables.add_line.Goals as goal

-- none of the fields calls for quotes
pub returns : goal.returns
returns c =
    let row = c.args.row in
    (rw (c.add_fields.ensures.fields, c.new-fields.ensures) at c.add_row.ensures)
    ∙ ap (λ line. c.args.table.now ++ line)
    (plain_line c.args.period row (omega arith) (omega arith) (omega arith) (omega arith) (omega arith)
    c.add_fields.ensures.centre c.add_fields.ensures.shift)
