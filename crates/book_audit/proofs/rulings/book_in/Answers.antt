use Rattle.std.proofs.Common.{◌∙◌, rules, sym}
use Rattle.book_audit.proofs.Rows.Columns.{row_is}
use Rattle.book_audit.proofs.rulings.book_in.Goals as goal

pub returns : goal.returns
returns c = record {
  read = record {
    rule = c.in_ok-rule.rule;
    adopted = c.in_ok-adopted.adopted;
    are = row_is c.args.row.now _ c.requires (search rules parts 13);
    known = sym c.of.ensures ∙ c.in-Some.is;
  };
}
