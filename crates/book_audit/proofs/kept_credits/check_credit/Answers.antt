use Rattle.std.proofs.Common.{◌≡◌, ◌∙◌, ◌+◌, rules}
use Rattle.tree_tables.specs.Columns.{credit_columns}
use Rattle.tree_tables.specs.Stored.{credit_entry}
use Rattle.book_audit.proofs.kept_credits.check_credit.Goals as goal

pub returns : goal.returns
returns c =
    let credit = c.in-Ok.credit in
    let number : credit.number ≡ c.args.count + 1 = search rules in
    record {
      credit = (credit_entry credit).1;
      is = c.in-Ok.ensures.read ∙ (λ i. credit_columns (number i, (credit_entry credit).1));
      own = c.may_be_given.ensures c.if-not-may_be_given.false;
      few = search rules;
    }
