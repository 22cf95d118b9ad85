use Rattle.std.proofs.Common.{◌∙◌, ◌++◌, ap}
use Rattle.report_texts.proofs.TableLemmas.{plain_heading}
use Rattle.report_texts.proofs.statement_tables.add_heading.Goals as goal

-- the names call for no quotes
pub returns : goal.returns
returns c =
    c.add_texts.ensures
    ∙ ap (λ line. c.args.table.now ++ line) (plain_heading c.args.amounts.now c.requires)
