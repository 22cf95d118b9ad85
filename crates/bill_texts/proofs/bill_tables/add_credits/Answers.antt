use Rattle.std.proofs.Common.{◌∙◌, ◌++◌, ap, flat_map, sym, take_all}
use Rattle.std.proofs.lemmas.List.Folds.{flat_map-map}
use Rattle.book_model.specs.declared.bill.Credit.{Credit}
use Rattle.book_model.specs.Words.{credit_shown}
use Rattle.bill_texts.specs.BillTables.{credit_row}
use Rattle.bill_texts.proofs.bill_tables.add_credits.Goals as goal

-- these are the rows of all
pub returns : goal.returns
returns c =
    let credits = c.args.credits.now in
    let table = c.args.table.now in
    c.loop-credit.invariant
    ∙ ap (λ some. table
    ++ flat_map (λ (credit : Credit). credit_row c.args.period (credit_shown credit)) some)
    (take_all c.loop-credit.credit-index credits c.loop-credit-test.false)
    ∙ ap (λ rows. table ++ rows) (sym (flat_map-map (credit_row c.args.period) credit_shown credits))
