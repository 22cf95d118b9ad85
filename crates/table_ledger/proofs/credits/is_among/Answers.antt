use Rattle.std.proofs.Common.{◌∙◌, Bool, sym}
use Rattle.tariff_rules.proofs.SearchLemmas.{any_passes, fails_more, none_passes}
use Rattle.tree_tables.specs.Stored.{credit_entry}
use Rattle.tree_tables.specs.declared.credit_rows.StoredCredit.{StoredCredit}
use Rattle.table_ledger.specs.CreditReads.{is_given_as}
use Rattle.table_ledger.proofs.credits.is_among.Goals as goal

pub returns-then-is_same : goal.returns-then-is_same
returns-then-is_same c =
    let test : StoredCredit → Bool =
    λ stored. is_given_as c.args.credit.now (credit_entry stored).1 in
    any_passes test c.args.all.now c.loop-stored.stored-index c.stored-item.result
    c.loop-stored-test.true (rw (← c.stored-item.is) (sym c.is_same.ensures ∙ c.if-is_same.true))

pub loop-stored-preserved : goal.loop-stored-preserved
loop-stored-preserved c =
    let test : StoredCredit → Bool =
    λ stored. is_given_as c.args.credit.now (credit_entry stored).1 in
    fails_more test c.args.all.now c.loop-stored.stored-index c.stored-item.result
    c.loop-stored-test.true c.loop-stored.invariant
    (rw (← c.stored-item.is) (sym c.is_same.ensures ∙ c.if-is_same.false))

pub returns : goal.returns
returns c =
    let test : StoredCredit → Bool =
    λ stored. is_given_as c.args.credit.now (credit_entry stored).1 in
    none_passes test c.args.all.now c.loop-stored.stored-index c.loop-stored-test.false
    c.loop-stored.invariant
