-- Which credit is asked for, among those that are kept.
use Rattle.std.specs.Prelude.{Bool}
use Rattle.book_model.specs.Words.{Credit, is_credit}
use Rattle.tree_tables.specs.declared.credit_rows.CreditText.{CreditText}

-- a credit that is kept is the one that is asked for, in the same period
abbrev pub is_given_as : CreditText → Credit → Bool
is_given_as credit kept =
    is_credit credit.period credit.centre credit.amount credit.reason.now kept
