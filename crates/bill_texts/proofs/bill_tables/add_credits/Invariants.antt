use Rattle.std.proofs.Common.{◌≡◌, ◌++◌, flat_map, take}
use Rattle.book_model.specs.Words.{credit_shown}
use Rattle.bill_texts.specs.BillTables.{credit_row}
use Rattle.bill_texts.proofs.bill_tables.add_credits.Given as goal

-- the rows of the credits so far are added
abbrev pub invariant-loop-credit : goal.invariant-loop-credit
invariant-loop-credit l =
    l.table
    ≡ l.initial.table
    ++ flat_map (λ credit. credit_row l.period (credit_shown credit)) (take l.credit-index l.credits)
