use Rattle.std.proofs.Common.{◌≡◌, map, take}
use Rattle.book_model.specs.Words.{credit_shown}
use Rattle.bill_texts.specs.CreditRows.{credit_fields}
use Rattle.bill_texts.proofs.credit_rows.credit_rows.Given as goal

-- the rows of the credits so far are pushed
abbrev pub invariant-loop-credit : goal.invariant-loop-credit
invariant-loop-credit l =
    l.rows.items
    ≡ map (λ credit. credit_fields (credit_shown credit)) (take l.credit-index l.credits)
