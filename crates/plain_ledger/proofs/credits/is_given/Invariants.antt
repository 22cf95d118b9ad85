use Rattle.tariff_rules.proofs.SearchLemmas.{AreFailed}
use Rattle.book_model.specs.Words.{credit_shown, is_credit}
use Rattle.plain_ledger.proofs.credits.is_given.Given as goal

-- none so far is this one
abbrev pub invariant-loop-credit : goal.invariant-loop-credit
invariant-loop-credit l =
    AreFailed (λ credit. is_credit l.period l.centre l.amount l.reason (credit_shown credit))
    l.credits l.credit-index
