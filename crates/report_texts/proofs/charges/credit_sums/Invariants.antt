use Rattle.std.proofs.Common.{◌≡◌, take}
use Rattle.std.specs.List.{sum_by}
use Rattle.report_texts.proofs.charges.credit_sums.Given as goal

-- what the credits so far take off, and what they add
abbrev pub invariant-loop-credit : goal.invariant-loop-credit
invariant-loop-credit l = record {
  credited : l.credited ≡ sum_by (λ credit. credit.credited) (take l.credit-index l.credits);
  debited : l.debited ≡ sum_by (λ credit. credit.debited) (take l.credit-index l.credits);
}
