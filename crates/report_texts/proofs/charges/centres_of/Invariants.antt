use Rattle.std.proofs.Common.{◌≡◌, take}
use Rattle.report_texts.proofs.ChargeLemmas.{joined}
use Rattle.report_texts.proofs.Words.{Line, ChargeRow}
use Rattle.report_texts.specs.declared.charges.CreditAmount.{CreditAmount}
use Rattle.report_texts.proofs.charges.centres_of.Given as goal

-- the centres so far have joined those that were there
abbrev pub invariant-loop-step : goal.invariant-loop-step
invariant-loop-step l =
    l.centres.keys
    ≡ joined (λ (row : ChargeRow). row.centre) l.initial.centres.keys (take l.step-index l.steps)

abbrev pub invariant-loop-job : goal.invariant-loop-job
invariant-loop-job l =
    l.centres.keys
    ≡ joined (λ (row : ChargeRow). row.centre) l.initial.centres.keys (take l.job-index l.jobs)

abbrev pub invariant-loop-line : goal.invariant-loop-line
invariant-loop-line l =
    l.centres.keys
    ≡ joined (λ (line : Line). line.priced.centre) l.initial.centres.keys
    (take l.line-index l.lines)

abbrev pub invariant-loop-credit : goal.invariant-loop-credit
invariant-loop-credit l =
    l.centres.keys
    ≡ joined (λ (credit : CreditAmount). credit.centre) l.initial.centres.keys
    (take l.credit-index l.credits)
