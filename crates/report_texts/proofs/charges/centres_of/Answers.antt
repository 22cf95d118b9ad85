use Rattle.std.proofs.Common.{◌≡◌, ◌∙◌, ℕ, List, ap, rules, take_all}
use Rattle.std.proofs.lemmas.Result.{IfOk-weaker}
use Rattle.report_texts.proofs.ChargeLemmas.{centres_joined, joined}
use Rattle.report_texts.proofs.Words.{Line, ChargeRow}
use Rattle.report_texts.specs.declared.charges.CreditAmount.{CreditAmount}
use Rattle.report_texts.proofs.charges.centres_of.Goals as goal

-- the centres of all have joined none
pub returns : goal.returns
returns c =
    let steps = c.args.steps.now in
    let jobs = c.args.jobs.now in
    let lines = c.args.lines.now in
    let credits = c.args.credits.now in
    let row_centre : ChargeRow → List ℕ = λ row. row.centre in
    let line_centre : Line → List ℕ = λ line. line.priced.centre in
    let credit_centre : CreditAmount → List ℕ = λ credit. credit.centre in
    let none = c.new-centres.result.keys in
    let by_steps = c.loop-step.centres.keys in
    let by_jobs = c.loop-job.centres.keys in
    let by_lines = c.loop-line.centres.keys in
    let all = c.loop-credit.centres.keys in
    let joined_all =
    centres_joined steps jobs lines credits none by_steps by_jobs by_lines all
    c.new-centres.ensures.empty
    (c.loop-step.invariant
    ∙ ap (joined row_centre none) (take_all c.loop-step.step-index steps c.loop-step-test.false))
    (c.loop-job.invariant
    ∙ ap (joined row_centre by_steps) (take_all c.loop-job.job-index jobs c.loop-job-test.false))
    (c.loop-line.invariant
    ∙ ap (joined line_centre by_jobs) (take_all c.loop-line.line-index lines c.loop-line-test.false))
    (c.loop-credit.invariant
    ∙ ap (joined credit_centre by_lines)
    (take_all c.loop-credit.credit-index credits c.loop-credit-test.false)) in
    IfOk-weaker c.collect.result (λ names. names.items ≡ all) _ (λ names is. is ∙ joined_all)
    (search rules)
