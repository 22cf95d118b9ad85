use Rattle.std.proofs.Common.{refl}
use Rattle.chargectl.proofs.DryRunLemmas.{after_reading, all_shown, handed_on, later_failed, name_failed}
use Rattle.chargectl.proofs.DryRunLemmas.{no_refusal, reading_failed, ruling_failed}
use Rattle.chargectl.proofs.dry_runs.try_ruling.Goals as goal

-- the day of the ruling could not be looked at
pub returns-in_err-is_far : goal.returns-in_err-is_far
returns-in_err-is_far g c =
    handed_on c.from_residual.result c.from_residual.ensures.1
    (reading_failed c.args.asked.now (λ book. refl) (λ book is. no_refusal is) c.in_err-is_far.ensures)

-- nor the number of the open period
pub returns-in_err-period : goal.returns-in_err-period
returns-in_err-period g c =
    let exit = c.from_residual-in_err-period in
    handed_on exit.result exit.ensures.1
    (after_reading (λ book. refl) c.in_ok-is_far.ensures
    (reading_failed c.args.asked.now (λ book. refl) (λ book is. no_refusal is) c.in_err-period.ensures.period))

-- the text of a tariff is none
pub returns-in_err-ruling : goal.returns-in_err-ruling
returns-in_err-ruling g c =
    let exit = c.from_residual-in_err-ruling in
    handed_on exit.result exit.ensures.1
    (after_reading (λ book. refl) c.in_ok-is_far.ensures
    (name_failed c.args.asked.now (λ book. refl) c.in_ok-period.ensures.period
    c.in_err-ruling.ensures.refused))

-- the figures before it could not be read
pub returns-in_err-before : goal.returns-in_err-before
returns-in_err-before g c =
    let exit = c.from_residual-in_err-before in
    handed_on exit.result exit.ensures.1
    (after_reading (λ book. refl) c.in_ok-is_far.ensures
    (after_reading (λ book. refl) c.in_ok-period.ensures.period
    (reading_failed c.args.asked.now (λ book. refl) (λ book is. no_refusal is) c.in_err-before.ensures)))

-- the ruling was refused
pub returns-in_err-answer : goal.returns-in_err-answer
returns-in_err-answer g c =
    let exit = c.from_residual-in_err-answer in
    handed_on exit.result exit.ensures.1
    (after_reading (λ book. refl) c.in_ok-is_far.ensures
    (after_reading (λ book. refl) c.in_ok-period.ensures.period
    (after_reading (λ book. refl) c.in_ok-before.ensures
    (ruling_failed c.args.asked.now c.in_ok-ruling.ruling c.in_ok-ruling.ensures.named
    c.in_err-answer.ensures))))

-- the figures after it could not be read
pub returns-in_err-after : goal.returns-in_err-after
returns-in_err-after g c =
    let exit = c.from_residual-in_err-after in
    handed_on exit.result exit.ensures.1
    (after_reading (λ book. refl) c.in_ok-is_far.ensures
    (after_reading (λ book. refl) c.in_ok-period.ensures.period
    (after_reading (λ book. refl) c.in_ok-before.ensures
    (later_failed c.args.asked.now c.in_ok-answer.answer c.in_ok-ruling.ruling
    c.in_ok-period.period.number c.requires
    c.in_ok-answer.ensures c.in_err-after.ensures))))

pub returns : goal.returns
returns g c =
    all_shown c.args.asked.now c.in_ok-ruling.ruling c.in_ok-answer.answer c.shown.result c.requires
    c.in_ok-ruling.ensures.named c.in_ok-is_far.ensures
    c.in_ok-period.ensures.period c.in_ok-before.ensures c.in_ok-answer.ensures
    c.in_ok-after.ensures c.shown.ensures
