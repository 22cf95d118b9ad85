use Rattle.std.proofs.Common.{refl}
use Rattle.book_lists.proofs.ReadingLemmas.{call_failed}
use Rattle.chargectl.proofs.FarLemmas.{far_read, memory_gone}
use Rattle.chargectl.proofs.far.is_far_asked.Goals as goal

pub returns-in_err-period : goal.returns-in_err-period
returns-in_err-period g c =
    call_failed c.from_residual.result c.from_residual.ensures.1 (λ book. refl) (λ book. refl)
    (λ book is. cc is) c.in_err-period.ensures.period

pub returns-in_err-day : goal.returns-in_err-day
returns-in_err-day g c =
    let exit = c.from_residual-in_err-day in
    memory_gone exit.result c.in_err-day.field-0.0 exit.ensures.1 c.in_err-day.ensures.memory
    (λ book. refl) (λ book. refl) c.in_ok-period.ensures.period

pub returns : goal.returns
returns g c =
    far_read c.args.today c.args.asked.now c.in_ok-day.day c.in_ok-period.period c.is_far_on.result
    c.in_ok-day.ensures.day c.in_ok-period.ensures.period c.is_far_on.ensures
