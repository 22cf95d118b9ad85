use Rattle.std.proofs.Common.{◌∙◌, Ok, ap, false, refl, sym}
use Rattle.std.specs.Option.{option_map_or}
use Rattle.book_lists.proofs.ReadingLemmas.{call_failed, read_as}
use Rattle.book_lists.proofs.WritingLemmas.{same_value}
use Rattle.chargectl.specs.Far.{is_far}
use Rattle.chargectl.proofs.far.is_far_on.Goals as goal

pub returns-in_err-rows : goal.returns-in_err-rows
returns-in_err-rows g c =
    call_failed c.from_residual.result c.from_residual.ensures.1 (λ book. refl) (λ book. refl)
    (λ book is. cc is) c.in_err-rows.ensures.rows

pub returns : goal.returns
returns g c =
    let made = (rw c.deref.ensures.value at c.is_any_far.ensures) in
    read_as (λ book. refl) (λ book. refl) (record { reopen = refl; store = refl })
    (λ book said. ap (λ rows. Ok (option_map_or (λ it. is_far it rows c.args.period.last_close)
    c.args.day false)) (same_value said) ∙ ap Ok (sym made))
    c.in_ok-rows.ensures.rows
