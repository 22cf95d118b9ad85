use Rattle.std.proofs.Common.{◌≤ℤ◌, subst, sym}
use Rattle.smf_text.specs.Day.{last_day}
use Rattle.book_model.proofs.Lemmas.{day_kept}
use Rattle.book_reports.proofs.coverage_sums.begins_on.Goals as goal

-- a close is a day
pub day_after-requires : goal.day_after-requires
day_after-requires c =
    let close = c.in-Some.close in
    let day = c.requires close c.in-Some.is in
    subst (λ day. day ≤ℤ last_day) (sym (day_kept close day)) day.1
