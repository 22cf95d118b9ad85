use Rattle.std.proofs.Common.{◌∙◌, ap, sym}
use Rattle.book_model.proofs.Lemmas.{day_kept}
use Rattle.plain_ledger.specs.Journals.{first_day}
use Rattle.plain_ledger.proofs.made_entries.tariff_day.Goals as goal

-- by its text
pub returns-in-Ok : goal.returns-in-Ok
returns-in-Ok c =
    day_kept c.effective.result c.effective.ensures.day
    ∙ c.effective.ensures.value
    ∙ sym (ap first_day (rw c.in-Ok.is at c.parse.ensures.ok))
