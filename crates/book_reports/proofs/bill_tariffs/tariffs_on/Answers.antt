use Rattle.std.proofs.Common.{sym}
use Rattle.book_reports.proofs.Words.{folded, kept_of, tariffs_billed, tariffs_shown}
use Rattle.book_reports.proofs.KeptTariffLemmas.{kept_dated, kept_shown, shifts_kept_dated}
use Rattle.book_reports.proofs.bill_tariffs.tariffs_on.Goals as goal

pub returns-clause-tariffs : goal.returns-clause-tariffs
returns-clause-tariffs g c =
    folded tariffs_shown (λ tariffs. tariffs_billed (kept_of c.args.days tariffs))
    c.fold.ensures (λ kept tariffs has. sym (kept_shown has))

pub returns-clause-days : goal.returns-clause-days
returns-clause-days g c = kept_dated c.fold.result _ c.fold.ensures.has

pub returns-clause-shift_days : goal.returns-clause-shift_days
returns-clause-shift_days g c = shifts_kept_dated c.fold.result _ c.fold.ensures.has
