use Rattle.std.proofs.Common.{◌∙◌, Ok, Some, ap, sym}
use Rattle.book_model.specs.Journal.{TariffOf}
use Rattle.book_model.specs.Words.{note_given}
use Rattle.book_model.proofs.Std.{keys}
use Rattle.table_model.specs.Words.{put_tariff_row, set_sums, reprice_step, tariff_at, walk}
use Rattle.table_ledger.specs.Repricing.{TakesAndCounts}
use Rattle.table_ledger.proofs.EnteredRulings.{does_ruling}
use Rattle.table_ledger.proofs.StepLemmas.{does_so, does_then}
use Rattle.book_model.proofs.Lemmas.{day_kept}
use Rattle.table_ledger.proofs.tariff.write_tariff.Goals as goal

-- the prices, the tariff's row, the sums, and the entry
pub returns : goal.returns
returns g c =
    let terms = c.args.tariff.now in
    let sums = c.args.sums.now in
    let day = day_kept c.effective-day.result c.effective-day.ensures.day
    ∙ c.effective-day.ensures.value in
    does_ruling {When = TakesAndCounts c.args.period terms sums.held}
    {change = tariff_at c.args.period (Some c.args.text.now) terms sums.amount}
    (note_given c.args.note.now) {place = TariffOf terms.effective} c.enter.result
    (does_so (Ok tt)
    (does_then (Ok tt)
    (does_then (Ok tt) c.in_ok-reprice_all.ensures.does c.in_ok-put_tariff.ensures.does
    (λ tables takes. (takes, tt)))
    c.in_ok-set_sums.ensures.does (λ tables takes. (takes, tt)))
    (λ tables known. (
      known.0,
      λ i.
          set_sums (sym known.1 i) sums.amount
          (put_tariff_row (day i) (Some c.args.text.now)
          (walk (reprice_step c.args.period terms) (keys tables.records) tables)),
    )))
    (ap TariffOf day) c.enter.ensures
