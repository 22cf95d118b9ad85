use Rattle.std.proofs.Common.{◌∙◌, Ok, Some, refl, sym}
use Rattle.book_model.specs.Journal.{ReplacementOf}
use Rattle.book_model.specs.Words.{note_given}
use Rattle.book_model.proofs.Std.{option_map_or}
use Rattle.book_model.proofs.Lemmas.{day_kept}
use Rattle.table_model.specs.Changed.{replaced_at}
use Rattle.table_model.specs.Steps.{put_replaced_row}
use Rattle.table_model.specs.TableChanges.{replace_each}
use Rattle.table_model.specs.Words.{Tables, put_tariff_row, set_sums}
use Rattle.table_ledger.specs.Replacing.{HasTextAndCounts}
use Rattle.table_ledger.proofs.EnteredRulings.{does_ruling}
use Rattle.table_ledger.proofs.StepLemmas.{does_so, does_then}
use Rattle.table_ledger.proofs.replacing.write_replacement.Goals as goal

-- the prices, the row of what is replaced, the tariff's row, the sums, and the entry
pub returns : goal.returns
returns g c =
    let terms = c.args.tariff.now in
    let given = c.args.given.now in
    let day = day_kept c.effective-day.result c.effective-day.ensures.day
    ∙ c.effective-day.ensures.value in
    let sums = c.args.sums.now in
    does_ruling {When = HasTextAndCounts terms given.was.now sums.held}
    {change = replaced_at given.number given.period c.args.tariffs.now given.text.now terms
    sums.amount}
    (note_given c.args.note.now) {place = ReplacementOf given.number} c.enter.result
    (does_so (Ok tt)
    (does_then (Ok tt)
    (does_then (Ok tt)
    (does_then (Ok tt) c.in_ok-replace_all.ensures.does c.in_ok-put_replaced.ensures.does
    (λ tables always. (always, tt)))
    c.in_ok-put_tariff.ensures.does (λ tables always. (always, tt)))
    c.in_ok-set_sums.ensures.does (λ tables always. (always, tt)))
    (λ tables known.
    let made : Tables = replace_each given.period c.args.tariffs.now terms tables in (
      tt,
      λ i. set_sums (sym known.counted i) sums.amount
          (put_tariff_row (day i) (Some given.text.now)
          (option_map_or (λ was. put_replaced_row given.number
          (record { day = day i; text = was; period = given.period }) made)
          (sym known.text i) made)),
    )))
    refl c.enter.ensures
