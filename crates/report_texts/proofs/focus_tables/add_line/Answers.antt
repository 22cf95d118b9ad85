use Rattle.book_model.proofs.DayLemmas.{day_kept}
use Rattle.report_texts.specs.FocusTables.{row_line}
use Rattle.report_texts.proofs.focus_tables.add_line.Goals as goal

-- the row that is added has these fields
pub returns : goal.returns
unfolding row_line
returns c =
    rw (
      c.add_tags.ensures,
      c.word_of.ensures,
      c.add_cost.ensures,
      c.charged_amount.ensures,
      c.reversed_amount.ensures,
      c.add_correction.ensures,
      c.add_place.ensures,
      c.add_period.ensures,
      c.add_office.ensures,
      c.new-fields.ensures,
      day_kept c.args.line.now.priced.day c.requires.day,
    ) at c.add_row.ensures
