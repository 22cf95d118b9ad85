use Rattle.book_model.proofs.DayLemmas.{day_kept}
use Rattle.report_texts.specs.FocusTables.{row_line}
use Rattle.report_texts.proofs.focus_tables.add_charge.Goals as goal

-- the row that is added has these fields
pub returns : goal.returns
unfolding row_line
returns c =
    rw (
      c.add_tags.ensures,
      c.add_cost.ensures,
      c.add_usage.ensures,
      c.add_place.ensures,
      c.add_period.ensures,
      c.add_office.ensures,
      c.new-fields.ensures,
      day_kept c.args.row.now.day c.requires.day,
    ) at c.add_row.ensures
