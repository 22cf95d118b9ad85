use Rattle.std.proofs.Common.{◌+ℤ◌, append_assoc, pos}
use Rattle.book_model.proofs.DayLemmas.{day_kept}
use Rattle.report_texts.specs.FocusTables.{period_fields}
use Rattle.report_texts.proofs.MidnightLemmas.{midnight_kept, next_midnight}
use Rattle.report_texts.proofs.focus_tables.add_period.Goals as goal

-- the currency, the moments and what it is for are its fields
pub returns : goal.returns
unfolding period_fields
returns c =
    let head = c.args.head.now in
    rw (
      c.add_str-3.ensures,
      c.add_str-2.ensures,
      c.add_midnight-2.ensures,
      c.add_midnight.ensures,
      c.add_str.ensures,
      midnight_kept head.begins c.requires.begins,
      day_kept head.last c.requires.last,
      midnight_kept (head.last +ℤ pos 1) (next_midnight head.last c.requires.last),
    ) (simp append_assoc)
