use Rattle.std.proofs.Common.{◌+ℤ◌, append_assoc, pos}
use Rattle.book_model.proofs.DayLemmas.{day_kept}
use Rattle.report_texts.specs.FocusTables.{place_fields}
use Rattle.report_texts.proofs.MidnightLemmas.{midnight_kept, next_midnight}
use Rattle.report_texts.proofs.focus_tables.add_place.Goals as goal

-- the centre and the moments are its fields
pub returns : goal.returns
unfolding place_fields
returns c =
    let day = c.args.day in
    rw (
      c.add_midnight-2.ensures,
      c.add_midnight.ensures,
      c.add_str-2.ensures,
      c.text-2.ensures.value,
      c.add_str.ensures,
      c.text.ensures.value,
      day_kept day c.requires,
      midnight_kept (day +ℤ pos 1) (next_midnight day c.requires),
    ) (simp append_assoc)
