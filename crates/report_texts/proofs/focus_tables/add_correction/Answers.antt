use Rattle.std.proofs.Common.{append_assoc}
use Rattle.report_texts.specs.FocusTables.{line_usage}
use Rattle.report_texts.proofs.focus_tables.add_correction.Goals as goal

-- what it is for is its fields
pub returns : goal.returns
unfolding line_usage
returns c =
    rw (
      c.add_str-7.ensures,
      c.add_str-6.ensures,
      c.add_str-5.ensures,
      c.add_str-4.ensures,
      c.add_draft.ensures,
      c.push_record.ensures,
      c.new-about.ensures,
      c.add_str-3.ensures,
      c.add_str-2.ensures,
      c.add_str.ensures,
    ) (simp append_assoc)
