use Rattle.std.proofs.Common.{append_assoc}
use Rattle.report_texts.specs.FocusTables.{charge_usage}
use Rattle.report_texts.proofs.focus_tables.add_usage.Goals as goal

-- what it is for and how much was used are its fields
pub returns : goal.returns
unfolding charge_usage
returns c =
    rw (
      c.add_str-5.ensures,
      c.add_seconds-2.ensures,
      c.add_str-4.ensures,
      c.add_seconds.ensures,
      c.add_draft.ensures,
      c.push_records.ensures,
      c.new-about.ensures,
      c.add_str-3.ensures,
      c.add_str-2.ensures,
      c.add_str.ensures,
    ) (simp append_assoc)
