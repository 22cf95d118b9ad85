use Rattle.std.proofs.Common.{append_assoc}
use Rattle.report_texts.specs.JournalTables.{no_reading}
use Rattle.report_texts.proofs.journal_tables.add_no_reading.Goals as goal

-- the empty fields are those of no import
pub returns : goal.returns
unfolding no_reading
returns c =
    rw (
      c.add_str-12.ensures,
      c.add_str-11.ensures,
      c.add_str-10.ensures,
      c.add_str-9.ensures,
      c.add_str-8.ensures,
      c.add_str-7.ensures,
      c.add_str-6.ensures,
      c.add_str-5.ensures,
      c.add_str-4.ensures,
      c.add_str-3.ensures,
      c.add_str-2.ensures,
      c.add_str.ensures,
    ) (simp append_assoc)
