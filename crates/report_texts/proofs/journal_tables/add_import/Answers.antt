use Rattle.std.proofs.Common.{append_assoc}
use Rattle.report_texts.specs.JournalTables.{act_fields}
use Rattle.report_texts.proofs.journal_tables.add_import.Goals as goal

-- its word, no words, and what it read are its fields
pub returns : goal.returns
unfolding act_fields
returns c =
    rw (
      c.add_ending.ensures,
      c.add_others.ensures,
      c.add_usage.ensures,
      c.add_str-2.ensures,
      c.add_str.ensures,
    ) (simp append_assoc)
