use Rattle.std.proofs.Common.{append_assoc}
use Rattle.report_texts.specs.UsageLines.{start_columns}
use Rattle.report_texts.proofs.usage_lines.push_start.Goals as goal

-- the time stands before the word, and the completion after it
pub returns : goal.returns
unfolding start_columns
returns c =
    rw (
      c.push_completion.ensures,
      c.push_str.ensures,
      c.push_moment.ensures,
      c.initiation.ensures.value,
      c.completion.ensures.value,
    ) (simp append_assoc)
