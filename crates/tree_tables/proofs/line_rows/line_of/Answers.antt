use Rattle.std.proofs.Common.{◌∙◌, ap, ap₂}
use Rattle.book_model.specs.Words.{line_with, record_with}
use Rattle.tree_tables.proofs.line_rows.line_of.Goals as goal

-- its fields are those of the row
pub returns : goal.returns
returns c = record {
  read = λ came entry is.
      let held = c.in_ok-data.ensures.read came entry is in
      let bytes = c.of_usage-usage.ensures ∙ c.as_slice.ensures.value
      ∙ c.in_ok-put_usage.ensures.bytes ∙ ap record_with held in
      let cost = c.in_ok-priced.ensures.read came entry is in
      let stored = c.args.stored.now in
      c.line_with.ensures ∙ ap₂ (line_with stored.plus stored.name) bytes cost;
}
