use Rattle.csv.specs.Writing.{default_writer, row_text}
use Rattle.text_drafts.proofs.table.TableDraft.add_row.Given as goal

-- the piece is the row
abbrev pub ghost-then_of : goal.ghost-then_of
ghost-then_of a = row_text default_writer a._value.now
