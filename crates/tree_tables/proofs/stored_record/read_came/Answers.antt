use Rattle.tree_tables.proofs.CameRows.{came_read}
use Rattle.tree_tables.proofs.stored_record.read_came.Goals as goal

pub returns : goal.returns
returns c = record { read = came_read c.entry_at.result c.args.row.now c.entry_at.ensures.read }
