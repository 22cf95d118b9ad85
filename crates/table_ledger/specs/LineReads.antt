-- Adjustment lines that are read from the tables.
use Rattle.std.specs.Prelude.{List, Option, map, filter_map}
use Rattle.book_model.specs.Std.{IsStrictlySortedBy}
use Rattle.book_model.specs.Words.{by_bytes}
use Rattle.book_model.specs.declared.line.Line.{Line}
use Rattle.table_model.specs.Words.{line_read, RecordTable}
use Rattle.tree_tables.specs.declared.line_rows.StoredLine.{StoredLine}

-- a stored line, of whichever period, with what the row of its record says
abbrev pub line_stored : RecordTable → StoredLine → Option Line
line_stored records stored = line_read records ((0, stored.name), stored.plus)

-- those for which there are records
abbrev pub lines_stored : RecordTable → List StoredLine → List Line
lines_stored records = filter_map (line_stored records)

-- the names of lines rise
abbrev pub NamesRise : List Line → Type 0
NamesRise lines = IsStrictlySortedBy by_bytes (map (λ line. line.name) lines)
