use Rattle.std.proofs.Common.{◌≡◌, ◌++◌, take, flat_map}
use Rattle.csv.specs.Records.{fields_of}
use Rattle.bill_pages.specs.SheetPages.{column_page}
use Rattle.bill_pages.proofs.sheet_pages.push_columns.Given as goal

-- what stands in the columns so far is appended
abbrev pub invariant-loop-column : goal.invariant-loop-column
invariant-loop-column l =
    l.out ≡ l.initial.out ++ flat_map (column_page (fields_of l.row)) (take l.column-index l.columns)
