use Rattle.std.proofs.Common.{◌≡◌, ◌++◌, take, flat_map}
use Rattle.csv.specs.Records.{fields_of}
use Rattle.bill_texts.specs.SheetTexts.{column_text}
use Rattle.bill_texts.proofs.sheet_texts.push_columns.Given as goal

-- what stands in the columns so far is appended
abbrev pub invariant-loop-column : goal.invariant-loop-column
invariant-loop-column l =
    l.out ≡ l.initial.out ++ flat_map (column_text (fields_of l.row)) (take l.column-index l.columns)
