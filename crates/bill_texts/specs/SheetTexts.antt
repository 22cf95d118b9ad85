-- A sheet as a text: of a part its title, the words above its columns, a line for each of its rows,
-- and one for their sums.
use Rattle.std.specs.Prelude.{ℕ, nat_lt, if◌then◌else◌, List, [], ◌++◌, codes, flat_map, length}
use Rattle.std.specs.Prelude.{Option, Some, None}
use Rattle.report_texts.specs.Columns.{left_aligned, newline, right_aligned}
use Rattle.bill_texts.specs.declared.column.Column.{Column}
use Rattle.bill_texts.specs.declared.column.Column.TheVariants.{Below, Figure, First, Number, Word}
use Rattle.bill_texts.specs.declared.part.Layout.{Layout}
use Rattle.bill_texts.specs.declared.part.Layout.TheVariants as laid
use Rattle.bill_texts.specs.declared.part.PartName.{PartName}
use Rattle.bill_texts.specs.declared.part.PartName.TheVariants as named
use Rattle.bill_texts.specs.Sheets.{Fields, PartSeen, PartsSeen, SheetSeen, columns_of, text_at}

-- words on a line of their own below the others, if there are some
unfoldable pub below_text : List ℕ → List ℕ
below_text text = if nat_lt 0 (length text) then codes "\n  " ++ text else []

-- what stands in a column; before each but the first there is a blank
unfoldable pub column_text : Fields → Column → List ℕ
column_text row (First place width) = left_aligned width (text_at row place)
column_text row (Word place width) = codes " " ++ left_aligned width (text_at row place)
column_text row (Number place width) = codes " " ++ right_aligned width (text_at row place)
column_text row (Figure place width) = codes " " ++ right_aligned width (text_at row place)
column_text row (Below place) = below_text (text_at row place)

-- the line of a row
unfoldable pub row_text : Layout → Fields → List ℕ
row_text layout row = flat_map (column_text row) (columns_of layout) ++ newline

-- the words above the columns of work, with those above CPU time and blocks, 32 wide
abbrev pub work_heading : List ℕ → List ℕ
work_heading work =
    codes "SHIFT            PERCENT      COUNT" ++ work ++ codes "                AMOUNT\n"

-- the words above the columns
unfoldable pub heading : Layout → List ℕ
heading laid.Sums =
    codes "CENTRE                 CHARGED          LATE      REVERSED"
    ++ codes "          OWED        BOOKED\n"
heading laid.CreditedSums =
    codes "CENTRE                 CHARGED          LATE      REVERSED"
    ++ codes "       CREDITS          OWED        BOOKED\n"
heading laid.Prices =
    codes "TARIFF     OF A                         RECORD             CPU"
    ++ codes "     1000 BLOCKS\n"
heading laid.Percents = codes "TARIFF     SHIFT            PERCENT\n"
heading laid.Work = work_heading (codes "             CPU          BLOCKS")
heading laid.Counts = work_heading (codes "                                ")
heading laid.Records =
    codes "DAY        SHIFT            JOB      PROGRAM  JOBID     STEP PERIOD"
    ++ codes "                           AMOUNT\n"
heading laid.Credits =
    codes "REASON                                                            "
    ++ codes "                            AMOUNT\n"

-- the title of a part, and before the other words above its columns the one that names its days
unfoldable pub title : PartName → List ℕ
title named.Sums = []
title named.Prices = codes "PRICES\n"
title named.Percents = codes "PERCENTS\n"
title named.StepsByShift = codes "STEPS BY SHIFT\nTARIFF     "
title named.JobsByShift = codes "JOBS BY SHIFT\nTARIFF     "
title named.StepsByDay = codes "STEPS BY DAY\nDAY        "
title named.JobsByDay = codes "JOBS BY DAY\nDAY        "
title named.Late = codes "LATE\n"
title named.Reversed = codes "REVERSED\n"
title named.Credits = codes "CREDITS\n"

-- the line of sums, where there is one
unfoldable pub total_text : Layout → Option Fields → List ℕ
total_text layout None = []
total_text layout (Some row) = row_text layout row

-- all lines of a part
unfoldable pub part_lines : PartSeen → List ℕ
part_lines part =
    title part.name ++ heading part.layout ++ flat_map (row_text part.layout) part.rows
    ++ total_text part.layout part.total

-- a part without a row is left out: its zero stands in the line of sums
unfoldable pub part_text : PartSeen → List ℕ
part_text part = if nat_lt 0 (length part.rows) then part_lines part else []

-- the prices and the percents
unfoldable pub terms_text : SheetSeen → List ℕ
terms_text sheet = part_text sheet.prices ++ part_text sheet.percents

-- what the sums of a centre are made of
unfoldable pub parts_text : PartsSeen → List ℕ
parts_text parts =
    part_text parts.steps_by_shift ++ part_text parts.jobs_by_shift
    ++ part_text parts.steps_by_day ++ part_text parts.jobs_by_day
    ++ part_text parts.late ++ part_text parts.reversed ++ part_text parts.credits
