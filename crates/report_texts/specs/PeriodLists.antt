-- Lists of periods: the closed ones in order, and then the open one.
use Rattle.std.specs.Prelude.{ℕ, ◌+◌, ℤ, List, [], ◌∷◌, ◌++◌, length, codes, Option, Some, None}
use Rattle.std.specs.Fmt.{decimal}
use Rattle.report_texts.specs.Columns.{newline}
use Rattle.report_texts.specs.Periods.{head_text}

-- the line of a period: its number and its head
unfoldable pub period_line : ℕ → Option ℤ → List ℕ
period_line period through = decimal period ++ codes " " ++ head_text through ++ newline

-- the lines of closed periods, by the days that they were closed through; the first has that number
abbrev pub closed_lines : ℕ → List ℤ → List ℕ
closed_lines period [] = []
closed_lines period (through ∷ rest) =
    period_line period (Some through) ++ closed_lines (period + 1) rest

-- how many periods there are, the closed ones, and the open one
abbrev pub period_list_text : List ℤ → List ℕ
period_list_text closes =
    codes "PERIODS " ++ decimal (length closes + 1) ++ newline
    ++ closed_lines 1 closes ++ period_line (length closes + 1) None
