-- How reports name a period.
use Rattle.std.specs.Prelude.{ℕ, List, ◌++◌, codes, Option, Some, None, ℤ, decimal}
use Rattle.book_model.specs.Words.{day_text_of}
use Rattle.report_texts.specs.Columns.{newline}

-- a period is open, or was closed through a day
unfoldable pub head_text : Option ℤ → List ℕ
head_text None = codes "OPEN"
head_text (Some through) = codes "CLOSED THROUGH " ++ day_text_of through

-- what comes after a report's name in its first line: the period's number and head
unfoldable pub title_end : ℕ → Option ℤ → List ℕ
title_end period through =
    codes " PERIOD " ++ decimal period ++ codes " " ++ head_text through ++ newline

-- the first line of a report on a period: what the report is, and the period's number and head
unfoldable pub title_line : List ℕ → ℕ → Option ℤ → List ℕ
title_line report period through =
    report ++ codes " PERIOD " ++ decimal period ++ codes " " ++ head_text through ++ newline
