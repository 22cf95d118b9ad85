-- Laws of the reports on single centres.
use Rattle.std.specs.Prelude.{◌≡◌, ℕ, List, map, sum_by}
use Rattle.book_model.specs.declared.line.Line.{Line}
use Rattle.book_model.specs.declared.row.ChargeRow.{ChargeRow}
use Rattle.book_model.specs.Words.{by_bytes, members, set_of}
use Rattle.report_texts.specs.Centres.{lines_of_centre, rows_of_centre}
use Rattle.page_texts.specs.Figures.{centres_of}

-- the centres of lines, each once and in order
abbrev pub line_centres : List Line → List (List ℕ)
line_centres lines = members (set_of by_bytes (map (λ line. line.priced.centre) lines))

-- The statements of all centres add up to the statement of the period, whatever is summed (counts,
-- CPU times, blocks, amounts); and so do the adjustments. The rows may be any, so this holds of
-- rows by another tariff too.
pub record CentresAddUp : Type 0 where
  pub rows :
      (part : ChargeRow → ℕ) (rows : List ChargeRow)
      → sum_by (λ centre. sum_by part (rows_of_centre centre rows)) (centres_of rows)
      ≡ sum_by part rows
  pub lines :
      (part : Line → ℕ) (lines : List Line)
      → sum_by (λ centre. sum_by part (lines_of_centre centre lines)) (line_centres lines)
      ≡ sum_by part lines
