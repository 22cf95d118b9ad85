-- Pieces of pages. What stands in a cell is a page's text already.
use Rattle.std.specs.Prelude.{ℕ, List, ◌++◌, codes, flat_map}
use Rattle.std.specs.Fmt.{decimal}
use Rattle.hex.specs.Hex.{encode_lower}

-- a cell of a table
unfoldable pub cell : List ℕ → List ℕ
cell text = codes "<td>" ++ text ++ codes "</td>"

-- a row of cells
unfoldable pub table_row : List (List ℕ) → List ℕ
table_row cells = codes "<tr>" ++ flat_map cell cells ++ codes "</tr>\n"

-- a link to the page of a period
unfoldable pub period_link : ℕ → List ℕ
period_link period =
    codes "<a href='/period/" ++ decimal period ++ codes "'>" ++ decimal period ++ codes "</a>"

-- a link to the bill of a period
unfoldable pub bill_link : ℕ → List ℕ → List ℕ
bill_link period shown =
    codes "<a href='/bill/" ++ decimal period ++ codes "'>" ++ shown ++ codes "</a>"

-- a link to the text of the record of a name
unfoldable pub record_link : List ℕ → List ℕ
record_link name =
    codes "<a href='/record/" ++ encode_lower name ++ codes "'>" ++ encode_lower name
    ++ codes "</a>"
