-- What a page says of the office that bills, where a tariff says it: its name, and the currency of the
-- amounts.
use Rattle.std.specs.Prelude.{ℕ, List, [], ◌++◌, codes, Option, Some, None}
use Rattle.html_text.specs.Escaping.{escaped}

-- its name, or another word
unfoldable pub office_name : List ℕ → Option (List ℕ) → List ℕ
office_name other None = other
office_name other (Some office) = escaped office

-- the currency, among figures
unfoldable pub currency_figure : Option (List ℕ) → List ℕ
currency_figure None = []
currency_figure (Some currency) =
    codes "<div><dt>Currency</dt><dd>" ++ escaped currency ++ codes "</dd></div>\n"
