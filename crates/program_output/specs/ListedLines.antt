-- What a line of a list of names says. A spreadsheet or an editor may have written it: a byte order mark
-- may stand before the name, quotes round it, and blanks behind.
use Rattle.std.specs.Prelude.{ℕ, ◌-◌, ◌==◌, ◌&&◌, nat_eq, nat_le, nat_lt, if◌then◌else◌, Bool}
use Rattle.std.specs.Prelude.{List, [], ◌∷◌, length, take, drop, slice_range, Option, Some, None}
use Rattle.std.specs.Char.{is_ascii_whitespace}
use Rattle.std.specs.List.{ends_with, starts_with, suffix_len}
use Rattle.book_reports.specs.RecordNames.{name_in}
use Rattle.program_output.specs.declared.listed_line.ListedLine.{ListedLine}
use Rattle.program_output.specs.declared.listed_line.ListedLine.TheVariants.{Blank, Name, Other}

-- the most bytes of a line, its end apart
abbrev pub most_line : ℕ
most_line = 128

-- the byte order mark, in UTF-8
abbrev pub mark : List ℕ
mark = 239 ∷ 187 ∷ 191 ∷ []

unfoldable pub without_mark : List ℕ → List ℕ
without_mark line = if starts_with nat_eq line mark then drop 3 line else line

-- without the blanks at the end, and what else is white space in ASCII
unfoldable pub without_blanks : List ℕ → List ℕ
without_blanks line = take (length line - suffix_len is_ascii_whitespace line) line

-- the quote, in ASCII
abbrev pub quote : List ℕ
quote = 34 ∷ []

-- a quote stands before the text, and another behind it
abbrev pub is_quoted : List ℕ → Bool
is_quoted text =
    (nat_le 2 (length text) && starts_with nat_eq text quote) && ends_with nat_eq text quote

unfoldable pub without_quotes : List ℕ → List ℕ
without_quotes text = if is_quoted text then slice_range text 1 (length text - 1) else text

-- what a text says by the name that it spells, if it spells one
abbrev pub line_by : Option (List ℕ) → ListedLine
line_by None = Other
line_by (Some name) = Name name

-- a text without anything round it
unfoldable pub line_of : List ℕ → ListedLine
line_of text = if length text == 0 then Blank else line_by (name_in text)

-- A line without its end. One that is too long says nothing that a list may say.
unfoldable pub read_line : List ℕ → ListedLine
read_line line =
    if nat_lt most_line (length line) then Other
    else line_of (without_quotes (without_blanks (without_mark line)))
