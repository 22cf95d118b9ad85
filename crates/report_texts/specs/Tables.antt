-- Tables of comma-separated values: a line of fields.
use Rattle.std.specs.Prelude.{◌≡◌, ℕ, false, List, [], ◌∷◌}
use Rattle.book_model.specs.Words.{Priced, day_text_of}
use Rattle.csv.specs.Writing.{default_writer, needs_byte, row_text}
use Rattle.book_model.specs.Std.{list_any}

-- the line of some fields, as the crate `csv` writes it with its defaults: commas between the fields,
-- and a line feed at the end. A field with a comma, a quote or the end of a line stands in quotes, and
-- each of its own quotes is written twice
unfoldable pub fields_line : List (List ℕ) → List ℕ
fields_line fields = row_text default_writer fields

-- the fields that say where a record is charged: on which day, to which centre, and in which shift
unfoldable pub key_fields : Priced → List (List ℕ)
key_fields priced = day_text_of priced.day ∷ priced.centre ∷ priced.shift ∷ []

-- a field of bytes that call for no quotes
abbrev pub IsPlain : List ℕ → Type 0
IsPlain field = list_any (needs_byte default_writer) field ≡ false
