-- What a file of books lists: each table is a tree in the order of its key.
use Rattle.std.specs.Prelude.{List, [], ◌∷◌, ℕ, codes, take}
use Rattle.sqlite_store.specs.declared.catalog.Wanted.{Wanted}
use Rattle.sqlite_trees.specs.declared.store.Shape.TheVariants.{Index}
use Rattle.sqlite_value.specs.Keys.{plain}
use Rattle.sqlite_value.specs.declared.value.Value.TheVariants.{Text}
use Rattle.book_trees.specs.Texts.{book_text, tariff_text, closed_text, record_text}
use Rattle.book_trees.specs.Texts.{day_sum_text, line_text, record_ident_text}
use Rattle.book_trees.specs.Texts.{record_charged_text, choice_text, choice_name_text, detail_text}
use Rattle.book_trees.specs.Texts.{credit_text, journal_text, old_choice_text, old_record_text}
use Rattle.book_trees.specs.Texts.{replaced_text}
use Rattle.book_trees.specs.declared.schema.OlderForm.{OlderForm}
use Rattle.book_trees.specs.declared.schema.OlderForm.TheVariants.{First, Second}

-- a tree in the order of its entries, of this kind and name, over this table
abbrev pub sorted : List ℕ → List ℕ → List ℕ → List ℕ → Wanted
sorted kind name table sql = record {
  shape = Index plain;
  reals = 0;
  row = Text kind ∷ Text name ∷ Text table ∷ Text sql ∷ [];
}

-- a table
abbrev pub table_object : List ℕ → List ℕ → Wanted
table_object name sql = sorted (codes "table") name name sql

-- an index on a table
abbrev pub index_object : List ℕ → List ℕ → List ℕ → Wanted
index_object name table sql = sorted (codes "index") name table sql

-- the row of the book, which is the first tree of every form
abbrev pub first_table : Wanted
first_table = table_object (codes "book") book_text

-- the tariffs and the closed periods
abbrev pub tariff_table : Wanted
tariff_table = table_object (codes "tariff") tariff_text

abbrev pub closed_table : Wanted
closed_table = table_object (codes "closed") closed_text

-- the records
abbrev pub record_table : Wanted
record_table = table_object (codes "record") record_text

-- the records of older forms
abbrev pub old_record_table : Wanted
old_record_table = table_object (codes "record") old_record_text

-- the charge rows
abbrev pub day_sum_table : Wanted
day_sum_table = table_object (codes "day_sum") day_sum_text

-- the lines
abbrev pub line_table : Wanted
line_table = table_object (codes "line") line_text

-- the indexes on the identities and on the marks of records
abbrev pub identity_index : Wanted
identity_index = index_object (codes "record_ident") (codes "record") record_ident_text

abbrev pub charged_index : Wanted
charged_index = index_object (codes "record_charged") (codes "record") record_charged_text

-- the choices, and those of older forms
abbrev pub choice_table : Wanted
choice_table = table_object (codes "choice") choice_text

abbrev pub old_choice_table : Wanted
old_choice_table = table_object (codes "choice") old_choice_text

-- the index on their names
abbrev pub choice_name_index : Wanted
choice_name_index = index_object (codes "choice_name") (codes "choice") choice_name_text

-- the details, the credits, and the tariffs that were replaced
abbrev pub detail_table : Wanted
detail_table = table_object (codes "detail") detail_text

abbrev pub credit_table : Wanted
credit_table = table_object (codes "credit") credit_text

abbrev pub replaced_table : Wanted
replaced_table = table_object (codes "replaced") replaced_text

-- the journal
abbrev pub journal_table : Wanted
journal_table = table_object (codes "journal") journal_text

-- The tables and indexes of books, with these tables of records and choices. The first is tree 0.
abbrev pub tables_with : Wanted → Wanted → List Wanted
tables_with records choices =
    first_table
    ∷ tariff_table
    ∷ closed_table
    ∷ records
    ∷ day_sum_table
    ∷ line_table
    ∷ identity_index
    ∷ charged_index
    ∷ choices
    ∷ choice_name_index
    ∷ detail_table
    ∷ credit_table
    ∷ replaced_table
    ∷ journal_table
    ∷ []

-- how many of them books of an older form have: in the first there are no details, and in the second
-- no credits, no tariffs that were replaced and no journal
abbrev pub table_count : OlderForm → ℕ
table_count First = 10
table_count Second = 11

-- the tables and indexes of books of an older form
unfoldable pub old_schema : OlderForm → List Wanted
old_schema form = take (table_count form) (tables_with old_record_table old_choice_table)

-- and those of books of this form
unfoldable pub books_schema : List Wanted
books_schema = tables_with record_table choice_table
