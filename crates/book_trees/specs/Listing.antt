-- The list of tables and indexes that a file has of itself. Each row is a rowid, a kind, a name, a
-- table, a root page and a text.
use Rattle.std.specs.Prelude.{List, Bool, pos, ◌&&◌, ◌||◌, if◌then◌else◌}
use Rattle.std.specs.List.{list_all, list_any}
use Rattle.sqlite_store.specs.Catalog.{same_value}
use Rattle.sqlite_store.specs.declared.catalog.Wanted.{Wanted}
use Rattle.sqlite_value.specs.Order.{Row, column}
use Rattle.sqlite_value.specs.declared.value.Value.TheVariants.{Int}
use Rattle.book_trees.specs.Schema.{books_schema, first_table, old_schema}
use Rattle.book_trees.specs.declared.faults.OpenFault.{OpenFault}
use Rattle.book_trees.specs.declared.faults.OpenFault.TheVariants.{NewForm, NotBooks, OldForm}
use Rattle.book_trees.specs.declared.schema.OlderForm.{OlderForm}
use Rattle.book_trees.specs.declared.schema.OlderForm.TheVariants.{First, Second}

-- the row has the kind, the name, the table and the text that are expected
abbrev pub lists : Wanted → Row → Bool
lists wanted row =
    same_value (column row 1) (column wanted.row 0)
    && same_value (column row 2) (column wanted.row 1)
    && same_value (column row 3) (column wanted.row 2)
    && same_value (column row 5) (column wanted.row 3)

-- the row has no pages, like that of a view
abbrev pub has_no_pages : Row → Bool
has_no_pages row = same_value (column row 4) (Int (pos 0))

-- the row is one of these, or has no pages
abbrev pub may_be_listed : List Wanted → Row → Bool
may_be_listed schema row = list_any (λ wanted. lists wanted row) schema || has_no_pages row

-- each of these is listed, text by text, and nothing else that has pages
abbrev pub lists_exactly : List Wanted → List Row → Bool
lists_exactly schema rows =
    list_all (λ wanted. list_any (lists wanted) rows) schema
    && list_all (may_be_listed schema) rows

-- the rows list the tables and indexes of books
abbrev pub lists_books : List Row → Bool
lists_books rows = lists_exactly books_schema rows

-- those of books of an older form
abbrev pub lists_old_books : OlderForm → List Row → Bool
lists_old_books form rows = lists_exactly (old_schema form) rows

-- of any of them
abbrev pub lists_older : List Row → Bool
lists_older rows = lists_old_books First rows || lists_old_books Second rows

-- What is told of rows that list something else than books: books of an older form; or, where the
-- first table of all forms is listed, books of a newer form, if the file says so; or no books.
abbrev pub unlisted_fault : List Row → OpenFault
unlisted_fault rows =
    if lists_older rows then OldForm
    else if list_any (lists first_table) rows then NewForm
    else NotBooks
