-- The entry of a ruling, which is written with the ruling.
use Rattle.std.specs.Prelude.{◌≡◌, Option, Result}
use Rattle.sqlite_trees.specs.declared.error.StoreError.{StoreError}
use Rattle.book_model.specs.Words.{Note, Place}
use Rattle.table_model.specs.JournalRows.{newest_number, put_entry}
use Rattle.table_model.specs.Tables.{RulingRow, Tables}
use Rattle.tree_tables.specs.Answers.{last_number}
use Rattle.tree_tables.specs.States.{State}
use Rattle.tree_tables.specs.Steps.{Does}

-- the tables with the entry of a ruling, if it has a note
abbrev pub enter_row : Option Note → Place → Tables → Tables
enter_row noted place tables =
    record tables { journal = put_entry noted (RulingRow place) tables.journal }

-- the last number of the journal is how many entries it has
abbrev pub NumbersEntries : Tables → Type 0
NumbersEntries tables = last_number tables.journal ≡ newest_number tables.journal

-- a ruling is written, and its entry behind it
abbrev pub DoesRuling : {T : Type 0} → Result T StoreError → State → State → (Tables → Type 0)
    → (Tables → Tables) → Option Note → Place → Type 0
DoesRuling result old new When change noted place =
    Does result old new (λ tables. When tables × NumbersEntries (change tables))
    (λ tables. enter_row noted place (change tables))
