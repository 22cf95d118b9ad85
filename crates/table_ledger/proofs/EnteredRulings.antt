-- A ruling that is written with its entry is the ruling with its note.
use Rattle.std.proofs.Common.{◌≡◌, ◌∙◌, ap, subst, sym, Ok, Option, Result}
use Rattle.book_model.specs.Words.{Book, IsAnswered, Naming, Note, Place, Ruling, RulingGiven, give}
use Rattle.book_model.specs.Words.{place_of}
use Rattle.table_model.specs.Changed.{changed, rows_changed}
use Rattle.table_model.specs.Words.{IsReadable, Tables, tables_of}
use Rattle.table_model.proofs.EventLemmas.{rows_follow}
use Rattle.table_ledger.specs.Entries.{DoesRuling, NumbersEntries, enter_row}
use Rattle.table_ledger.proofs.Words.{Does, State, StoreError}
use Rattle.table_ledger.proofs.LastNumbers.{numbers_entries}
use Rattle.table_ledger.proofs.StepLemmas.{does_then}

-- steps that write a ruling, and then its entry
pub does_ruling : {T U : Type 0} {first middle last : State} {When : Tables → Type 0}
    {change : Tables → Tables} (noted : Option Note) {place given : Place} {done : T}
    (result : Result U StoreError) → Does (Ok done) first middle When change → given ≡ place
    → Does result middle last NumbersEntries (enter_row noted given)
    → DoesRuling result first last When change noted place
does_ruling {middle = middle} {last = last} {When = When} {change = change} noted result early same
    enters =
    does_then {When = λ tables. When tables × NumbersEntries (change tables)} result early
    (subst (λ place. Does result middle last NumbersEntries (enter_row noted place)) same enters)
    (λ tables known. known)

module _ (naming : Naming) (book : Book) (noted : Option Note) (ruling : Ruling)
    (whole : IsReadable naming book) (answered : IsAnswered naming (RulingGiven noted ruling) book)
    {made : Tables}
    (is : made
    ≡ rows_changed naming book.rulings (RulingGiven noted ruling) (tables_of naming book))
  where
    abbrev tables : Tables
    tables = tables_of naming book

    -- the rows that the ruling changes
    abbrev rows : Tables
    rows = rows_changed naming book.rulings (RulingGiven noted ruling) tables

    -- what is written of it are the tables of the book with the ruling, whose journal is as it was
    follows : tables_of naming (give ruling book) ≡ rows
    follows =
        rows_follow naming book (RulingGiven noted ruling) whole.sound whole.usage answered
        whole.rising

    abbrev unentered : Tables → Tables
    unentered some = record some { journal = tables.journal; came = tables.came }

    stays : made ≡ unentered rows
    stays = is ∙ sym follows ∙ ap unentered follows

    -- so its entry is the next one,
    pub entries_numbered : NumbersEntries made
    entries_numbered =
        subst NumbersEntries (follows ∙ sym is) (numbers_entries naming (give ruling book))

    -- and with it they are the tables with the note
    pub ruling_entered : {place : Place} → place ≡ place_of ruling book.rulings
        → enter_row noted place made
        ≡ changed naming book.rulings (RulingGiven noted ruling) tables
    ruling_entered place_is = λ i. enter_row noted (place_is i) (stays i)
