-- What is seen of a plain ledger: the book of its books, with its journal.
use Rattle.std.specs.Prelude.{ℕ, Bool, List, Option, if◌then◌else◌, Result}
use Rattle.book_model.specs.declared.answer.Accepted.{Accepted}
use Rattle.book_model.specs.declared.answer.Ruled.{Ruled}
use Rattle.book_model.specs.declared.fault.LedgerFault.{LedgerFault}
use Rattle.book_model.specs.declared.naming.Naming.{Ghosts}
use Rattle.book_model.specs.declared.note.Share.{Share}
use Rattle.book_model.specs.Journal.{Entry, Note, Ruled as RuledAt, with_entry}
use Rattle.book_model.specs.Words.{Book, RulingAsked, Rulings}
use Rattle.book_core.specs.Ledgers.{Seen, in_memory}
use Rattle.plain_ledger.specs.declared.ledger.PlainLedger.{PlainLedger}
use Rattle.plain_ledger.specs.Journals.{entries_by, entries_in, events_told, is_done, is_kept}
use Rattle.plain_ledger.specs.Journals.{place_asked}
use Rattle.plain_ledger.specs.PlainBook.{book_in, naming_in}

-- a book with these entries
abbrev pub with_entries : Book → List Entry → Book
with_entries book entries = record book { journal = entries }

-- the entries after a ruling with such a note that was asked for, by the rulings before, if it is
-- done
abbrev pub entries_ruled : Option Note → RulingAsked → Rulings → List Entry → List Entry
entries_ruled said asked rulings entries =
    with_entry said (RuledAt (place_asked asked rulings)) entries

-- the same by its answer
abbrev pub after_ruling : Option Note → RulingAsked → Rulings → Result Ruled LedgerFault
    → List Entry → List Entry
after_ruling said asked rulings answer entries =
    if is_done answer then entries_ruled said asked rulings entries else entries

-- the entries after a record, with what its import says, by its answer
abbrev pub after_record : Option Share → Bool → List ℕ → Result Accepted LedgerFault
    → List Entry → List Entry
after_record import whole bytes answer entries =
    if is_kept answer then entries_by (events_told import whole bytes) entries else entries

module _ {N : Type 0} {names : Ghosts N} where
  -- the book
  abbrev pub ledger_book : PlainLedger N names → Book
  ledger_book ledger = with_entries (book_in ledger.books) (entries_in ledger.journal)

  -- what is seen of the ledger as one that is kept in memory
  abbrev pub seen_in : PlainLedger N names → Seen
  seen_in ledger = in_memory (names.name_of (naming_in ledger.books)) (ledger_book ledger)
