-- Records that are submitted to the books one after another.
use Rattle.std.specs.Prelude.{ℕ, Bool, true, false, List, [], ◌∷◌, ◌++◌, Option, None, Result, Ok}
use Rattle.std.specs.Prelude.{Err, take}
use Rattle.smf_type30.specs.declared.record_class.Class.{Class}
use Rattle.smf_type30.specs.declared.record_class.Class.TheVariants.{Usage}
use Rattle.book_model.specs.Words.{class_of, Naming, Book, Event, after_any, Outcome}
use Rattle.book_model.specs.Words.{accept_outcome}
use Rattle.book_model.specs.declared.answer.Accepted.{Accepted}
use Rattle.book_model.specs.declared.fault.LedgerFault.{LedgerFault}
use Rattle.book_model.specs.declared.fault.LedgerFault.TheVariants.{Reopen}
use Rattle.book_core.specs.Calls.{listed}
use Rattle.book_import.specs.declared.receipt.Receipt.{Receipt}
use Rattle.book_model.specs.declared.note.Stop.{Stop}
use Rattle.book_model.specs.declared.note.Stop.TheVariants.{End, Ledger}
use Rattle.book_import.specs.Receipts.{receipt_stopped, count_class, count_accepted}

-- how a usage record is answered, by the book
abbrev pub Answering : Type 0
Answering = List ℕ → Book → Outcome Accepted

-- as the definitions say if the books are open, and Reopen if they are to be reopened
abbrev pub answers_of : Bool → Naming → Answering
answers_of false naming bytes book = accept_outcome naming bytes book
answers_of true naming bytes book = record { answer = Err Reopen; event = None }

-- so far: a receipt; the book; and the events that made it, the newest first
pub record Imported : Type 0 where
  pub receipt : Receipt
  pub book : Book
  pub events : List Event

abbrev pub nothing_imported : Book → Imported
nothing_imported book = record { receipt = receipt_stopped End; book = book; events = [] }

abbrev pub with_stop : Stop → Imported → Imported
with_stop stop so_far = record so_far { receipt = record so_far.receipt { stop = stop } }

-- The books answered to a usage record, and that was this event: the record is counted, unless
-- they refused it.
abbrev pub after_answer : Imported → Option Event → Result Accepted LedgerFault
    → Result Imported LedgerFault
after_answer so_far event (Err fault) = Err fault
after_answer so_far event (Ok accepted) =
    Ok (record {
      receipt = count_accepted accepted so_far.receipt;
      book = after_any event so_far.book;
      events = listed event ++ so_far.events;
    })

abbrev pub after_accept : Imported → Outcome Accepted → Result Imported LedgerFault
after_accept so_far outcome = after_answer so_far outcome.event outcome.answer

abbrev pub handle_by : Answering → List ℕ → Imported → Class → Result Imported LedgerFault
handle_by answers bytes so_far Usage = after_accept so_far (answers bytes so_far.book)
handle_by answers bytes so_far class =
    Ok (record so_far { receipt = count_class class so_far.receipt })

-- one record, by its class
abbrev pub handle : Answering → List ℕ → Imported → Result Imported LedgerFault
handle answers bytes so_far = handle_by answers bytes so_far (class_of bytes)

-- a record that was refused ends the import; after any other it goes on
abbrev pub continue_with : (Imported → Imported) → Imported → Result Imported LedgerFault → Imported
continue_with later so_far (Err fault) = with_stop (Ledger fault) so_far
continue_with later so_far (Ok next) = later next

-- records in order, up to the first that the books refuse; if they refuse none, there is this
-- stop after the last
abbrev pub handle_all : Answering → Stop → List (List ℕ) → Imported → Imported
handle_all answers stop [] so_far = with_stop stop so_far
handle_all answers stop (bytes ∷ rest) so_far =
    continue_with (handle_all answers stop rest) so_far (handle answers bytes so_far)

-- the first so many records, and then this fault
abbrev pub handle_first : Answering → ℕ → LedgerFault → List (List ℕ) → Book → Imported
handle_first answers count fault records before =
    handle_all answers (Ledger fault) (take count records) (nothing_imported before)
