-- Imports of dumps with the same records.
use Rattle.std.proofs.Common.{◌≡◌, ◌∙◌, ℕ, List, [], ◌∷◌, take, refl, sym, ap, true, false, Bool}
use Rattle.std.proofs.Common.{true≢false, Ok, Err}
use Rattle.sha2.specs.Sha256.{sha256}
use Rattle.book_model.specs.Words.{front, Book, flat_book, Event, after_all, accept_outcome, Naming}
use Rattle.book_model.specs.declared.fault.LedgerFault.{LedgerFault}
use Rattle.book_model.specs.declared.fault.LedgerFault.TheVariants.{Memory}
use Rattle.book_model.specs.declared.note.Stop.{Stop}
use Rattle.book_model.specs.declared.note.Stop.TheVariants.{Ledger}
use Rattle.book_import.specs.Dumps.{stop_after}
use Rattle.book_import.specs.declared.receipt.Receipt.{Receipt}
use Rattle.book_import.specs.Handled.{Imported, handle, handle_all, continue_with, nothing_imported}
use Rattle.book_import.specs.Imports.{Handles, GivesReceipt, whole, out_of_memory, store_failed}
use Rattle.book_import.specs.Receipts.{is_stop_of_books}
use Rattle.book_import.specs.Laws.{import_of_records}
use Rattle.book_import.proofs.LawLemmas.{one_import_each}
use Rattle.book_reports.specs.BookTexts.{dispute_text, open_statement}
use Rattle.program_output.specs.Laws.{SameRecordsSameTexts, trial_book}

-- an import that ends with a fault of the books has the stop of one
ends_at_books : (naming : Naming) (fault : LedgerFault) (records : List (List ℕ))
    (so_far : Imported)
    → is_stop_of_books
    (handle_all (accept_outcome naming) (Ledger fault) records so_far).receipt.stop ≡ true
ends_at_books naming fault [] so_far = refl
ends_at_books naming fault (bytes ∷ rest) so_far =
    elim (handle (accept_outcome naming) bytes so_far) as (λ handled.
    is_stop_of_books
    (continue_with (handle_all (accept_outcome naming) (Ledger fault) rest) so_far handled).receipt.stop
    ≡ true) [
      | Ok next ↦ ends_at_books naming fault rest next
      | Err refusal ↦ refl
    ]

-- where no record was refused, and memory did not run out, all records were handled
all_handled : (naming : Naming) (stop : Stop) (records : List (List ℕ)) (before : Book)
    (told : Receipt) (events : List Event)
    → Handles naming stop records told false before events false
    → is_stop_of_books told.stop ≡ false
    → GivesReceipt (import_of_records naming before stop records) told events
all_handled naming stop records before told events (whole same is) unrefused = is
all_handled naming stop records before told events (out_of_memory count same is) unrefused =
    let refused = ends_at_books naming Memory (take count records) (nothing_imported before) in
    let ended = ap (λ (one : Receipt). is_stop_of_books one.stop) is.receipt in
    absurd (true≢false (sym refused ∙ ended ∙ unrefused))
all_handled naming stop records before told events
    (store_failed count kept opened shut inside either stopped told_is made) unrefused =
    absurd (true≢false (sym shut))

-- the law of it
pub same_records_same_texts : SameRecordsSameTexts
same_records_same_texts terms dump other told other_told events other_events one two same =
    let found = front dump.layout dump.bytes in
    let other_found = front other.layout other.bytes in
    let stop = stop_after dump.cut found in
    let other_stop = stop_after other.cut other_found in
    let first = all_handled sha256 stop found.records (flat_book terms) told events one.booked
    one.unrefused in
    let second = all_handled sha256 other_stop other_found.records (flat_book terms) other_told
    other_events two.booked two.unrefused in
    let of_books : Receipt → Bool = λ one. is_stop_of_books one.stop in
    let between =
    one_import_each sha256 (flat_book terms) stop other_stop found.records other_found.records refl
    same (ap of_books first.receipt ∙ one.unrefused) (ap of_books second.receipt ∙ two.unrefused) in
    let left : List Event → Book = λ events. after_all events (flat_book terms) in
    let books : trial_book terms events ≡ trial_book terms other_events =
    ap left (sym first.events) ∙ between ∙ ap left second.events in
    (ap open_statement books, ap dispute_text books)
