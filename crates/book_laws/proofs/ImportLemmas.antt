-- Imports into an open ledger.
use Rattle.std.proofs.Common.{◌≡◌, List, None, Ok, Option, ap, false, sym, subst}
use Rattle.book_model.specs.JournalLaws.{without_notes}
use Rattle.book_model.specs.Words.{Book, Event, Naming, Note, front}
use Rattle.book_core.specs.Words.{Seen, IsTransition}
use Rattle.book_import.specs.Dumps.{stop_after}
use Rattle.book_import.specs.ImportEntries.{ImportsOf}
use Rattle.book_import.specs.declared.receipt.Receipt.{Receipt}
use Rattle.book_import.proofs.RepeatLemmas.{is_whole}
use Rattle.office.specs.Requests.{Count, Dump}
use Rattle.office.proofs.LeavingLemmas.{work_leaves}
use Rattle.book_laws.specs.ImportLaws.{OneReceipt}

-- an import without a note says nothing
is_silent : (said : Option Note) (naming : Naming) (start : Book) (dump : Dump) (receipt : Receipt)
    (made : List Event)
    → ImportsOf said naming dump.layout dump.cut dump.bytes receipt false start made false
    → said ≡ None → made ≡ without_notes made
is_silent said naming start dump receipt made of none =
    let silent : ImportsOf None naming dump.layout dump.cut dump.bytes receipt false start made false =
    subst (λ said. ImportsOf said naming dump.layout dump.cut dump.bytes receipt false start made
    false) none of in
    sym silent.says.says

pub one_receipt : {L : Type 0} (seen : L → Seen) → OneReceipt seen
one_receipt seen said naming start old new dump receipt come =
    let work : IsTransition (seen old) (seen new)
    (ImportsOf said naming dump.layout dump.cut dump.bytes receipt) =
    subst (λ naming. IsTransition (seen old) (seen new)
    (ImportsOf said naming dump.layout dump.cut dump.bytes receipt)) come.opened.naming come.work in
    let gone = work_leaves come.opened work come.still in
    let found = front dump.layout dump.bytes in
    let all = is_whole naming (stop_after dump.cut found) found.records start receipt
    (without_notes gone.events) false gone.made.booked come.unhindered in
    record {
      receipt_is = ap (λ receipt. Ok (Count receipt)) (sym all.told.receipt);
      made = gone.events;
      records = sym all.told.events;
      silent = is_silent said naming start dump receipt gone.events gone.made;
      left = gone.left;
    }
