-- Lists of requests on an open ledger.
use Rattle.std.proofs.Common.{◌≡◌, ◌∙◌, ℕ, Bool, true, false, List, [], ◌∷◌, Option, Result, Ok, Err}
use Rattle.std.proofs.Common.{refl, sym, ap, subst, All}
use Rattle.book_model.proofs.Std.{All-head, All-tail}
use Rattle.book_model.specs.JournalLaws.{without_notes}
use Rattle.book_model.specs.Words.{front, Book, Event, Note, after_all, Naming, Outcome, note_given}
use Rattle.book_core.specs.Words.{Calls, Seen, IsTransition}
use Rattle.book_import.specs.declared.receipt.Receipt.{Receipt}
use Rattle.book_model.specs.declared.note.Stop.{Stop}
use Rattle.book_import.specs.Dumps.{stop_after}
use Rattle.book_import.specs.Imports.{Handles, whole, out_of_memory, store_failed}
use Rattle.office.specs.declared.request.Asked.{Asked}
use Rattle.office.specs.declared.request.Asked.TheVariants.{Import, ImportBytes}
use Rattle.office.specs.declared.request.Answer.{Answer}
use Rattle.office.specs.Outcomes.{is_hindered}
use Rattle.office.specs.Requests.{Dump, Response, Ruling, Count, Text, Receives, Asks, response_by}
use Rattle.office.specs.Runs.{AsksWithoutReader, Runs, dump_here}
use Rattle.office.proofs.LawLemmas.{asks_done}
use Rattle.book_laws.specs.RunAnswers.{AreAsDefined, OneRun}
use Rattle.book_laws.proofs.Words.{LedgerFault, after_all-append, work_leaves}

-- books that are open after a call were open before it
call_opened : (outcome : Book → Outcome Response) (told : Result Response LedgerFault) (was : Bool)
    (before : Book) (events : List Event) (is : Bool)
    → Calls (λ told. told) outcome told was before events is → is ≡ false → was ≡ false
call_opened outcome told true before events is called is_open =
    let shut = called.reopens.store in cc
call_opened outcome told false before events is called is_open = refl

-- so were they before an import
import_opened : (naming : Naming) (stop : Stop) (records : List (List ℕ)) (receipt : Receipt)
    (was : Bool) (before : Book) (events : List Event) (is : Bool)
    → Handles naming stop records receipt was before events is → is ≡ false → was ≡ false
import_opened naming stop records receipt was before events is (whole same told) is_open =
    sym same ∙ is_open
import_opened naming stop records receipt was before events is (out_of_memory count same told)
    is_open =
    sym same ∙ is_open
import_opened naming stop records receipt was before events is
    (store_failed count kept open_before reopen within either stopped so made) is_open = open_before

receipt_opened : (said : Option Note) (naming : Naming) (dump : Dump)
    (told : Result Response LedgerFault) (was : Bool) (before : Book) (events : List Event)
    (is : Bool) → Receives said naming dump told was before events is → is ≡ false → was ≡ false
receipt_opened said naming dump (Ok (Count receipt)) was before events is made is_open =
    let found = front dump.layout dump.bytes in
    import_opened naming (stop_after dump.cut found) found.records receipt was before
    (without_notes events) is made.booked is_open
receipt_opened said naming dump (Ok (Ruling ruled)) was before events is never is_open = absurd never
receipt_opened said naming dump (Ok (Text text)) was before events is never is_open = absurd never
receipt_opened said naming dump (Err fault) was before events is never is_open = absurd never

asked_opened : (naming : Naming) (asked : Asked) (dump : Dump) (told : Result Response LedgerFault)
    (was : Bool) (before : Book) (events : List Event) (is : Bool)
    → Asks naming asked dump told was before events is → is ≡ false → was ≡ false
asked_opened naming (Import layout said) dump told was before events is made is_open =
    receipt_opened (note_given said) naming dump told was before events is made is_open
asked_opened naming (ImportBytes layout bytes said) dump told was before events is made is_open =
    receipt_opened (note_given said) naming dump told was before events is made is_open
asked_opened naming other dump told was before events is made is_open =
    call_opened _ told was before events is made is_open

-- and before one request after another
run_opened : (naming : Naming) (requests : List Asked) (answers : List (Result Answer LedgerFault))
    (was : Bool) (before : Book) (events : List Event) (is : Bool)
    → Runs naming requests answers was before events is → is ≡ false → was ≡ false
run_opened naming [] [] was before events is none is_open = sym none.same ∙ is_open
run_opened naming [] (answer ∷ answers) was before events is never is_open = absurd never
run_opened naming (asked ∷ requests) [] was before events is never is_open = absurd never
run_opened naming (asked ∷ requests) (answer ∷ answers) was before events is made is_open =
    asked_opened naming asked (dump_here asked) (response_by answer) was before made.early made.between
    made.first
    (run_opened naming requests answers made.between (after_all made.early before) made.late is
    made.next is_open)

-- requests on open books were answered so
requests_are : (naming : Naming) (requests : List Asked)
    (answers : List (Result Answer LedgerFault)) (was : Bool) (before : Book) (events : List Event)
    (is : Bool) → Runs naming requests answers was before events is → was ≡ false → is ≡ false
    → All (λ answer. is_hindered (response_by answer) ≡ false) answers
    → AreAsDefined naming requests answers before (after_all events before)
requests_are naming [] [] was before events is none shut is_open free =
    ap (λ events. after_all events before) none.none
requests_are naming [] (answer ∷ answers) was before events is never shut is_open free =
    absurd never
requests_are naming (asked ∷ requests) [] was before events is never shut is_open free =
    absurd never
requests_are naming (asked ∷ requests) (answer ∷ answers) was before events is made shut is_open
    free =
    let book = after_all made.early before in
    let between : made.between ≡ false =
    run_opened naming requests answers made.between book made.late is made.next is_open in
    let first = asks_done naming asked (dump_here asked) (response_by answer) before made.early
    made.between
    (subst (λ was. AsksWithoutReader naming asked answer was before made.early made.between) shut
    made.first) (All-head Free answer answers free) in
    let next = requests_are naming requests answers made.between book made.late is made.next between
    is_open (All-tail Free answer answers free) in (
      made.early,
      first,
      subst (λ end. AreAsDefined naming requests answers book end)
          (sym (ap (λ events. after_all events before) made.all
          ∙ after_all-append made.late made.early before)) next,
    )
  where
    Free : Result Answer LedgerFault → Type 0
    Free answer = is_hindered (response_by answer) ≡ false

-- the law
pub one_run : {L : Type 0} (seen : L → Seen) → OneRun seen
one_run seen naming start old new requests answers come =
    let work : IsTransition (seen old) (seen new) (Runs naming requests answers) =
    subst (λ naming. IsTransition (seen old) (seen new) (Runs naming requests answers)) come.opened.naming
    come.work in
    let gone = work_leaves come.opened work come.still in
    record {
      end = after_all gone.events start;
      told = requests_are naming requests answers false start gone.events false gone.made refl refl
          come.free;
      left = gone.left;
    }
