-- A request has one answer, by its bytes and the book before it.
use Rattle.std.proofs.Common.{◌≡◌, ◌≢◌, ◌∙◌, ℕ, Bool, true, false, List, [], ◌∷◌, take, Result, Ok}
use Rattle.std.proofs.Common.{Err, None, not, refl, sym, ap, subst}
use Rattle.book_model.specs.Words.{Layout, front, Book, Event, Outcome, Naming}
use Rattle.book_model.specs.declared.fault.LedgerFault.TheVariants.{Full, NoSuchCentre}
use Rattle.book_model.specs.declared.fault.LedgerFault.TheVariants.{NoSuchPeriod, NoSuchRecord}
use Rattle.book_model.specs.declared.fault.LedgerFault.TheVariants.{NoSuchTariff}
use Rattle.book_model.specs.declared.fault.LedgerFault.TheVariants.{TariffRefused}
use Rattle.book_model.specs.JournalLaws.{unjournaled, without_notes}
use Rattle.book_core.specs.Words.{Calls, Transition}
use Rattle.book_model.specs.declared.note.Stop.TheVariants.{End, Frame, Read, ReadLimit, Ledger}
use Rattle.book_import.specs.Handled.{Imported, Answering, answers_of, handle, handle_all}
use Rattle.book_import.specs.Handled.{continue_with, nothing_imported}
use Rattle.book_import.specs.Imports.{GivesReceipt, whole, out_of_memory, store_failed}
use Rattle.book_import.specs.Receipts.{is_stop_of_books}
use Rattle.book_http.specs.declared.asked.Asked.{Asked}
use Rattle.book_http.specs.declared.status.Status.TheVariants.{Unavailable}
use Rattle.book_http.proofs.Words.{is_utf8, LedgerFault, Receipt, Stop, stop_after, Handles, WhatIf}
use Rattle.book_http.proofs.Words.{report_outcome, detail_text_outcome, what_if_report, Response}
use Rattle.book_http.proofs.Words.{Text, response_outcome, whole_dump, BodyKind, office_reply}
use Rattle.book_http.proofs.Words.{form_kind, AnswersOffice, AnswersImport, AnswersWhatIf}
use Rattle.book_http.proofs.Words.{AnswersAsked, Prices, RefusesRequest, UnlessBad, done, no_memory}
use Rattle.book_http.proofs.Words.{no_head, a_head, asked, AnswersRequest, RequestSeen, Settles}
use Rattle.book_http.proofs.Words.{WantsDetails, WantsImport, WantsReport, WantsWhatIf, wanted_by}
use Rattle.book_http.proofs.Words.{Reply}
use Rattle.book_http.specs.Answer.{UnlessMemory}
use Rattle.book_http.specs.Laws.{IsSame, AnswersAreOne}
use Rattle.book_http.specs.Replies.{receipt_reply, import_status}
use Rattle.book_http.proofs.LawLemmas.{asked_alike, import_counted, text_none}
use Rattle.report_rows.specs.declared.report_row.BodyKind.TheVariants as kinds

-- a text that is not unavailable is the definitions' one, or their refusal of it
reply_tells : (kind : BodyKind) (outcome : Book → Outcome Response)
    (told : Result Response LedgerFault)
    (was : Bool) (before : Book) (events : List Event) (is : Bool)
    → Calls (λ (told : Response). told) outcome told was before events is
    → (office_reply kind told).status ≢ Unavailable → (outcome before).answer ≡ told
reply_tells kind outcome (Ok told) was before events is called served = called.makes.0
reply_tells kind outcome (Err NoSuchPeriod) was before events is called served = called.makes.0
reply_tells kind outcome (Err NoSuchTariff) was before events is called served = called.makes.0
reply_tells kind outcome (Err NoSuchRecord) was before events is called served = called.makes.0
reply_tells kind outcome (Err NoSuchCentre) was before events is called served = called.makes.0
reply_tells kind outcome (Err (TariffRefused why)) was before events is called served =
    called.makes.0
reply_tells kind outcome (Err Full) was before events is called served = called.makes.0
reply_tells kind outcome (Err fault) was before events is called served = absurd (served refl)

-- where a fault of the books follows the last record, the import stops with one
stops_by_books : (answers : Answering) (fault : LedgerFault) (records : List (List ℕ))
    (so_far : Imported)
    → is_stop_of_books (handle_all answers (Ledger fault) records so_far).receipt.stop ≡ true
stops_by_books answers fault [] so_far = refl
stops_by_books answers fault (bytes ∷ rest) so_far =
    elim (handle answers bytes so_far) as (λ handled.
    is_stop_of_books (continue_with (handle_all answers (Ledger fault) rest) so_far
    handled).receipt.stop
    ≡ true) [
      | Ok next ↦ stops_by_books answers fault rest next
      | Err refused ↦ refl
    ]

-- and then it is unavailable
stop_unavailable : (stop : Stop) → is_stop_of_books stop ≡ true → import_status stop ≡ Unavailable
stop_unavailable End is = cc is
stop_unavailable (Frame fault) is = cc is
stop_unavailable Read is = refl
stop_unavailable ReadLimit is = refl
stop_unavailable (Ledger fault) is = refl

-- an import that is not unavailable is a whole one
import_tells : (naming : Naming) (stop : Stop) (records : List (List ℕ)) (told : Receipt)
    (was : Bool) (before : Book) (events : List Event) (is : Bool)
    → Handles naming stop records told was before events is → import_status told.stop ≢ Unavailable
    → GivesReceipt (handle_all (answers_of was naming) stop records
    (nothing_imported before)) told events
import_tells naming stop records told was before events is (whole same so) served = so
import_tells naming stop records told was before events is (out_of_memory count same so) served =
    absurd (served (stop_unavailable told.stop
    (ap (λ (r : Receipt). is_stop_of_books r.stop) (sym so.receipt)
    ∙ stops_by_books (answers_of was naming) _ (take count records) (nothing_imported before))))
import_tells naming stop records told was before events is
    (store_failed count kept open_before reopen within either stopped so made) served =
    absurd (served (ap import_status stopped))

-- what a head asks was done, where the reply is not unavailable
was_done : (wanted : Asked ℕ) (naming : Naming) (behind : List ℕ) (reply : Reply) (was : Bool)
    (before : Book) (events : List Event) (is : Bool)
    → UnlessMemory (AnswersAsked naming wanted behind reply) reply was before events is
    → reply.status ≢ Unavailable → AnswersAsked naming wanted behind reply was before events is
was_done wanted naming behind reply was before events is (done made) served = made
was_done wanted naming behind reply was before events is (no_memory refused) served =
    absurd (served (ap (λ (r : Reply). r.status) refused.replied))

-- two answers to what one book was asked
module _ (one other : Reply) (was : Bool) (before : Book) (first second : List Event)
    (is_one is_other : Bool) where
  refusals_same : (refused : Reply) → RefusesRequest refused one was before first is_one
      → RefusesRequest refused other was before second is_other → IsSame one other first second
  refusals_same refused a b = record {
    reply = a.replied ∙ sym b.replied;
    events = ap without_notes (a.none.none ∙ sym b.none.none);
  }

  texts_same : (kind : BodyKind) (text : Book → Outcome (List ℕ)) → (text before).event ≡ None
      → AnswersOffice kind (Calls (λ (told : Response). told) (response_outcome Text text)) one was
      before first is_one → one.status ≢ Unavailable
      → AnswersOffice kind (Calls (λ (told : Response). told)
      (response_outcome Text text)) other was
      before second is_other → other.status ≢ Unavailable → IsSame one other first second
  texts_same kind text no_event a served b served_too =
      let outcome = response_outcome Text text in
      let left : (outcome before).answer ≡ a.told =
      reply_tells kind outcome a.told was before first is_one a.made
      (subst (λ (r : Reply). r.status ≢ Unavailable) a.replied served) in
      let right : (outcome before).answer ≡ b.told =
      reply_tells kind outcome b.told was before second is_other b.made
      (subst (λ (r : Reply). r.status ≢ Unavailable) b.replied served_too) in
      record {
        reply = a.replied ∙ ap (office_reply kind) (sym left ∙ right) ∙ sym b.replied;
        events =
            ap without_notes (text_none kind text one was before first is_one no_event a
            ∙ sym (text_none kind text other was before second is_other no_event b));
      }

  -- where a bad request is refused, and with any other one thing is done, one thing is done
  unless_same : (bad : Bool) (Made : Reply → Transition)
      → (Made one was before first is_one → one.status ≢ Unavailable
      → Made other was before second is_other → other.status ≢ Unavailable
      → IsSame one other first second)
      → UnlessBad bad (Made one) one was before first is_one → one.status ≢ Unavailable
      → UnlessBad bad (Made other) other was before second is_other → other.status ≢ Unavailable
      → IsSame one other first second
  unless_same true Made same a served b served_too = refusals_same _ a b
  unless_same false Made same a served b served_too = same a served b served_too

  what_ifs_same : (what_if : WhatIf) (body : List ℕ)
      → AnswersWhatIf what_if body one was before first is_one → one.status ≢ Unavailable
      → AnswersWhatIf what_if body other was before second is_other → other.status ≢ Unavailable
      → IsSame one other first second
  what_ifs_same what_if body =
      let kind = form_kind what_if.form in
      unless_same (not (is_utf8 body)) (AnswersOffice kind (Prices what_if body))
      (texts_same kind (what_if_report what_if body) refl)

  imports_same : (naming : Naming) (layout : Layout) (body : List ℕ)
      → AnswersImport naming layout body one was before first is_one → one.status ≢ Unavailable
      → AnswersImport naming layout body other was before second is_other
      → other.status ≢ Unavailable → IsSame one other first second
  imports_same naming layout body a served b served_too =
      let found = front layout body in
      let stop = stop_after None found in
      let dump = whole_dump layout body in
      let first_one = import_counted a.said naming dump a.made.told was before first is_one
      a.made.made in
      let second_one = import_counted b.said naming dump b.made.told was before second is_other
      b.made.made in
      let reply_one = a.made.replied ∙ ap (office_reply kinds.Text) first_one.counted in
      let reply_two = b.made.replied ∙ ap (office_reply kinds.Text) second_one.counted in
      let left = import_tells naming stop found.records first_one.receipt was (unjournaled before)
      (without_notes first) is_one first_one.imported
      (subst (λ (r : Reply). r.status ≢ Unavailable) reply_one served) in
      let right =
      import_tells naming stop found.records second_one.receipt was (unjournaled before)
      (without_notes second) is_other second_one.imported (subst
      (λ (r : Reply). r.status ≢ Unavailable) reply_two served_too) in
      record {
        reply = reply_one ∙ ap receipt_reply (sym left.receipt ∙ right.receipt) ∙ sym reply_two;
        events = sym left.events ∙ right.events;
      }

  wanted_same : (request : RequestSeen) (naming : Naming)
      → AnswersRequest naming request one was before first is_one → one.status ≢ Unavailable
      → AnswersRequest naming request other was before second is_other
      → other.status ≢ Unavailable → IsSame one other first second
  wanted_same (Settles due) naming a served b served_too = refusals_same due a b
  wanted_same (WantsReport report kind) naming a served b served_too =
      texts_same kind (report_outcome naming report) refl a served b served_too
  wanted_same (WantsDetails wanted) naming a served b served_too =
      texts_same (form_kind wanted.form) (detail_text_outcome wanted naming) refl a served b
      served_too
  wanted_same (WantsWhatIf what_if body) naming a served b served_too =
      what_ifs_same what_if body a served b served_too
  wanted_same (WantsImport layout body) naming a served b served_too =
      imports_same naming layout body a served b served_too

-- the law of it
pub answers_are_one : AnswersAreOne
answers_are_one naming before bytes one other was first second is_one is_other
    (no_head some never a) served (no_head some_too never_too b) served_too =
    refusals_same one other was before first second is_one is_other _ a b
answers_are_one naming before bytes one other was first second is_one is_other
    (no_head some never a) served (a_head head behind stands b) served_too =
    absurd (never head behind stands)
answers_are_one naming before bytes one other was first second is_one is_other
    (a_head head behind stands a) served (no_head some never b) served_too =
    absurd (never head behind stands)
answers_are_one naming before bytes one other was first second is_one is_other
    (a_head head behind stands a) served (a_head head_too rest stands_too b) served_too =
    let made = was_done (asked head) naming behind one was before first is_one a served in
    let too = was_done (asked head_too) naming rest other was before second is_other b served_too in
    wanted_same one other was before first second is_one is_other
    (wanted_by (asked head) behind) naming made served
    (asked_alike naming bytes head head_too behind rest other was before second is_other stands
    stands_too too)
    served_too
