-- The same import after one that was stopped.
use Rattle.std.proofs.Common.{◌≡◌, ◌≢◌, ◌∙◌, ℕ, zero, suc, List, [], ◌∷◌, take, refl, sym, ap, subst}
use Rattle.std.proofs.Common.{Bool, true, false, true≢false, Option, Some, None, is_some}
use Rattle.std.proofs.Common.{Result, Ok, Err}
use Rattle.std.specs.Prelude.{IfOk}
use Rattle.tariff_rules.specs.declared.priced.Priced.{Priced}
use Rattle.smf_type30.specs.declared.record_class.Class.{Class}
use Rattle.smf_type30.specs.declared.record_class.Class.TheVariants.{Usage}
use Rattle.book_model.specs.Words.{class_of, Book, Naming, Event, after_all, after_any, has}
use Rattle.book_model.specs.Words.{clashes, price_in, accept_answer, accept_event, accept_outcome}
use Rattle.book_model.specs.declared.answer.Accepted.{Accepted}
use Rattle.book_model.specs.declared.fault.LedgerFault.{LedgerFault}
use Rattle.book_model.specs.declared.fault.LedgerFault.TheVariants.{DigestClash}
use Rattle.book_core.proofs.TransitionLemmas.{after_all-append}
use Rattle.book_import.specs.declared.receipt.Receipt.{Receipt}
use Rattle.book_model.specs.declared.note.Stop.{Stop}
use Rattle.book_model.specs.declared.note.Stop.TheVariants.{Ledger}
use Rattle.book_import.specs.Handled.{Imported, after_answer, after_accept, handle_by, handle}
use Rattle.book_import.specs.Handled.{continue_with, handle_all, nothing_imported}
use Rattle.book_import.specs.Laws.{is_priced_usage, import_of_records}
use Rattle.book_import.specs.Repeats.{StopsAreMended}
use Rattle.book_import.proofs.BookLemmas.{left_is}
use Rattle.book_import.proofs.LawLemmas.{answer_by, answered, is_priced_by, HoldsIt, one_handled}
use Rattle.book_import.proofs.OnceLemmas.{StopIsHarmless, all_grow, refused_again, settled_by, stays}
use Rattle.book_import.proofs.OnceLemmas.{still_settled}
use Rattle.book_import.proofs.RepeatLemmas.{is_whole, of_first}

-- two ways in which one record was handled: both leave the same books, or both were refused
abbrev AreAlike : Result Imported LedgerFault → Result Imported LedgerFault → Type 0
AreAlike (Ok again) (Ok first) = again.book ≡ first.book
AreAlike (Err again) (Err first) = again ≡ first
AreAlike again first = ⊥

-- the same holds for one answer,
answered_alike : (so_far again : Imported) (event : Option Event)
    (answer : Result Accepted LedgerFault) → again.book ≡ so_far.book
    → AreAlike (after_answer again event answer) (after_answer so_far event answer)
answered_alike so_far again event (Ok accepted) same = ap (after_any event) same
answered_alike so_far again event (Err fault) same = refl

-- and for one record, if the books are the same
handled_alike : (naming : Naming) (bytes : List ℕ) (class : Class) (so_far again : Imported)
    → again.book ≡ so_far.book
    → AreAlike (handle_by (accept_outcome naming) bytes again class)
    (handle_by (accept_outcome naming) bytes so_far class)
handled_alike naming bytes Usage so_far again same =
    let answer = accept_answer naming so_far.book bytes in
    subst (λ book. AreAlike (after_accept again (accept_outcome naming bytes book))
    (after_accept so_far (accept_outcome naming bytes so_far.book))) (sym same)
    (answered_alike so_far again (accept_event bytes answer) answer same)
handled_alike naming bytes class so_far again same = same

-- what comes after the record then leaves the same books
gone_alike : (later later_again : Imported → Imported) (so_far again : Imported)
    (handled handled_again : Result Imported LedgerFault) → again.book ≡ so_far.book
    → ((next after : Imported) → after.book ≡ next.book
    → (later_again after).book ≡ (later next).book)
    → AreAlike handled_again handled
    → (continue_with later_again again handled_again).book ≡ (continue_with later so_far handled).book
gone_alike later later_again so_far again (Ok next) (Ok after) same rest alike =
    rest next after alike
gone_alike later later_again so_far again (Err fault) (Err fault_again) same rest alike = same
gone_alike later later_again so_far again (Ok next) (Err fault_again) same rest alike =
    absurd alike
gone_alike later later_again so_far again (Err fault) (Ok after) same rest alike = absurd alike

-- the books that records leave do not depend on what was counted, nor on the stop after them
same_left : (naming : Naming) (stop other : Stop) (records : List (List ℕ))
    (so_far again : Imported) → again.book ≡ so_far.book
    → (handle_all (accept_outcome naming) other records again).book
    ≡ (handle_all (accept_outcome naming) stop records so_far).book
same_left naming stop other [] so_far again same = same
same_left naming stop other (bytes ∷ rest) so_far again same =
    gone_alike (handle_all (accept_outcome naming) stop rest)
    (handle_all (accept_outcome naming) other rest) so_far again
    (handle (accept_outcome naming) bytes so_far) (handle (accept_outcome naming) bytes again) same
    (λ next after alike. same_left naming stop other rest next after alike)
    (handled_alike naming bytes (class_of bytes) so_far again same)

-- a usage record that is held if it counts is refused only because another has its name
known_or_clash : (bytes : List ℕ) (again : Imported) (known clash : Bool) (price : Option Priced)
    (fault : LedgerFault) → (is_some price ≡ true → known ≡ true)
    → answered bytes again (answer_by again.book known clash price) ≡ Err fault
    → fault ≡ DigestClash
known_or_clash bytes again true clash price fault there refused = cc
known_or_clash bytes again false true price fault there refused = cc
known_or_clash bytes again false false None fault there refused = cc
known_or_clash bytes again false false (Some priced) fault there refused =
    absurd (true≢false (sym (there refl)))

-- the same holds for any record
settled_refused : (naming : Naming) (bytes : List ℕ) (again : Imported) (class : Class)
    (fault : LedgerFault)
    → (is_priced_by class again.book.rulings bytes ≡ true → has again.book.held bytes ≡ true)
    → handle_by (accept_outcome naming) bytes again class ≡ Err fault → fault ≡ DigestClash
settled_refused naming bytes again Usage fault there refused =
    known_or_clash bytes again (has again.book.held bytes) (clashes naming again.book.held bytes)
    (price_in again.book.rulings bytes) fault there refused
settled_refused naming bytes again class fault there refused = cc

-- after the first records all of them leave the books of a whole import
mended : (naming : Naming) (stop other next : Stop) (count : ℕ) (records : List (List ℕ))
    (so_far again : Imported)
    → again.book ≡ (handle_all (accept_outcome naming) other (take count records) so_far).book
    → (handle_all (accept_outcome naming) next records again).receipt.stop ≢ Ledger DigestClash
    → (handle_all (accept_outcome naming) next records again).book
    ≡ (handle_all (accept_outcome naming) stop records so_far).book
mended naming stop other next zero records so_far again same apart =
    same_left naming stop next records so_far again same
mended naming stop other next (suc count) [] so_far again same apart = same
mended naming stop other next (suc count) (bytes ∷ rest) so_far again same apart =
    let first : Imported → Imported = handle_all (accept_outcome naming) other (take count rest) in
    let later : Imported → Imported = handle_all (accept_outcome naming) stop rest in
    let later_again : Imported → Imported = handle_all (accept_outcome naming) next rest in
    elim (handle (accept_outcome naming) bytes so_far) as (λ handled.
    handle (accept_outcome naming) bytes so_far ≡ handled
    → IfOk handled
    (λ one. HoldsIt (is_priced_usage so_far.book.rulings bytes) bytes so_far.book one.book)
    → again.book ≡ (continue_with first so_far handled).book
    → (continue_with later_again again (handle (accept_outcome naming) bytes again)).book
    ≡ (continue_with later so_far handled).book) [
      | Ok one ↦ λ is holds kept.
          let settled : StopIsHarmless again.book bytes =
          subst (λ book. StopIsHarmless book bytes) (sym kept)
          (still_settled bytes (all_grow naming other (take count rest) one)
          (settled_by bytes holds)) in
          elim (handle (accept_outcome naming) bytes again) as (λ handled.
          handle (accept_outcome naming) bytes again ≡ handled
          → IfOk handled
          (λ after. HoldsIt (is_priced_usage again.book.rulings bytes) bytes again.book after.book)
          → (continue_with later_again again handled).receipt.stop ≢ Ledger DigestClash
          → (continue_with later_again again handled).book ≡ (later one).book) [
            | Ok after ↦ λ is_again holds_again clear.
                mended naming stop other next count rest one after
                (stays bytes holds_again settled ∙ kept) clear
            | Err fault ↦ λ is_again holds_again clear.
                absurd (clear (ap Ledger
                (settled_refused naming bytes again (class_of bytes) fault settled is_again)))
          ] refl (one_handled naming bytes again (class_of bytes)) apart
      | Err fault ↦ λ is holds kept.
          ap (λ handled. (continue_with later_again again handled).book)
          (refused_again naming bytes (class_of bytes) so_far again fault kept is) ∙ kept
    ] refl (one_handled naming bytes so_far (class_of bytes)) same

-- the law
pub stops_are_mended : StopsAreMended
stops_are_mended naming before stop again records once twice first second between is handled
    handled_again unhindered apart =
    let book : Book = after_all first before in
    let those = of_first naming stop records before once first between handled in
    let all = is_whole naming again records book twice second is handled_again unhindered in
    let left : book ≡ (import_of_records naming before those.stop (take those.count records)).book =
    ap (λ events. after_all events before) (sym those.events)
    ∙ sym (left_is naming before those.stop (take those.count records)) in
    after_all-append second first before
    ∙ ap (λ events. after_all events book) (sym all.told.events)
    ∙ sym (left_is naming book again records)
    ∙ mended naming stop those.stop again those.count records (nothing_imported before) (nothing_imported book)
    left (λ clash. apart (sym (ap (λ (told : Receipt). told.stop) all.told.receipt) ∙ clash))
    ∙ left_is naming before stop records
