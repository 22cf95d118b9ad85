-- Records that are submitted to the books one after another.
use Rattle.std.proofs.Common.{◌≡◌, ◌∙◌, ℕ, Bool, false, ◌||◌, List, [], ◌∷◌, ◌++◌}
use Rattle.std.proofs.Common.{length, take, refl, sym, ap, subst, Ok}
use Rattle.std.proofs.Common.{Option, None, Some, append_assoc, append-nil}
use Rattle.std.proofs.lemmas.List.{take_at}
use Rattle.smf_type30.specs.declared.record_class.Class.{Class}
use Rattle.smf_type30.specs.declared.record_class.Class.TheVariants.{Usage}
use Rattle.book_model.specs.Words.{class_of, Naming, Book, Event, after_any, after_all, Outcome}
use Rattle.book_model.specs.Words.{accept_outcome}
use Rattle.book_model.specs.declared.answer.Accepted.{Accepted}
use Rattle.book_model.specs.declared.fault.LedgerFault.TheVariants.{Memory}
use Rattle.book_core.specs.Transition.{NoEvent, Then}
use Rattle.book_core.specs.Calls.{Calls, listed}
use Rattle.book_core.proofs.TransitionLemmas.{Implies}
use Rattle.book_import.specs.declared.receipt.Receipt.{Receipt}
use Rattle.book_model.specs.declared.note.Stop.{Stop}
use Rattle.book_model.specs.declared.note.Stop.TheVariants.{End, Ledger}
use Rattle.book_import.specs.Receipts.{receipt_stopped, count_accepted, count_class}
use Rattle.book_import.specs.Handled.{Imported, Answering, answers_of, after_answer, handle_by}
use Rattle.book_import.specs.Handled.{handle, continue_with, handle_all, nothing_imported, with_stop}
use Rattle.book_import.specs.Imports.{Handles, whole, out_of_memory}
use Rattle.book_import.specs.Pieces.{imported_with, LeadsTo}

-- no record was handled yet
pub none_yet : (naming : Naming) (told : Receipt) → told ≡ receipt_stopped End
    → Implies NoEvent (LeadsTo naming [] told)
none_yet naming told so was before events is none = record {
  same = none.same;
  leads = λ stop rest i.
      handle_all (answers_of was naming) stop rest (imported_with (sym so i) before (sym none.none i));
}

-- an event, and those before it
pub after_listed : (event : Option Event) (early : List Event) (before : Book)
    → after_any event (after_all early before) ≡ after_all (listed event ++ early) before
after_listed None early before = refl
after_listed (Some event) early before = refl

-- a usage record that the books did not refuse
is_accepted : (outcome : Outcome Accepted) (given : Accepted) (receipt next : Receipt)
    (before : Book) (early late : List Event)
    → outcome.answer ≡ Ok given → late ≡ listed outcome.event
    → next ≡ count_accepted given receipt
    → after_answer (imported_with receipt before early) outcome.event outcome.answer
    ≡ Ok (imported_with next before (late ++ early))
is_accepted outcome given receipt next before early late answer made counted =
    ap (after_answer (imported_with receipt before early) outcome.event) answer
    ∙ (λ i. Ok (record {
      receipt = sym counted i;
      book = (after_listed outcome.event early before
          ∙ ap (λ late. after_all (late ++ early) before) (sym made)) i;
      events = sym made i ++ early;
    }))

-- one more record, which was counted: the books are open or not as they were
one_more : (naming : Naming) (first : List (List ℕ)) (bytes : List ℕ) (receipt next : Receipt)
    (was between is : Bool) (before : Book) (early events : List Event)
    → LeadsTo naming first receipt was before early between → is ≡ was
    → handle (answers_of was naming) bytes (imported_with receipt before early)
    ≡ Ok (imported_with next before events)
    → LeadsTo naming (first ++ bytes ∷ []) next was before events is
one_more naming first bytes receipt next was between is before early events so same handled =
    let answers : Answering = answers_of was naming in
    record {
      same = same;
      leads = λ stop rest.
          ap (λ all. handle_all answers stop all (nothing_imported before))
          (append_assoc first (bytes ∷ []) rest)
          ∙ so.leads stop (bytes ∷ rest)
          ∙ ap (continue_with (handle_all answers stop rest) (imported_with receipt before early))
          handled;
    }

-- it is of usage, and the books answered
pub usage_more : (naming : Naming) (first : List (List ℕ)) (bytes : List ℕ)
    (receipt next : Receipt) (answer : Accepted) → class_of bytes ≡ Usage
    → next ≡ count_accepted answer receipt
    → Implies (Then (LeadsTo naming first receipt)
    (Calls (λ (a : Accepted). a) (accept_outcome naming bytes) (Ok answer)))
    (LeadsTo naming (first ++ bytes ∷ []) next)
usage_more naming first bytes receipt next answer usage counted was before events is both =
    let called = both.next in
    let so_far : Imported = imported_with receipt before both.early in
    let open_between : false ≡ both.between = called.reopens.reopen in
    let same : is ≡ both.between =
    called.reopens.store ∙ ap (λ b. b || false) (sym open_between) ∙ open_between in
    one_more naming first bytes receipt next was both.between is before both.early events both.first
    (same ∙ both.first.same)
    (ap (handle_by (answers_of was naming) bytes so_far) usage
    ∙ subst (λ b. handle_by (answers_of b naming) bytes so_far Usage
    ≡ Ok (imported_with next before (both.late ++ both.early))) (open_between ∙ both.first.same)
    (is_accepted (accept_outcome naming bytes (after_all both.early before)) answer receipt next
    before both.early both.late called.makes.0 called.makes.1 counted)
    ∙ ap (λ events. Ok (imported_with next before events)) (sym both.all))

-- about a record of another class the books are not asked
other_handled : (answers : Answering) (bytes : List ℕ) (so_far : Imported) (class : Class)
    → (class ≡ Usage → ⊥) → handle_by answers bytes so_far class
    ≡ Ok (record so_far { receipt = count_class class so_far.receipt })
other_handled answers bytes so_far Usage other = absurd (other refl)
other_handled answers bytes so_far class other = refl

-- it is of another class
pub other_more : (naming : Naming) (first : List (List ℕ)) (bytes : List ℕ)
    (receipt next : Receipt) (class : Class) → class_of bytes ≡ class → (class ≡ Usage → ⊥)
    → next ≡ count_class class receipt
    → Implies (LeadsTo naming first receipt) (LeadsTo naming (first ++ bytes ∷ []) next)
other_more naming first bytes receipt next class of other counted was before events is so =
    let answers : Answering = answers_of was naming in
    let so_far : Imported = imported_with receipt before events in
    one_more naming first bytes receipt next was is is before events events so so.same
    (ap (handle_by answers bytes so_far) of ∙ other_handled answers bytes so_far class other
    ∙ ap (λ receipt. Ok (imported_with receipt before events)) (sym counted))

-- the first of some records, and a stop after them
pub first_told : (naming : Naming) (first later : List (List ℕ)) (receipt : Receipt) (stop : Stop)
    (was : Bool) (before : Book) (events : List Event) (is : Bool)
    → LeadsTo naming first receipt was before events is
    → handle_all (answers_of was naming) stop (take (length first) (first ++ later))
    (nothing_imported before)
    ≡ with_stop stop (imported_with receipt before events)
first_told naming first later receipt stop was before events is so =
    ap (λ those. handle_all (answers_of was naming) stop those (nothing_imported before))
    (take_at first later (length first) refl ∙ sym (append-nil first))
    ∙ so.leads stop []

-- no record is left
pub all_handled : (naming : Naming) (records : List (List ℕ)) (receipt told : Receipt)
    (stop : Stop) → told ≡ record receipt { stop = stop }
    → Implies (LeadsTo naming records receipt) (Handles naming stop records told)
all_handled naming records receipt told stop as_told was before events is so =
    let handled : handle_all (answers_of was naming) stop records (nothing_imported before)
    ≡ with_stop stop (imported_with receipt before events) =
    ap (λ list. handle_all (answers_of was naming) stop list (nothing_imported before))
    (sym (append-nil records)) ∙ so.leads stop [] in
    whole so.same (record {
      receipt = ap (λ (one : Imported). one.receipt) handled ∙ sym as_told;
      events = ap (λ (one : Imported). one.events) handled;
    })

-- no record was handled, because memory ran out
pub none_handled : (naming : Naming) (stop : Stop) (records : List (List ℕ)) (told : Receipt)
    → told ≡ receipt_stopped (Ledger Memory)
    → Implies NoEvent (Handles naming stop records told)
none_handled naming stop records told so was before events is none =
    out_of_memory 0 none.same (record { receipt = sym so; events = sym none.none })
