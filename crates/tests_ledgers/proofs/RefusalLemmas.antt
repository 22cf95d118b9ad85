-- Calls that are refused for lack of memory, with nothing done.
use Rattle.std.proofs.Common.{◌≡◌, ◌==◌, ◌∙◌, ◌||◌, ℕ, List, [], Option, Ok, Err, None, refl, sym}
use Rattle.std.proofs.Common.{ap, false, inl, inr, length, true}
use Rattle.std.specs.Prelude.{ℤ}
use Rattle.book_model.specs.declared.fault.LedgerFault.{LedgerFault}
use Rattle.book_model.specs.declared.fault.LedgerFault.TheVariants.{Memory, Store, Reopen}
use Rattle.book_model.specs.declared.answer.Accepted.{Accepted}
use Rattle.book_model.specs.declared.note.Share.{Share}
use Rattle.book_model.specs.Words.{Book, Event, Naming, Outcome, accept_outcome, periods_outcome}
use Rattle.book_core.specs.Ledgers.{Seen}
use Rattle.book_core.specs.Calls.{Calls, IsCall, Makes, listed}
use Rattle.book_core.specs.Submissions.{TakesOf, first_of}
use Rattle.book_core.specs.Transition.{IsTransition}
use Rattle.book_core.proofs.SubmissionLemmas.{none_told, reopens_as}
use Rattle.book_core.proofs.TransitionLemmas.{Implies, work_as}

-- A list that was read is no event, and so memory may have run out in its place.
pub refused_after_reading : {V W A B : Type 0} (view : V → A) (other : W → B) (old new : Seen) (value : V)
    (read : Book → Outcome A) (asked : Book → Outcome B)
    → ((book : Book) → (read book).event ≡ None)
    → IsCall view old new (Ok value) read → IsCall other old new (Err Memory) asked
refused_after_reading view other old new value read asked none call = record {
  work = work_as old new (Calls view read (Ok value)) (Calls other asked (Err Memory))
      (λ was before events is called. record {
        makes = called.makes.1 ∙ ap listed (none before);
        reopens = record { reopen = called.reopens.reopen; store = called.reopens.store };
      })
      call.work;
  reopens = record { reopen = call.reopens.reopen; store = call.reopens.store };
}

-- a fault says of any call what it says of one that reads a list
makes_as : {V W A B : Type 0} (view : V → A) (other : W → B) (read : Outcome A) (asked : Outcome B)
    (fault : LedgerFault) (events : List Event) → read.event ≡ None → (read.answer ≡ Err fault → ⊥)
    → Makes view read (Err fault) events → Makes other asked (Err fault) events
makes_as view other read asked Memory events none never makes = makes
makes_as view other read asked Store events none never (inl nothing) = inl nothing
makes_as view other read asked Store events none never (inr event) = inl (event ∙ ap listed none)
makes_as view other read asked Reopen events none never makes = makes
makes_as view other read asked fault events none never makes = absurd (never makes.0)

-- So any call may be refused as one that reads the periods is.
pub refused_as : {V W B : Type 0} (view : V → List ℤ) (other : W → B) (old new : Seen)
    (fault : LedgerFault) (asked : Book → Outcome B)
    → IsCall view old new (Err fault) periods_outcome → IsCall other old new (Err fault) asked
refused_as {V} {W} view other old new fault asked call = record {
  work = work_as old new (Calls view periods_outcome (Err fault)) (Calls other asked (Err fault))
      (λ was before events is called. record {
        makes = makes_as view other (periods_outcome before) (asked before) fault events refl
            (λ never. cc) called.makes;
        reopens = reopens_as V W fault was is called.reopens;
      })
      call.work;
  reopens = reopens_as V W fault old.must_reopen new.must_reopen call.reopens;
}

-- And so may a change that is handed records, of which it then took none.
none_taken : (naming : Naming) (import : Option Share) (records : List (List ℕ))
    → Implies (Calls (λ (days : List ℤ). days) periods_outcome (Err Store))
    (TakesOf naming import records (Err Store))
none_taken naming import records was before events is called =
    let opened : was ≡ false = sym called.reopens.reopen in
    let nothing : events ≡ [] = elim called.makes [ inl none ↦ none | inr none ↦ none ] in
    record {
      was_open = opened;
      closed = called.reopens.store ∙ ap (λ b. b || true) opened;
      answers = [];
      kept = record {
        kept = [];
        accepts = record { none = refl; same = refl };
        told = nothing ∙ sym (none_told import (0 == length records) []);
      };
    }

pub refused_takes : (old new : Seen) (import : Option Share) (records : List (List ℕ))
    (fault : LedgerFault)
    → IsCall (λ (days : List ℤ). days) old new (Err fault) periods_outcome
    → IsTransition old new (TakesOf old.naming import records (Err fault))
refused_takes old new import records Store call =
    work_as old new (Calls (λ (days : List ℤ). days) periods_outcome (Err Store))
    (TakesOf old.naming import records (Err Store)) (none_taken old.naming import records) call.work
refused_takes old new import records fault call =
    (refused_as (λ (days : List ℤ). days) (λ (accepted : Accepted). accepted) old new fault
    (accept_outcome old.naming (first_of records)) call).work
