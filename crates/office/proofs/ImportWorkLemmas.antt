-- Works that are withheld by the import by which their records came.
use Rattle.std.proofs.Common.{◌≡◌, ◌∙◌, ℕ, List, [], ◌∷◌, ◌++◌, Option, Result, Ok, Err, refl, sym}
use Rattle.std.proofs.Common.{ap, subst, append-nil, append_assoc, Bool, true, false}
use Rattle.std.specs.Prelude.{◌==◌, if◌then◌else◌, Vec}
use Rattle.std.specs.Global.{Global}
use Rattle.book_model.specs.declared.entry.Arrival.{Arrival}
use Rattle.book_model.specs.declared.fault.LedgerFault.{LedgerFault}
use Rattle.book_model.specs.declared.fault.LedgerFault.TheVariants.{Memory, Reopen, Store}
use Rattle.book_model.specs.Words.{Book, Naming, Note, Outcome}
use Rattle.book_core.specs.Calls.{Calls}
use Rattle.book_core.specs.Follow.{MakesAnswered}
use Rattle.book_core.specs.Ledgers.{Seen}
use Rattle.book_core.specs.Transition.{IsTransition, Then}
use Rattle.book_core.proofs.FollowLemmas.{calls_answered, then_answered}
use Rattle.book_core.proofs.TransitionLemmas.{Implies, work_as, work_then}
use Rattle.office.specs.ImportWorks.{WithholdsImport, name_if, names_by, names_outcome}
use Rattle.office.specs.ImportWorks.{names_with}
use Rattle.office.specs.Withholdings.{WithholdsSo}
use Rattle.office.specs.declared.withholding.WorksTold.{WorksTold}
use Rattle.office.proofs.WithholdingLemmas.{so_answered}

-- the names of some records and of one more
pub names_more : (entry : ℕ) (arrivals : List Arrival) (arrival : Arrival)
    → names_by entry (arrivals ++ arrival ∷ []) ≡ names_by entry arrivals ++ name_if entry arrival
names_more entry [] arrival = append-nil (name_if entry arrival)
names_more entry (first ∷ later) arrival =
    ap (λ names. name_if entry first ++ names) (names_more entry later arrival)
    ∙ sym (append_assoc (name_if entry first) (names_by entry later) (name_if entry arrival))

-- a name more, or none
with_if : (came : Bool) (names : List (List ℕ)) (name : List ℕ)
    → (if came then names ++ name ∷ [] else names) ≡ names ++ (if came then name ∷ [] else [])
with_if true names name = refl
with_if false names name = sym (append-nil names)

pub with_more : (names : List (List ℕ)) (entry : ℕ) (arrival : Arrival)
    → names_with names entry arrival ≡ names ++ name_if entry arrival
with_more names entry arrival = with_if (arrival.entry == entry) names arrival.name

-- a call that answered by a view answered with what that shows
abbrev seen_by : {V A : Type 0} → (V → A) → Result V LedgerFault → Result A LedgerFault
seen_by view (Ok value) = Ok (view value)
seen_by view (Err fault) = Err fault

seen_calls : {V A : Type 0} (view : V → A) (outcome : Book → Outcome A)
    (result : Result V LedgerFault)
    → Implies (Calls view outcome result) (Calls (λ (seen : A). seen) outcome (seen_by view result))
seen_calls view outcome (Ok value) was before events is called = record {
  makes = called.makes;
  reopens = record { reopen = called.reopens.reopen; store = called.reopens.store };
}
seen_calls view outcome (Err Memory) was before events is called = record {
  makes = called.makes;
  reopens = record { reopen = called.reopens.reopen; store = called.reopens.store };
}
seen_calls view outcome (Err Store) was before events is called = record {
  makes = called.makes;
  reopens = record { reopen = called.reopens.reopen; store = called.reopens.store };
}
seen_calls view outcome (Err Reopen) was before events is called = record {
  makes = called.makes;
  reopens = record { reopen = called.reopens.reopen; store = called.reopens.store };
}
seen_calls view outcome (Err fault) was before events is called = record {
  makes = called.makes;
  reopens = record { reopen = called.reopens.reopen; store = called.reopens.store };
}

pub found_names : {old new : Seen} (entry : ℕ) (result : Result (Vec (List ℕ) Global) LedgerFault)
    → IsTransition old new
    (Calls (λ (names : Vec (List ℕ) Global). names.items) (names_outcome entry old.naming) result)
    → IsTransition old new
    (Calls (λ (names : List (List ℕ)). names) (names_outcome entry old.naming)
    (seen_by (λ (names : Vec (List ℕ) Global). names.items) result))
found_names {old} {new} entry result work =
    let view : Vec (List ℕ) Global → List (List ℕ) = λ names. names.items in
    let outcome = names_outcome entry old.naming in
    work_as old new (Calls view outcome result)
    (Calls (λ (names : List (List ℕ)). names) outcome (seen_by view result))
    (seen_calls view outcome result) work

-- records were found, and their works withheld
pub import_withheld : {old mid new : Seen} (said : Option Note) (entry : ℕ) (names : List (List ℕ))
    (told : WorksTold)
    → IsTransition old mid
    (Calls (λ (names : List (List ℕ)). names) (names_outcome entry old.naming) (Ok names))
    → IsTransition mid new (WithholdsSo said mid.naming names told.counts told.refusal)
    → IsTransition old new (WithholdsImport said old.naming entry (Ok told))
import_withheld {old} {mid} {new} said entry names told found made =
    let First = Calls (λ (names : List (List ℕ)). names) (names_outcome entry old.naming)
    (Ok names) in
    let Next = WithholdsSo said old.naming names told.counts told.refusal in
    let made_so = subst (λ naming. IsTransition mid new
    (WithholdsSo said naming names told.counts told.refusal)) found.naming made in
    work_as old new (Then First Next) (WithholdsImport said old.naming entry (Ok told))
    (λ was before events is both. record { names = names; made = both })
    (work_then old mid new First Next found made_so)

-- it makes events that the books answered
pub import_answered : (said : Option Note) (naming : Naming) (entry : ℕ)
    (told : Result WorksTold LedgerFault)
    → MakesAnswered naming (WithholdsImport said naming entry told)
import_answered said naming entry (Ok told) = λ book was events is found.
    then_answered naming
    (Calls (λ (names : List (List ℕ)). names) (names_outcome entry naming) (Ok found.names))
    (WithholdsSo said naming found.names told.counts told.refusal)
    (calls_answered naming (λ (names : List (List ℕ)). names) (names_outcome entry naming)
    (Ok found.names) (λ book. tt))
    (so_answered said naming found.names told.counts told.refusal) book was events is found.made
import_answered said naming entry (Err fault) =
    calls_answered naming (λ (names : List (List ℕ)). names) (names_outcome entry naming)
    (Err fault)
    (λ book. tt)
