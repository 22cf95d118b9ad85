-- The same records imported twice in a row.
use Rattle.std.proofs.Common.{◌≡◌, ◌∙◌, ℕ, zero, suc, List, [], ◌∷◌, take, refl, sym, ap, subst}
use Rattle.std.proofs.Common.{Bool, true, false, ◌&&◌, ◌||◌, Option, Result, Ok, Err}
use Rattle.std.specs.Prelude.{IfOk}
use Rattle.std.specs.Ordering.{is_eq}
use Rattle.std.proofs.Math.Bool.{or-true}
use Rattle.std.proofs.lemmas.Cmp.{nat_list_cmp_total, tied_itself}
use Rattle.std.proofs.lemmas.Map.Lookups.{exact_bytes}
use Rattle.std.proofs.lemmas.Map.Views.{tells_apart}
use Rattle.smf_type30.specs.declared.record_class.Class.{Class}
use Rattle.smf_type30.specs.declared.record_class.Class.TheVariants.{Usage}
use Rattle.book_model.specs.Words.{class_of, Book, Naming, has, accept_answer, Event, accept_event}
use Rattle.book_model.specs.Words.{accept_outcome}
use Rattle.book_model.specs.declared.answer.Accepted.{Accepted}
use Rattle.book_model.specs.declared.fault.LedgerFault.{LedgerFault}
use Rattle.book_model.proofs.SetLemmas.{same_set}
use Rattle.book_model.specs.declared.note.Stop.{Stop}
use Rattle.book_import.specs.Handled.{Imported, after_answer, after_accept, handle_by, handle}
use Rattle.book_import.specs.Handled.{continue_with, handle_all}
use Rattle.book_import.specs.Laws.{is_priced_usage}
use Rattle.book_import.proofs.LawLemmas.{is_same, HoldsIt, one_handled}

-- a record that these books hold, if it is one that they would hold
abbrev pub StopIsHarmless : Book → List ℕ → Type 0
StopIsHarmless book bytes = is_priced_usage book.rulings bytes ≡ true → has book.held bytes ≡ true

-- the new books hold what the old ones held, under the same rulings
pub record Grows (old new : Book) : Type 0 where
  pub held : (bytes : List ℕ) → has old.held bytes ≡ true → has new.held bytes ≡ true
  pub rulings : new.rulings ≡ old.rulings

-- what was settled stays settled
pub still_settled : {old new : Book} (bytes : List ℕ) → Grows old new → StopIsHarmless old bytes
    → StopIsHarmless new bytes
still_settled bytes grows settled = λ priced.
    grows.held bytes
    (settled (sym (ap (λ rulings. is_priced_usage rulings bytes) grows.rulings) ∙ priced))

-- a record that was submitted,
grows_by : {counts : Bool} {old new : Book} (bytes : List ℕ) → HoldsIt counts bytes old new
    → Grows old new
grows_by {counts} bytes one = record {
  held = λ other held. one.held other ∙ ap (λ b. b || (counts && is_same other bytes)) held;
  rulings = one.rulings;
}

-- is then settled
pub settled_by : {old new : Book} (bytes : List ℕ)
    → HoldsIt (is_priced_usage old.rulings bytes) bytes old new
    → StopIsHarmless new bytes
settled_by {old} bytes one = λ priced.
    let counts = sym (ap (λ rulings. is_priced_usage rulings bytes) one.rulings) ∙ priced in
    let same : is_same bytes bytes ≡ true = ap is_eq (tied_itself nat_list_cmp_total bytes) in
    one.held bytes
    ∙ ap (λ b. has old.held bytes || (b && is_same bytes bytes)) counts
    ∙ ap (λ b. has old.held bytes || b) same
    ∙ or-true (has old.held bytes)

-- if what would be added is there already, nothing is added
not_more : (counts same is : Bool) → (counts ≡ true → same ≡ true → is ≡ true)
    → (is || (counts && same)) ≡ is
not_more counts same true there = refl
not_more true true false there = sym (there refl refl)
not_more true false false there = refl
not_more false same false there = refl

-- books that take no new record stay as they are
pub stays : {old new : Book} (bytes : List ℕ)
    → HoldsIt (is_priced_usage old.rulings bytes) bytes old new
    → StopIsHarmless old bytes → new ≡ old
stays {old} {new} bytes one settled =
    let each = λ (other : List ℕ).
    one.held other
    ∙ not_more (is_priced_usage old.rulings bytes) (is_same other bytes) (has old.held other)
    (λ priced same. ap (has old.held) (tells_apart exact_bytes other bytes same)
    ∙ settled priced) in
    let held = same_set nat_list_cmp_total exact_bytes new.held old.held each in
    λ i. record {
      rulings = one.rulings i;
      held = held i;
      posted = one.posted i;
      past = one.past i;
      journal = one.noted settled i;
    }

-- the same books
grows_none : (book : Book) → Grows book book
grows_none book = record { held = λ bytes held. held; rulings = refl }

-- one step after another
then_grows : {old between new : Book} → Grows old between → Grows between new → Grows old new
then_grows first second = record {
  held = λ bytes held. second.held bytes (first.held bytes held);
  rulings = second.rulings ∙ first.rulings;
}

-- an import takes no record from the books
pub all_grow : (naming : Naming) (stop : Stop) (records : List (List ℕ)) (so_far : Imported)
    → Grows so_far.book (handle_all (accept_outcome naming) stop records so_far).book
all_grow naming stop [] so_far = grows_none so_far.book
all_grow naming stop (bytes ∷ rest) so_far =
    elim (handle (accept_outcome naming) bytes so_far) as (λ handled.
    IfOk handled
    (λ next. HoldsIt (is_priced_usage so_far.book.rulings bytes) bytes so_far.book next.book)
    → Grows so_far.book
    (continue_with (handle_all (accept_outcome naming) stop rest) so_far handled).book) [
      | Ok next ↦ λ one. then_grows (grows_by bytes one) (all_grow naming stop rest next)
      | Err fault ↦ λ one. grows_none so_far.book
    ] (one_handled naming bytes so_far (class_of bytes))

-- a fault that books answered they answer again, whatever was counted
still_refused : (so_far again : Imported) (event : Option Event)
    (answer : Result Accepted LedgerFault)
    (fault : LedgerFault) → after_answer so_far event answer ≡ Err fault
    → after_answer again event answer ≡ Err fault
still_refused so_far again event (Err refusal) fault refused = refused
still_refused so_far again event (Ok accepted) fault refused = cc

-- the same, by the record's class, if the books are the same
pub refused_again : (naming : Naming) (bytes : List ℕ) (class : Class) (so_far again : Imported)
    (fault : LedgerFault) → again.book ≡ so_far.book
    → handle_by (accept_outcome naming) bytes so_far class ≡ Err fault
    → handle_by (accept_outcome naming) bytes again class ≡ Err fault
refused_again naming bytes Usage so_far again fault same refused =
    let answer = accept_answer naming so_far.book bytes in
    subst (λ book. after_accept again (accept_outcome naming bytes book) ≡ Err fault) (sym same)
    (still_refused so_far again (accept_event bytes answer) answer fault refused)
refused_again naming bytes class so_far again fault same refused = cc

-- a record that is settled leaves the books as they are, and so does what comes after it
once_more : (naming : Naming) (bytes : List ℕ) (again : Imported) (later : Imported → Imported)
    (end : Book)
    → again.book ≡ end → StopIsHarmless again.book bytes
    → ((after : Imported) → after.book ≡ end → (later after).book ≡ end)
    → (continue_with later again (handle (accept_outcome naming) bytes again)).book ≡ end
once_more naming bytes again later end same settled rest =
    elim (handle (accept_outcome naming) bytes again) as (λ handled.
    IfOk handled
    (λ after. HoldsIt (is_priced_usage again.book.rulings bytes) bytes again.book after.book)
    → (continue_with later again handled).book ≡ end) [
      | Ok after ↦ λ one. rest after (stays bytes one settled ∙ same)
      | Err fault ↦ λ one. same
    ] (one_handled naming bytes again (class_of bytes))

-- the first of the same records leave the books that all of them left
pub again_from : (naming : Naming) (stop other : Stop) (count : ℕ) (records : List (List ℕ))
    (so_far again : Imported)
    → again.book ≡ (handle_all (accept_outcome naming) stop records so_far).book
    → (handle_all (accept_outcome naming) other (take count records) again).book
    ≡ (handle_all (accept_outcome naming) stop records so_far).book
again_from naming stop other zero records so_far again same = same
again_from naming stop other (suc count) [] so_far again same = same
again_from naming stop other (suc count) (bytes ∷ rest) so_far again same =
    let later : Imported → Imported = handle_all (accept_outcome naming) stop rest in
    let again_later : Imported → Imported =
    handle_all (accept_outcome naming) other (take count rest) in
    elim (handle (accept_outcome naming) bytes so_far) as (λ handled.
    handle (accept_outcome naming) bytes so_far ≡ handled
    → IfOk handled
    (λ next. HoldsIt (is_priced_usage so_far.book.rulings bytes) bytes so_far.book next.book)
    → again.book ≡ (continue_with later so_far handled).book
    → (continue_with again_later again (handle (accept_outcome naming) bytes again)).book
    ≡ (continue_with later so_far handled).book) [
      | Ok next ↦ λ is one same.
          let settled = still_settled bytes (all_grow naming stop rest next)
          (settled_by bytes one) in
          once_more naming bytes again again_later (later next).book same
          (subst (λ book. StopIsHarmless book bytes) (sym same) settled)
          (λ after kept. again_from naming stop other count rest next after kept)
      | Err fault ↦ λ is one same.
          ap (λ handled. (continue_with again_later again handled).book)
          (refused_again naming bytes (class_of bytes) so_far again fault same is) ∙ same
    ] refl (one_handled naming bytes so_far (class_of bytes)) same
