-- The same import twice in a row is a whole one, and then one that adds nothing.
use Rattle.std.proofs.Common.{◌≡◌, ◌∙◌, ℕ, zero, suc, List, [], ◌∷◌, length, take, take_all, refl}
use Rattle.std.proofs.Common.{sym, ap, subst, Bool, false, ◌⊎◌, inl, inr, Ok, Err, arith}
use Rattle.book_model.specs.Words.{Book, Naming, Event, after_all, accept_outcome}
use Rattle.book_model.specs.declared.fault.LedgerFault.TheVariants.{Memory, Store}
use Rattle.book_core.proofs.TransitionLemmas.{after_all-append}
use Rattle.book_import.specs.declared.receipt.Receipt.{Receipt}
use Rattle.book_model.specs.declared.note.Stop.{Stop}
use Rattle.book_model.specs.declared.note.Stop.TheVariants.{Ledger}
use Rattle.book_import.specs.Handled.{Imported, Answering, handle, continue_with, handle_all, nothing_imported}
use Rattle.book_import.specs.Imports.{GivesReceipt, Handles, whole, out_of_memory, store_failed}
use Rattle.book_import.specs.Laws.{import_of_records, book_after_import}
use Rattle.book_import.specs.Repeats.{IsUnhindered, TwiceIsOnce}
use Rattle.book_import.proofs.BookLemmas.{left_is}
use Rattle.book_import.proofs.OnceLemmas.{again_from}

-- memory ran out after the first records, or one of them was refused, as it is in the whole import
memory_or_whole : (naming : Naming) (stop : Stop) (count : ℕ) (records : List (List ℕ))
    (so_far : Imported)
    → ((handle_all (accept_outcome naming) (Ledger Memory) (take count records) so_far).receipt.stop
    ≡ Ledger Memory)
    ⊎ (handle_all (accept_outcome naming) (Ledger Memory) (take count records) so_far
    ≡ handle_all (accept_outcome naming) stop records so_far)
memory_or_whole naming stop zero records so_far = inl refl
memory_or_whole naming stop (suc count) [] so_far = inl refl
memory_or_whole naming stop (suc count) (bytes ∷ rest) so_far =
    let answers : Answering = accept_outcome naming in
    let first : Imported → Imported = handle_all answers (Ledger Memory) (take count rest) in
    elim (handle (accept_outcome naming) bytes so_far) as (λ handled.
    ((continue_with first so_far handled).receipt.stop ≡ Ledger Memory)
    ⊎ (continue_with first so_far handled ≡ continue_with (handle_all answers stop rest) so_far handled)) [
      | Ok next ↦ memory_or_whole naming stop count rest next
      | Err fault ↦ inr refl
    ]

-- all of the records were imported into open books, which stay open: the receipt, and the events
pub record IsWhole (naming : Naming) (stop : Stop) (records : List (List ℕ)) (before : Book)
    (once : Receipt) (events : List Event) (is : Bool) : Type 0 where
  pub stays_open : is ≡ false
  pub told : GivesReceipt (import_of_records naming before stop records) once events

-- if neither a lack of memory nor the store stopped it, the import is a whole one
pub is_whole : (naming : Naming) (stop : Stop) (records : List (List ℕ)) (before : Book)
    (once : Receipt) (events : List Event) (is : Bool)
    → Handles naming stop records once false before events is → IsUnhindered once
    → IsWhole naming stop records before once events is
is_whole naming stop records before once events is (whole same told) unhindered =
    record { stays_open = same; told = told }
is_whole naming stop records before once events is (out_of_memory count same told) unhindered =
    elim (memory_or_whole naming stop count records (nothing_imported before)) [
      | inl memory ↦
          absurd (unhindered.memory (ap (λ (r : Receipt). r.stop) (sym told.receipt) ∙ memory))
      | inr all ↦ record {
        stays_open = same;
        told = record {
          receipt = ap (λ (one : Imported). one.receipt) (sym all) ∙ told.receipt;
          events = ap (λ (one : Imported). one.events) (sym all) ∙ told.events;
        };
      }
    ]
is_whole naming stop records before once events is
    (store_failed count kept open_before reopen within either stopped so made) unhindered =
    absurd (unhindered.store stopped)

-- The events are those of the first so many records, with some stop after them.
pub record AreOfFirst (naming : Naming) (records : List (List ℕ)) (before : Book)
    (made : List Event) : Type 0 where
  pub count : ℕ
  pub stop : Stop
  pub events : (import_of_records naming before stop (take count records)).events ≡ made

-- so are those of any import into open books
pub of_first : (naming : Naming) (stop : Stop) (records : List (List ℕ)) (before : Book)
    (told : Receipt) (made : List Event) (is : Bool)
    → Handles naming stop records told false before made is
    → AreOfFirst naming records before made
of_first naming stop records before told made is (whole same so) = record {
  count = length records;
  stop = stop;
  events = ap (λ those. (import_of_records naming before stop those).events)
      (take_all (length records) records (omega arith)) ∙ so.events;
}
of_first naming stop records before told made is (out_of_memory count same so) =
    record { count = count; stop = Ledger Memory; events = so.events }
of_first naming stop records before told made is
    (store_failed count kept open_before reopen within either stopped so events) =
    record { count = kept; stop = Ledger Store; events = events }

-- the first so many records again leave the book of an import of them all
first_again : (naming : Naming) (before book : Book) (stop other : Stop) (count : ℕ)
    (records : List (List ℕ)) → book ≡ book_after_import naming before stop records
    → book_after_import naming book other (take count records) ≡ book
first_again naming before book stop other count records left =
    let is : book ≡ (import_of_records naming before stop records).book =
    left ∙ sym (left_is naming before stop records) in
    sym (left_is naming book other (take count records))
    ∙ again_from naming stop other count records (nothing_imported before) (nothing_imported book) is ∙ sym is

-- the law
pub twice_is_once : TwiceIsOnce
twice_is_once naming before stop again records once twice first second between is handled unhindered
    handled_again =
    let all = is_whole naming stop records before once first between handled unhindered in
    let book : Book = after_all first before in
    let left : book ≡ book_after_import naming before stop records =
    ap (λ events. after_all events before) (sym all.told.events) in
    let those = of_first naming again records book twice second is
    (subst (λ b. Handles naming again records twice b book second is) all.stays_open
    handled_again) in
    after_all-append second first before
    ∙ ap (λ events. after_all events book) (sym those.events)
    ∙ first_again naming before book stop those.stop those.count records left
