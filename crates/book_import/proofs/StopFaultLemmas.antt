-- What the stop of an import says about the books.
use Rattle.std.proofs.Common.{◌≡◌, ◌≢◌, ◌∙◌, ℕ, Bool, true, false, true≢false, List, [], ◌∷◌, refl}
use Rattle.std.proofs.Common.{sym, ap, subst, Option, None, Some, Result, Ok, Err, ◌⊎◌, inl, inr}
use Rattle.std.proofs.Common.{take, ◌||◌}
use Rattle.std.specs.Prelude.{if◌then◌else◌}
use Rattle.tariff_rules.specs.declared.priced.Priced.{Priced}
use Rattle.smf_type30.specs.declared.record_class.Class.{Class}
use Rattle.smf_type30.specs.declared.record_class.Class.TheVariants.{Usage}
use Rattle.book_model.specs.Words.{class_of, Naming, Book, has, clashes, is_full, accept_priced}
use Rattle.book_model.specs.Words.{accept_answer, price_in, Event, Outcome, accept_outcome}
use Rattle.book_model.specs.declared.answer.Accepted.{Accepted}
use Rattle.book_model.specs.declared.answer.Accepted.TheVariants.{Kept, Known}
use Rattle.book_model.specs.declared.fault.LedgerFault.{LedgerFault}
use Rattle.book_model.specs.declared.fault.LedgerFault.TheVariants.{Memory, Store, Reopen, Full}
use Rattle.book_model.specs.declared.fault.LedgerFault.TheVariants.{DigestClash}
use Rattle.book_import.specs.declared.receipt.Receipt.{Receipt}
use Rattle.book_model.specs.declared.note.Stop.{Stop}
use Rattle.book_model.specs.declared.note.Stop.TheVariants.{Ledger}
use Rattle.book_import.specs.Receipts.{is_stop_of_books}
use Rattle.book_import.specs.Handled.{Imported, answers_of, after_answer, handle_by, handle, continue_with}
use Rattle.book_import.specs.Handled.{handle_all, nothing_imported}
use Rattle.book_import.specs.Imports.{Handles, whole, out_of_memory, store_failed}
use Rattle.book_import.specs.Laws.{is_class_of_usage}
use Rattle.book_import.specs.Stops.{has_usage, StaysToReopen, ShowsStoreFault, StopsShowFaults}

-- a stop that comes when books are open and no store failed
abbrev IsCalm : Stop → Type 0
IsCalm (Ledger Store) = ⊥
IsCalm (Ledger Reopen) = ⊥
IsCalm stop = Unit {0}

-- the stop of a store that failed
abbrev IsStore : Stop → Type 0
IsStore (Ledger Store) = Unit {0}
IsStore stop = ⊥

-- the stop of a dump is calm
dump_calm : (stop : Stop) → is_stop_of_books stop ≡ false → IsCalm stop
dump_calm (Ledger fault) dump = absurd (true≢false dump)
dump_calm stop dump = tt

-- the fault of an answer leads to a calm stop
abbrev IsCalmAnswer : {A : Type 0} → Result A LedgerFault → Type 0
IsCalmAnswer (Ok accepted) = Unit {0}
IsCalmAnswer (Err fault) = IsCalm (Ledger fault)

-- the answer to a record that has a price
priced_calm : (book : Book) (price : Option Priced) → IsCalmAnswer (accept_priced book price)
priced_calm book None = tt
priced_calm book (Some priced) =
    elim (is_full book priced.amount) as (λ full.
    IsCalmAnswer (if full then Err Full else Ok Kept)) [ true ↦ tt | false ↦ tt ]

-- the definitions answer a record calmly
accept_calm : (naming : Naming) (bytes : List ℕ) (book : Book)
    → IsCalmAnswer (accept_answer naming book bytes)
accept_calm naming bytes book =
    elim (has book.held bytes) as (λ known.
    IsCalmAnswer (if known then Ok Known else if clashes naming book.held bytes then Err DigestClash
    else accept_priced book (price_in book.rulings bytes))) [
      | true ↦ tt
      | false ↦ elim (clashes naming book.held bytes) as (λ clash.
          IsCalmAnswer (if clash then Err DigestClash
          else accept_priced book (price_in book.rulings bytes))) [
            | true ↦ tt
            | false ↦ priced_calm book (price_in book.rulings bytes)
          ]
    ]

-- so is what came of a record
answer_calm : (so_far : Imported) (event : Option Event) (answer : Result Accepted LedgerFault)
    → IsCalmAnswer answer → IsCalmAnswer (after_answer so_far event answer)
answer_calm so_far event (Ok accepted) calm = tt
answer_calm so_far event (Err fault) calm = calm

one_calm : (naming : Naming) (bytes : List ℕ) (so_far : Imported) (class : Class)
    → IsCalmAnswer (handle_by (accept_outcome naming) bytes so_far class)
one_calm naming bytes so_far Usage =
    let outcome : Outcome Accepted = accept_outcome naming bytes so_far.book in
    answer_calm so_far outcome.event outcome.answer (accept_calm naming bytes so_far.book)
one_calm naming bytes so_far class = tt

-- and the stop of an import into open books in which no store failed
all_calm : (naming : Naming) (stop : Stop) (records : List (List ℕ)) (so_far : Imported)
    → IsCalm stop → IsCalm (handle_all (accept_outcome naming) stop records so_far).receipt.stop
all_calm naming stop [] so_far calm = calm
all_calm naming stop (bytes ∷ rest) so_far calm =
    let later : Imported → Imported = handle_all (accept_outcome naming) stop rest in
    elim (handle (accept_outcome naming) bytes so_far) as (λ handled.
    IsCalmAnswer handled → IsCalm (continue_with later so_far handled).receipt.stop) [
      | Ok next ↦ λ _. all_calm naming stop rest next calm
      | Err fault ↦ λ refused. refused
    ] (one_calm naming bytes so_far (class_of bytes))

-- open books in which no store failed
calm_tells : (told : Receipt) (is : Bool) → IsCalm told.stop → is ≡ false → ShowsStoreFault told is
calm_tells told is calm stays = record {
  store = λ store. absurd (subst IsCalm store calm);
  fails = λ reopen. absurd (true≢false (sym reopen ∙ stays));
  no_reopen = λ reopen. subst IsCalm reopen calm;
}

-- of open books
open_tells : (naming : Naming) (stop : Stop) (records : List (List ℕ)) (told : Receipt)
    (before : Book) (events : List Event) (is : Bool) → is_stop_of_books stop ≡ false
    → Handles naming stop records told false before events is → ShowsStoreFault told is
open_tells naming stop records told before events is dump (whole same so) =
    calm_tells told is
    (subst IsCalm (ap (λ (one : Receipt). one.stop) so.receipt)
    (all_calm naming stop records (nothing_imported before) (dump_calm stop dump))) same
open_tells naming stop records told before events is dump (out_of_memory count same so) =
    calm_tells told is
    (subst IsCalm (ap (λ (one : Receipt). one.stop) so.receipt)
    (all_calm naming (Ledger Memory) (take count records) (nothing_imported before) tt)) same
open_tells naming stop records told before events is dump
    (store_failed count kept open_before reopen within either stopped so made) = record {
      store = λ _. reopen;
      fails = λ _. stopped;
      no_reopen = λ other. subst IsStore (sym stopped ∙ other) tt;
    }

-- What came of records when the books were to be reopened: no event; and the stop is Reopen from
-- the first usage record on.
record IsUntouched (stop : Stop) (records : List (List ℕ)) (so_far imported : Imported) : Type 0
  where
    none : imported.events ≡ so_far.events
    reopen : has_usage records ≡ true → imported.receipt.stop ≡ Ledger Reopen
    either : (imported.receipt.stop ≡ Ledger Reopen) ⊎ (imported.receipt.stop ≡ stop)

-- the same for one record
abbrev LeavesEvents : Class → Imported → Result Imported LedgerFault → Type 0
LeavesEvents class so_far (Ok next) =
    (next.events ≡ so_far.events) × (is_class_of_usage class ≡ false)
LeavesEvents class so_far (Err fault) = fault ≡ Reopen

one_untouched : (naming : Naming) (bytes : List ℕ) (so_far : Imported) (class : Class)
    → LeavesEvents class so_far (handle_by (answers_of true naming) bytes so_far class)
one_untouched naming bytes so_far Usage = refl
one_untouched naming bytes so_far class = (refl, refl)

all_untouched : (naming : Naming) (stop : Stop) (records : List (List ℕ)) (so_far : Imported)
    → IsUntouched stop records so_far (handle_all (answers_of true naming) stop records so_far)
all_untouched naming stop [] so_far =
    record { none = refl; reopen = λ is. absurd (true≢false (sym is)); either = inr refl }
all_untouched naming stop (bytes ∷ rest) so_far =
    let later : Imported → Imported = handle_all (answers_of true naming) stop rest in
    elim (handle (answers_of true naming) bytes so_far) as (λ handled.
    LeavesEvents (class_of bytes) so_far handled
    → IsUntouched stop (bytes ∷ rest) so_far (continue_with later so_far handled)) [
      | Ok next ↦ λ one.
          let more = all_untouched naming stop rest next in
          record {
            none = more.none ∙ one.0;
            reopen = λ is. more.reopen (sym (ap (λ b. b || has_usage rest) one.1) ∙ is);
            either = more.either;
          }
      | Err fault ↦ λ reopen. record {
        none = refl;
        reopen = λ is. ap Ledger reopen;
        either = inl (ap Ledger reopen);
      }
    ] (one_untouched naming bytes so_far (class_of bytes))

-- so books that are to be reopened once no store failed keep nothing
pub none_of_closed : (naming : Naming) (stop : Stop) (records : List (List ℕ)) (told : Receipt)
    (was : Bool) (before : Book) (events : List Event) (is : Bool)
    → Handles naming stop records told was before events is → is ≡ true
    → told.stop ≢ Ledger Store → events ≡ []
none_of_closed naming stop records told was before events is (whole same so) shut other =
    let told = subst (λ b. (handle_all (answers_of b naming) stop records
    (nothing_imported before)).events ≡ events) (sym same ∙ shut) so.events in
    sym told ∙ (all_untouched naming stop records (nothing_imported before)).none
none_of_closed naming stop records told was before events is (out_of_memory count same so) shut
    other =
    let told = subst (λ b. (handle_all (answers_of b naming) (Ledger Memory) (take count records)
    (nothing_imported before)).events ≡ events) (sym same ∙ shut) so.events in
    sym told
    ∙ (all_untouched naming (Ledger Memory) (take count records) (nothing_imported before)).none
none_of_closed naming stop records told was before events is
    (store_failed count kept open_before reopen within either stopped so made) shut other =
    absurd (other stopped)

-- neither Reopen nor a calm stop is Store
not_store : (stop other : Stop) → (stop ≡ Ledger Reopen) ⊎ (stop ≡ other) → IsCalm other
    → stop ≢ Ledger Store
not_store stop other (inl reopen) calm is = subst IsStore (sym is ∙ reopen) tt
not_store stop other (inr same) calm is = subst IsCalm (sym same ∙ is) calm

-- for books that were to be reopened
closed_tells : (naming : Naming) (stop : Stop) (records : List (List ℕ)) (told : Receipt)
    (before : Book) (events : List Event) (is : Bool) → is_stop_of_books stop ≡ false
    → Handles naming stop records told true before events is
    → StaysToReopen records told events is
closed_tells naming stop records told before events is dump (whole same so) =
    let all = all_untouched naming stop records (nothing_imported before) in
    let as_told = ap (λ (one : Receipt). one.stop) (sym so.receipt) in
    record {
      stays = same;
      none = sym so.events ∙ all.none;
      reopen = λ usage. inl (as_told ∙ all.reopen usage);
      no_store = λ store. not_store _ stop all.either (dump_calm stop dump) (sym as_told ∙ store);
    }
closed_tells naming stop records told before events is dump (out_of_memory count same so) =
    let last : Stop = Ledger Memory in
    let all = all_untouched naming last (take count records) (nothing_imported before) in
    let as_told = ap (λ (one : Receipt). one.stop) (sym so.receipt) in
    record {
      stays = same;
      none = sym so.events ∙ all.none;
      reopen = λ usage. elim all.either [
        | inl reopen ↦ inl (as_told ∙ reopen)
        | inr memory ↦ inr (as_told ∙ memory)
      ];
      no_store = λ store. not_store _ last all.either tt (sym as_told ∙ store);
    }
closed_tells naming stop records told before events is dump
    (store_failed count kept open_before reopen within either stopped so made) =
    absurd (true≢false open_before)

-- the law
pub stops_show_faults : StopsShowFaults
stops_show_faults = record { closed = closed_tells; open_books = open_tells }
