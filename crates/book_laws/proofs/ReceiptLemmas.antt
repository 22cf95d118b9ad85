-- What receipts count: one for each record, and as kept as many as the books hold more.
use Rattle.std.proofs.Common.{◌≡◌, ℕ, ◌+◌, List, [], ◌∷◌, length, refl, sym, ap, true, false}
use Rattle.std.proofs.Common.{true≢false, Bool, Option, Some, None, Ok, Err, arith, if◌then◌else◌}
use Rattle.std.proofs.Common.{IfOk}
use Rattle.smf_type30.specs.declared.record_class.Class.TheVariants.{Continuation, Damaged}
use Rattle.smf_type30.specs.declared.record_class.Class.TheVariants.{DataLost, DumpHeader}
use Rattle.smf_type30.specs.declared.record_class.Class.TheVariants.{DumpTrailer, Other}
use Rattle.book_model.specs.declared.answer.Accepted.TheVariants.{Kept}
use Rattle.book_model.specs.declared.fault.LedgerFault.TheVariants.{Full}
use Rattle.book_model.specs.Words.{Priced, Class, Usage, accept_outcome, Book, clashes, class_of}
use Rattle.book_model.specs.Words.{has, is_full, members, Naming, price_in, with}
use Rattle.book_model.proofs.Lemmas.{length-alike}
use Rattle.book_model.proofs.SetChanges.{members_with}
use Rattle.book_model.specs.declared.note.Stop.{Stop}
use Rattle.book_import.specs.Receipts.{counted}
use Rattle.book_import.specs.Handled.{continue_with, handle, handle_all, handle_by, Imported}
use Rattle.book_import.specs.Handled.{nothing_imported}
use Rattle.book_import.specs.Laws.{book_after_import, import_of_records, IsUnrefused}
use Rattle.book_import.proofs.BookLemmas.{left_is}
use Rattle.book_import.proofs.LawLemmas.{answer_by, answered}
use Rattle.book_laws.specs.ImportLaws.{ReceiptsCountRecords}

-- how many records the books hold
abbrev many : Imported → ℕ
many so_far = length (members so_far.book.held)

-- One record was handled: the receipt counts one more, and as many more as kept as the books hold.
record CountsOne (old new : Imported) : Type 0 where
  counts : counted new.receipt ≡ counted old.receipt + 1
  grows : many new + old.receipt.kept ≡ many old + new.receipt.kept

-- records were handled: the same of all of them, if the books refused none
record CountsAll (records : List (List ℕ)) (old new : Imported) : Type 0 where
  counts : IsUnrefused new → counted new.receipt ≡ counted old.receipt + length records
  grows : many new + old.receipt.kept ≡ many old + new.receipt.kept

-- a usage record, by whether it is held, whether another has its name, and its price
usage_counted : (bytes : List ℕ) (so_far : Imported) (known clash : Bool) (price : Option Priced)
    → has so_far.book.held bytes ≡ known
    → IfOk (answered bytes so_far (answer_by so_far.book known clash price)) (CountsOne so_far)
usage_counted bytes so_far true clash price holds = record { counts = omega arith; grows = refl }
usage_counted bytes so_far false true price new = tt
usage_counted bytes so_far false false None new = record { counts = omega arith; grows = refl }
usage_counted bytes so_far false false (Some priced) new =
    elim (is_full so_far.book priced.amount) as (λ full.
    IfOk (answered bytes so_far (if full then Err Full else Ok Kept)) (CountsOne so_far)) [
      | true ↦ tt
      | false ↦
          let more = length-alike (members_with so_far.book.held bytes new) in
          let count : length (members (with so_far.book.held bytes)) ≡ many so_far + 1 =
          omega arith in
          record { counts = omega arith; grows = omega arith }
    ]

-- a record, by its class
one_counted : (naming : Naming) (bytes : List ℕ) (so_far : Imported) (class : Class)
    → IfOk (handle_by (accept_outcome naming) bytes so_far class) (CountsOne so_far)
one_counted naming bytes so_far Usage =
    usage_counted bytes so_far (has so_far.book.held bytes) (clashes naming so_far.book.held bytes)
    (price_in so_far.book.rulings bytes) refl
one_counted naming bytes so_far DumpHeader = record { counts = omega arith; grows = refl }
one_counted naming bytes so_far DumpTrailer = record { counts = omega arith; grows = refl }
one_counted naming bytes so_far DataLost = record { counts = omega arith; grows = refl }
one_counted naming bytes so_far Other = record { counts = omega arith; grows = refl }
one_counted naming bytes so_far Continuation = record { counts = omega arith; grows = refl }
one_counted naming bytes so_far (Damaged damage) = record { counts = omega arith; grows = refl }

-- one record, and then others
then_rest : (bytes : List ℕ) (rest : List (List ℕ)) {old between new : Imported}
    → CountsOne old between → CountsAll rest between new → CountsAll (bytes ∷ rest) old new
then_rest bytes rest one more = record {
  counts = λ unrefused.
      let first = one.counts in
      let others = more.counts unrefused in
      omega arith;
  grows =
      let first = one.grows in
      let others = more.grows in
      omega arith;
}

-- records, from any point of an import on
all_counted : (naming : Naming) (stop : Stop) (records : List (List ℕ)) (so_far : Imported)
    → CountsAll records so_far (handle_all (accept_outcome naming) stop records so_far)
all_counted naming stop [] so_far = record { counts = λ unrefused. omega arith; grows = refl }
all_counted naming stop (bytes ∷ rest) so_far =
    let later : Imported → Imported = handle_all (accept_outcome naming) stop rest in
    elim (handle (accept_outcome naming) bytes so_far) as (λ handled.
    IfOk handled (CountsOne so_far)
    → CountsAll (bytes ∷ rest) so_far (continue_with later so_far handled)) [
      | Ok next ↦ λ one. then_rest bytes rest one (all_counted naming stop rest next)
      | Err fault ↦ λ none.
          record { counts = λ unrefused. absurd (true≢false unrefused); grows = refl }
    ] (one_counted naming bytes so_far (class_of bytes))

-- the law
pub receipts_count_records : ReceiptsCountRecords
receipts_count_records = record {
  counts = λ naming before stop records unrefused.
      let all = all_counted naming stop records (nothing_imported before) in
      let each = all.counts unrefused in
      omega arith;
  grows = λ naming before stop records.
      let all = all_counted naming stop records (nothing_imported before) in
      let more = all.grows in
      let left : length (members (book_after_import naming before stop records).held)
      ≡ many (import_of_records naming before stop records) =
      ap (λ (book : Book). length (members book.held))
      (sym (left_is naming before stop records)) in
      omega arith;
}
