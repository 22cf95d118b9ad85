-- The coverage of a period, of calls that show one book.
use Rattle.std.proofs.Common.{◌≡◌, ◌∙◌, ℕ, ◌-◌, ℤ, map, refl, sym, ap, subst, Option, Result}
use Rattle.std.proofs.Common.{Ok, Err, IfOk, IsErrAnd}
use Rattle.book_model.specs.Words.{Book, Naming, no_event}
use Rattle.book_core.specs.Words.{IsCall, Seen}
use Rattle.book_reports.specs.declared.coverage_sums.CoverageSums.{CoverageSums}
use Rattle.book_reports.specs.declared.period_days.PeriodDays.{PeriodDays}
use Rattle.book_reports.specs.Coverage.{around_outcome, closes_around}
use Rattle.book_reports.proofs.Words.{LedgerFault, Memory, Folds, shown_by, map_same, by_names}
use Rattle.book_reports.proofs.Words.{answers, answers_none, both_shown, refused_next, shown}
use Rattle.book_reports.proofs.Words.{then_stays, same_value, IsCoverageOf, SystemDetails}
use Rattle.book_reports.proofs.Words.{closed_through, closed_through_outcome}
use Rattle.book_reports.specs.SystemDetails.{system_details}

-- ---- the closes around a period

module _ (period earlier : ℕ) {old mid new : Seen} {before : Option ℤ} (is : earlier ≡ period - 1)
    (first : IsCall (λ day. day) old mid (Ok before) (closed_through_outcome earlier))
  where
    -- the second day was not answered
    pub around_refused : {fault : LedgerFault} (result : Result PeriodDays LedgerFault)
        → IsErrAnd result (λ given. given ≡ fault)
        → IsCall (λ day. day) mid new (Err fault) (closed_through_outcome period)
        → IsCall (λ days. days) old new result (around_outcome period)
    around_refused result passed next =
        refused_next result passed (λ book. refl) (λ book. refl) (λ book known told. cc)
        (shown (λ book. refl) first) next

    -- or these are both
    pub around_read : (through : Option ℤ)
        → IsCall (λ day. day) mid new (Ok through) (closed_through_outcome period)
        → IsCall (λ days. days) old new (Ok (record { before = before; through = through }))
        (around_outcome period)
    around_read through next =
        answers _ (λ book. refl)
        (λ book both.
        let days : Option ℤ → Option ℤ → PeriodDays =
        λ before through. record { before = before; through = through } in
        let early = ap (closed_through book) (sym is) ∙ same_value both.first in
        let late = same_value both.next in
        λ i. Ok (days (early i) (late i)))
        (both_shown (λ book. refl) (shown (λ book. refl) first) next)

-- ---- the coverage, or what else the days of a period and its records make

module _ {A : Type 0} (by : PeriodDays → SystemDetails → A) (period : ℕ) {old mid new : Seen}
    {days : PeriodDays} {result : Result CoverageSums LedgerFault}
    (first : IsCall (λ days. days) old mid (Ok days) (around_outcome period))
    (it : Folds (λ one. one) mid new (λ book. system_details mid.naming period book) IsCoverageOf
    result)
  where
    -- what a book answers to it
    abbrev made_answer : Naming → Book → Result A LedgerFault
    made_answer naming book =
        shown_by (by (closes_around period book)) (system_details naming period book)

    -- the same call by the names that there were
    its_call : IsCall (λ sums. map (λ one. one) it.items) mid new result
        (λ book. no_event (system_details old.naming period book))
    its_call =
        by_names (λ naming book. no_event (system_details naming period book)) first.work.naming
        it.read

    -- the records were refused
    pub coverage_refused : {T : Type 0} (show : T → A) (fault : LedgerFault) → result ≡ Err fault
        → IsCall show old new (Err fault) (λ book. no_event (made_answer old.naming book))
    coverage_refused show fault is =
        refused_next (Err fault) refl (λ book. refl) (λ book. refl)
        (λ book known. ap (shown_by (by (closes_around period book))))
        (shown (λ book. refl) first)
        (subst (λ result. IsCall (λ sums. map (λ one. one) it.items) mid new result
        (λ book. no_event (system_details old.naming period book))) is its_call)

    module _ (sums : CoverageSums) (is : result ≡ Ok sums) where
      read_call : IsCall (λ sums. map (λ one. one) it.items) mid new (Ok sums)
          (λ book. no_event (system_details old.naming period book))
      read_call =
          subst (λ result. IsCall (λ sums. map (λ one. one) it.items) mid new result
          (λ book. no_event (system_details old.naming period book))) is its_call

      -- these records were read, and the sums are theirs
      pub sums_are : IsCoverageOf sums it.items
      sums_are = subst (λ result. IfOk result (λ sums. IsCoverageOf sums it.items)) is it.has

      -- there was no memory for its text
      pub coverage_stopped : {T : Type 0} (show : T → A)
          → IsCall show old new (Err Memory) (λ book. no_event (made_answer old.naming book))
      coverage_stopped show =
          answers_none (λ book. refl)
          (then_stays (λ book. refl) (shown (λ book. refl) first) read_call)

      -- or this is its text
      pub coverage_made : {T : Type 0} (show : T → A) (text : T)
          → ((details : SystemDetails) → IsCoverageOf sums details → show text ≡ by days details)
          → IsCall show old new (Ok text) (λ book. no_event (made_answer old.naming book))
      coverage_made show text makes =
          answers text (λ book. refl)
          (λ book both.
          ap (shown_by (by (closes_around period book))) both.next
          ∙ (λ i. Ok (by (same_value both.first i) (sym (map_same it.items) i)))
          ∙ ap Ok (sym (makes it.items sums_are)))
          (both_shown (λ book. refl) (shown (λ book. refl) first) read_call)
