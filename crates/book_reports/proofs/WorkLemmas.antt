-- What was worked in a period: the rows of its steps and of its jobs, of details that are read one
-- after another.
use Rattle.std.proofs.Common.{◌≡◌, ◌∙◌, ℕ, ◌+◌, ◌<◌, ◌^◌, ℤ, Bool, List, length, map, not, refl}
use Rattle.std.proofs.Common.{sym, ap, subst, arith, Option, Result, Ok, Err, All, IfOk, filter}
use Rattle.std.proofs.Common.{sum_by}
use Rattle.std.specs.BTreeMap.{values}
use Rattle.book_model.proofs.Std.{length-map, All-filter, All-map, length-filter_both}
use Rattle.book_model.proofs.Std.{sum_by-filter_both, fold-map}
use Rattle.book_model.specs.declared.bill.WorkRows.{WorkRows}
use Rattle.book_model.specs.declared.row.RowKey.{RowKey}
use Rattle.book_model.specs.Words.{Priced, AreRows, IsDay, details_outcome, is_step, jobs_of}
use Rattle.book_model.specs.Words.{steps_of, work_rows}
use Rattle.book_core.specs.Words.{IsCall, Seen}
use Rattle.book_core.proofs.KeyedRowLemmas.{rows_under_keys}
use Rattle.book_core.proofs.ListLimits.{rows_shown, sum_by-rows_of_le}
use Rattle.book_reports.specs.declared.bill_work.WorkSums.{WorkSums}
use Rattle.book_reports.proofs.Words.{Detail, LedgerFault, Memory, ChargeRow, Folds, map_same}
use Rattle.book_reports.proofs.Words.{by_names, answers, answers_none, both_shown, refused_next}
use Rattle.book_reports.proofs.Words.{shown, then_stays, same_value, work_outcome, work_seen}
use Rattle.book_reports.proofs.Words.{work_shown, closed_through, closed_through_outcome, shown_by}
use Rattle.book_reports.specs.BillWork.{AreWork, IsWorkOf}
use Rattle.book_reports.specs.WorkSums.{AreSumsOf, prices_of}

-- ---- the rows of all

-- a sum over what some details cost and one over what the others do come to that over all
both_sums : (kind : Detail → Bool) (f : Priced → ℕ) (details : List Detail)
    → sum_by f (prices_of (filter kind details))
    + sum_by f (prices_of (filter (λ one. not (kind one)) details))
    ≡ sum_by (λ (detail : Detail). f detail.priced) details
both_sums kind f details =
    let price : Detail → Priced = λ detail. detail.priced in
    let other : Detail → Bool = λ one. not (kind one) in
    let ones = fold-map (λ n one. n + f one) price 0 (filter kind details) in
    let others = fold-map (λ n one. n + f one) price 0 (filter other details) in
    let both = sum_by-filter_both kind other (λ detail. refl)
    (λ (detail : Detail). f detail.priced) details in
    omega (arith, ones, others, both)

-- there are as many of both as details
both_counts : (kind : Detail → Bool) (details : List Detail)
    → length (prices_of (filter kind details))
    + length (prices_of (filter (λ one. not (kind one)) details))
    ≡ length details
both_counts kind details =
    let other : Detail → Bool = λ one. not (kind one) in
    let ones = length-map (filter kind details) (λ (detail : Detail). detail.priced) in
    let others = length-map (filter other details) (λ (detail : Detail). detail.priced) in
    let both = length-filter_both kind other (λ detail. refl) details in
    omega (arith, ones, others, both)

module _ (work : WorkSums) (details : List Detail) (are : AreSumsOf work details) where
  -- what some of them cost is dated on days
  dated : (kind : Detail → Bool) → All (λ (one : Priced). IsDay one.day) (prices_of (filter kind details))
  dated kind =
      All-map (λ (one : Priced). IsDay one.day) (λ (detail : Detail). detail.priced)
      (filter kind details)
      (All-filter kind (λ (detail : Detail). IsDay detail.priced.day) details are.days)

  -- their rows can be shown
  part_shown : (kind : Detail → Bool) → AreRows (work_rows (filter kind details))
  part_shown kind =
      let count = ap (λ sums. sums.count) are.all in
      let cpu = ap (λ sums. sums.cpu) are.all in
      let blocks = ap (λ sums. sums.blocks) are.all in
      let amount = ap (λ sums. sums.amount) are.all in
      rows_shown (prices_of (filter kind details))
      (record {
        cpu = omega (arith, both_sums kind (λ one. one.cpu) details, cpu, are.fit.cpu);
        blocks = omega (arith, both_sums kind (λ one. one.excp) details, blocks, are.fit.blocks);
        amount = omega (arith, both_sums kind (λ one. one.amount) details, amount, are.fit.amount);
      })
      (omega (arith, both_counts kind details, count, are.fit.count)) (dated kind)

  -- and what steps and jobs cost together fits
  small_amount : sum_by (λ row. row.amount) (work_rows (steps_of details))
      + sum_by (λ row. row.amount) (work_rows (jobs_of details)) < 2 ^ 62
  small_amount =
      let amount = ap (λ sums. sums.amount) are.all in
      let steps = sum_by-rows_of_le (λ row. row.amount) (λ one. one.amount)
      (prices_of (steps_of details)) (λ key. refl) in
      let jobs = sum_by-rows_of_le (λ row. row.amount) (λ one. one.amount)
      (prices_of (jobs_of details)) (λ key. refl) in
      let both = both_sums is_step (λ one. one.amount) details in
      omega (arith, both, amount, are.fit.amount, steps, jobs)

  -- so the sums are those of the rows
  pub work_made : (rows : WorkRows) → rows.steps.items ≡ values work.steps
      → rows.jobs.items ≡ values work.jobs → IsWorkOf details rows
  work_made rows steps jobs =
      let of_steps : rows.steps.items ≡ work_rows (steps_of details) =
      steps ∙ ap (map (λ (entry : RowKey × ChargeRow). entry.1)) are.steps
      ∙ rows_under_keys (prices_of (steps_of details)) in
      let of_jobs : rows.jobs.items ≡ work_rows (jobs_of details) =
      jobs ∙ ap (map (λ (entry : RowKey × ChargeRow). entry.1)) are.jobs
      ∙ rows_under_keys (prices_of (jobs_of details)) in
      record {
        steps = of_steps;
        jobs = of_jobs;
        shown = subst (λ steps. AreWork steps rows.jobs.items) (sym of_steps)
            (subst (λ jobs. AreWork (work_rows (steps_of details)) jobs) (sym of_jobs) (record {
              step_rows = part_shown is_step;
              job_rows = part_shown (λ one. not (is_step one));
              amount = small_amount;
            }));
      }

-- ---- what was read

-- so these are the rows of all
work_is : (through : Option ℤ) (details : List Detail) (rows : WorkRows) → IsWorkOf details rows
    → work_seen through details ≡ work_shown (record { through = through; rows = rows })
work_is through details rows is = λ i. record {
  through = through;
  steps = sym is.steps i;
  jobs = sym is.jobs i;
}

module _ (period : ℕ) (centre : Option (List ℕ)) {old mid new : Seen} {through : Option ℤ}
    {result : Result WorkSums LedgerFault}
    (day : IsCall (λ day. day) old mid (Ok through) (closed_through_outcome period))
    (it : Folds (λ detail. detail) mid new
    (λ book. (details_outcome mid.naming period centre book).answer) AreSumsOf result)
  where
    -- the same call by the names that there were
    its_call : IsCall (λ sums. map (λ detail. detail) it.items) mid new result
        (details_outcome old.naming period centre)
    its_call =
        by_names (λ naming book. details_outcome naming period centre book) day.work.naming it.read

    -- the details were refused
    pub work_refused : (fault : LedgerFault) → result ≡ Err fault
        → IsCall work_shown old new (Err fault) (work_outcome old.naming period centre)
    work_refused fault is =
        refused_next (Err fault) refl (λ book. refl) (λ book. refl)
        (λ book known. ap (shown_by (work_seen (closed_through book period))))
        (shown (λ book. refl) day)
        (subst (λ result. IsCall (λ sums. map (λ detail. detail) it.items) mid new result
        (details_outcome old.naming period centre)) is its_call)

    module _ (sums : WorkSums) (is : result ≡ Ok sums) where
      read_call : IsCall (λ sums. map (λ detail. detail) it.items) mid new (Ok sums)
          (details_outcome old.naming period centre)
      read_call =
          subst (λ result. IsCall (λ sums. map (λ detail. detail) it.items) mid new result
          (details_outcome old.naming period centre)) is its_call

      -- there was no memory for their rows
      pub work_stopped : IsCall work_shown old new (Err Memory) (work_outcome old.naming period centre)
      work_stopped =
          answers_none (λ book. refl) (then_stays (λ book. refl) (shown (λ book. refl) day) read_call)

      -- or these are the rows
      pub work_ended : (rows : WorkRows)
          → ((details : List Detail) → AreSumsOf sums details → IsWorkOf details rows)
          → IsCall work_shown old new (Ok (record { through = through; rows = rows }))
          (work_outcome old.naming period centre)
      work_ended rows makes =
          answers _ (λ book. refl)
          (λ book both.
          ap (shown_by (work_seen (closed_through book period))) both.next
          ∙ (λ i. Ok (work_seen (same_value both.first i) (sym (map_same it.items) i)))
          ∙ ap Ok (work_is through it.items rows
          (makes it.items (subst (λ result. IfOk result (λ sums. AreSumsOf sums it.items)) is it.has))))
          (both_shown (λ book. refl) (shown (λ book. refl) day) read_call)
