-- Bills split what statements show, and add up to the office's.
use Rattle.std.proofs.Common.{◌≡◌, ℕ, ◌+◌, List, [], ◌∷◌, ◌++◌, refl, sym, ap, ◌∙◌, subst, map}
use Rattle.std.proofs.Common.{true, Bool, not, ◌&&◌, ◌||◌, Option, Some, None, get_or, arith, All}
use Rattle.std.proofs.Common.{filter, sum_by, pos, ◌+ℤ◌, ◌-ℤ◌}
use Rattle.book_model.proofs.Std.{list_any, ints, sum_by-filter_both, fold-map, list_any-append}
use Rattle.book_model.proofs.Std.{sum_by-cons, get_or_from_slice_get, slice_get_within}
use Rattle.book_model.specs.declared.bill.BilledLine.{BilledLine}
use Rattle.book_model.specs.declared.detail.Detail.{Detail}
use Rattle.book_model.specs.Words.{Priced, BillSeen, Book, IsSound, Naming, Period, all_periods}
use Rattle.book_model.specs.Words.{bill_of, billed_line, billed_lines, charged_at, details_asked}
use Rattle.book_model.specs.Words.{details_of, details_of_centre, is_step, jobs_of, line_alone}
use Rattle.book_model.specs.Words.{lines_of, period_of, row_at, rows_for, same_bytes, steps_of}
use Rattle.book_model.specs.Words.{work_rows}
use Rattle.book_model.proofs.Lemmas.{filter-agree, filter-filter, filter-map, list_any-map}
use Rattle.book_model.proofs.Lemmas.{sum_by-plus, length-sum_by}
use Rattle.book_model.proofs.RecordSets.{tests_swap}
use Rattle.report_texts.specs.AdjustmentLists.{charged_amount, reversed_amount}
use Rattle.report_texts.specs.Centres.{credits_of_centre, lines_of_centre}
use Rattle.report_texts.specs.Charges.{all_charges, centres_of, centres_on, charged_in, charges_of}
use Rattle.report_texts.specs.Charges.{charges_of_centre, charges_on, plain_credit, plain_credits}
use Rattle.report_texts.specs.Charges.{plain_lines, taken_in}
use Rattle.report_texts.specs.declared.charges.Charges.{Charges}
use Rattle.report_texts.specs.declared.charges.CreditAmount.{CreditAmount}
use Rattle.book_laws.specs.BillLaws.{AddUpTo, BillsAddUp, BillsSplitStatements, Splits, lines_asked}
use Rattle.book_laws.specs.BillLaws.{owed_for, owed_for_all, rows_asked}
use Rattle.book_laws.specs.DetailLaws.{AddUp}
use Rattle.book_laws.proofs.CentreLemmas.{by_centres}
use Rattle.book_laws.proofs.DetailLemmas.{details_add_up}
use Rattle.book_laws.proofs.RowSums.{sum_by-centre_rows, sum_by-rows}
use Rattle.book_laws.proofs.Words.{or-true, Line, ChargeRow, RowKey, rows_of_centre, at_place}

-- what holds of all periods holds of one that the book has under a number
pub of_period : (P : Period → Type 0) (naming : Naming) (book : Book) → IsSound naming book
    → All P (all_periods book) → (number : ℕ) (period : Period)
    → period_of book number ≡ Some period → P period
of_period P naming book sound all number period is =
    let place = at_place naming book sound number period is in
    let within = slice_get_within (all_periods book) place.0 period place.2 in
    subst P (get_or_from_slice_get (all_periods book) place.0 period period place.2)
    (all place.0 period within)

abbrev priced_of : Detail → Priced
priced_of detail = detail.priced

-- what rows sum and what the prices sum that they are rows of
module _ (g : ChargeRow → ℕ) (f : Priced → ℕ)
    (each : (priced : List Priced) (key : RowKey)
    → g (row_at priced key) ≡ sum_by f (charged_at priced key)) where
  -- the rows of details sum what these do,
  of_rows : (details : List Detail)
      → sum_by g (work_rows details) ≡ sum_by (λ detail. f detail.priced) details
  of_rows details =
      sum_by-rows g f (map priced_of details) (each (map priced_of details))
      ∙ fold-map (λ n one. n + f one) priced_of 0 details

  -- and those of a centre what its details do
  of_centre_rows : (centre : List ℕ) (details : List Detail)
      → sum_by g (rows_of_centre centre (work_rows details))
      ≡ sum_by (λ detail. f detail.priced) (details_of_centre centre details)
  of_centre_rows centre details =
      sum_by-centre_rows g f centre (map priced_of details) (each (map priced_of details))
      ∙ ap (sum_by f) (filter-map (λ (one : Priced). same_bytes one.centre centre) priced_of details)
      ∙ fold-map (λ n one. n + f one) priced_of 0 (details_of_centre centre details)

  -- so the rows that are asked for sum what the details do that are
  of_rows_asked : (centre : Option (List ℕ)) (details : List Detail)
      → sum_by g (rows_asked centre (work_rows details))
      ≡ sum_by (λ detail. f detail.priced) (details_asked centre details)
  of_rows_asked None details = of_rows details
  of_rows_asked (Some centre) details = of_centre_rows centre details

  -- and so do steps and jobs together
  split : (centre : Option (List ℕ)) (details : List Detail)
      → sum_by g (work_rows (steps_of (details_asked centre details)))
      + sum_by g (work_rows (jobs_of (details_asked centre details)))
      ≡ sum_by g (rows_asked centre (work_rows details))
  split centre details =
      let own : List Detail = details_asked centre details in
      let steps = of_rows (steps_of own) in
      let jobs = of_rows (jobs_of own) in
      (λ i. steps i + jobs i)
      ∙ sum_by-filter_both is_step (λ (detail : Detail). not (is_step detail)) (λ detail. refl)
      (λ detail. f detail.priced) own
      ∙ sym (of_rows_asked centre details)

-- lines with what else is known of them are these lines
lines_again : (make : Line → BilledLine) → ((line : Line) → (make line).line ≡ line)
    → (lines : List Line) → plain_lines (map make lines) ≡ lines
lines_again make same [] = refl
lines_again make same (line ∷ lines) =
    let rest = lines_again make same lines in
    λ i. same line i ∷ rest i

lines_billed : (naming : Naming) (book : Book) (number : ℕ) (centre : Option (List ℕ))
    (lines : List Line)
    → plain_lines (billed_lines naming book number centre lines) ≡ lines_asked centre lines
lines_billed naming book number None lines =
    lines_again line_alone (λ line. refl) lines
lines_billed naming book number (Some centre) lines =
    lines_again (billed_line naming book number) (λ line. refl) (lines_of_centre centre lines)

-- the law
pub bills_split_statements : BillsSplitStatements
bills_split_statements naming book number period centre sound is =
    let details : List Detail = details_of naming book.rulings period in
    let add_up : AddUp details (rows_for book.rulings period.counted) =
    of_period (λ period. AddUp (details_of naming book.rulings period)
    (rows_for book.rulings period.counted))
    naming book sound (details_add_up naming book sound) number period is in
    subst (λ rows. Splits (bill_of naming book number centre period) (rows_asked centre rows)
    (lines_asked centre (lines_of naming book.rulings period)))
    add_up.recomputed
    (record {
      count = split (λ row. row.count) (λ one. 1)
          (λ priced key. length-sum_by (charged_at priced key)) centre details;
      cpu = split (λ row. row.cpu) (λ one. one.cpu) (λ priced key. refl) centre details;
      blocks = split (λ row. row.blocks) (λ one. one.excp) (λ priced key. refl) centre details;
      amount = split (λ row. row.amount) (λ one. one.amount) (λ priced key. refl) centre details;
      adjustments = lines_billed naming book number centre (lines_of naming book.rulings period);
    })

filters_swap : {X : Type 0} (p q : X → Bool) (xs : List X)
    → filter p (filter q xs) ≡ filter q (filter p xs)
filters_swap p q xs =
    filter-filter p q xs
    ∙ filter-agree (λ x. p x && q x) (λ x. q x && p x) xs
    (λ k d within. tests_swap (p (get_or xs k d)) (q (get_or xs k d)))
    ∙ sym (filter-filter q p xs)

-- one of several lists has it, where the first has, or the second
in_first : {X : Type 0} (p : X → Bool) (xs ys : List X) → list_any p xs ≡ true
    → list_any p (xs ++ ys) ≡ true
in_first p xs ys among = list_any-append p xs ys ∙ ap (λ b. b || list_any p ys) among

in_second : {X : Type 0} (p : X → Bool) (xs ys : List X) → list_any p ys ≡ true
    → list_any p (xs ++ ys) ≡ true
in_second p xs ys among =
    list_any-append p xs ys ∙ ap (λ b. list_any p xs || b) among ∙ or-true (list_any p xs)

-- what the rows of some details amount to at a centre is what those of its details do
rows_there : (kind : Detail → Bool) (centre : List ℕ) (details : List Detail)
    → sum_by (λ row. row.amount) (work_rows (filter kind (details_of_centre centre details)))
    ≡ sum_by (λ row. row.amount) (rows_of_centre centre (work_rows (filter kind details)))
rows_there kind centre details =
    let cost : Detail → ℕ = λ detail. detail.priced.amount in
    of_rows (λ row. row.amount) (λ one. one.amount) (λ priced key. refl)
    (filter kind (details_of_centre centre details))
    ∙ ap (sum_by cost)
    (filters_swap kind (λ (detail : Detail). same_bytes detail.priced.centre centre) details)
    ∙ sym (of_centre_rows (λ row. row.amount) (λ one. one.amount) (λ priced key. refl) centre
    (filter kind details))

-- ---- what all centres are charged

-- what is owed for one and for others
pub one_more_owed : (p q x y : ℕ)
    → (pos p -ℤ pos q) +ℤ (pos x -ℤ pos y) ≡ pos (p + x) -ℤ pos (q + y)
one_more_owed p q x y = omega (arith, ints)

owed_by_sums : (shares : List Charges)
    → owed_for_all shares ≡ pos (sum_by charged_in shares) -ℤ pos (sum_by taken_in shares)
owed_by_sums [] = refl
owed_by_sums (share ∷ shares) =
    ap (λ rest. owed_for share +ℤ rest) (owed_by_sums shares)
    ∙ one_more_owed (charged_in share) (taken_in share) (sum_by charged_in shares)
    (sum_by taken_in shares)
    ∙ (λ i. pos (sym (sum_by-cons charged_in share shares) i)
    -ℤ pos (sym (sum_by-cons taken_in share shares) i))

charged_in_four : (shares : List Charges)
    → sum_by charged_in shares
    ≡ sum_by (λ share. share.steps) shares + sum_by (λ share. share.jobs) shares
    + sum_by (λ share. share.late) shares + sum_by (λ share. share.debited) shares
charged_in_four shares =
    let late : Charges → ℕ = λ share. share.late in
    let debited : Charges → ℕ = λ share. share.debited in
    sum_by-plus (λ (share : Charges). share.steps + share.jobs + share.late) debited shares
    ∙ ap (λ n. n + sum_by debited shares)
    (sum_by-plus (λ (share : Charges). share.steps + share.jobs) late shares
    ∙ ap (λ n. n + sum_by late shares)
    (sum_by-plus (λ (share : Charges). share.steps) (λ (share : Charges). share.jobs) shares))

taken_in_two : (shares : List Charges)
    → sum_by taken_in shares
    ≡ sum_by (λ share. share.reversed) shares + sum_by (λ share. share.credited) shares
taken_in_two shares =
    sum_by-plus (λ (share : Charges). share.reversed) (λ (share : Charges). share.credited) shares

module _ (steps jobs : List ChargeRow) (lines : List Line) (credits : List CreditAmount) where
  abbrev of_steps : List (List ℕ)
  of_steps = map (λ (row : ChargeRow). row.centre) steps

  abbrev of_jobs : List (List ℕ)
  of_jobs = map (λ (row : ChargeRow). row.centre) jobs

  abbrev of_lines : List (List ℕ)
  of_lines = map (λ (line : Line). line.priced.centre) lines

  abbrev of_credits : List (List ℕ)
  of_credits = map (λ (credit : CreditAmount). credit.centre) credits

  -- the names of the centres, as the rows, the lines and the credits have them
  abbrev names : List (List ℕ)
  names = of_steps ++ of_jobs ++ of_lines ++ of_credits

  abbrev share_of : List ℕ → Charges
  share_of centre = charges_of_centre centre steps jobs lines credits

  abbrev shares_of : List Charges
  shares_of = map share_of (centres_of steps jobs lines credits)

  -- a sum over the shares is one over the centres
  over_centres : (g : Charges → ℕ)
      → sum_by g shares_of
      ≡ sum_by (λ centre. g (share_of centre)) (centres_of steps jobs lines credits)
  over_centres g =
      fold-map (λ n share. n + g share) share_of 0 (centres_of steps jobs lines credits)

  all_steps : sum_by (λ share. share.steps) shares_of ≡ sum_by (λ row. row.amount) steps
  all_steps =
      over_centres (λ (share : Charges). share.steps)
      ∙ by_centres names (λ (row : ChargeRow). row.centre) (λ row. row.amount) steps (λ row among.
      in_first (same_bytes row.centre) (of_steps ++ of_jobs ++ of_lines) of_credits
      (in_first (same_bytes row.centre) (of_steps ++ of_jobs) of_lines
      (in_first (same_bytes row.centre) of_steps of_jobs
      (list_any-map (same_bytes row.centre) (λ (row : ChargeRow). row.centre) steps ∙ among))))

  all_jobs : sum_by (λ share. share.jobs) shares_of ≡ sum_by (λ row. row.amount) jobs
  all_jobs =
      over_centres (λ (share : Charges). share.jobs)
      ∙ by_centres names (λ (row : ChargeRow). row.centre) (λ row. row.amount) jobs (λ row among.
      in_first (same_bytes row.centre) (of_steps ++ of_jobs ++ of_lines) of_credits
      (in_first (same_bytes row.centre) (of_steps ++ of_jobs) of_lines
      (in_second (same_bytes row.centre) of_steps of_jobs
      (list_any-map (same_bytes row.centre) (λ (row : ChargeRow). row.centre) jobs ∙ among))))

  all_lines : (g : Line → ℕ)
      → sum_by (λ centre. sum_by g (lines_of_centre centre lines))
      (centres_of steps jobs lines credits)
      ≡ sum_by g lines
  all_lines g =
      by_centres names (λ (line : Line). line.priced.centre) g lines (λ line among.
      in_first (same_bytes line.priced.centre) (of_steps ++ of_jobs ++ of_lines) of_credits
      (in_second (same_bytes line.priced.centre) (of_steps ++ of_jobs) of_lines
      (list_any-map (same_bytes line.priced.centre) (λ (line : Line). line.priced.centre) lines
      ∙ among)))

  all_credits : (g : CreditAmount → ℕ)
      → sum_by (λ centre. sum_by g (credits_of_centre centre credits))
      (centres_of steps jobs lines credits)
      ≡ sum_by g credits
  all_credits g =
      by_centres names (λ (credit : CreditAmount). credit.centre) g credits (λ credit among.
      in_second (same_bytes credit.centre) (of_steps ++ of_jobs ++ of_lines) of_credits
      (list_any-map (same_bytes credit.centre) (λ (credit : CreditAmount). credit.centre) credits
      ∙ among))

  shares_add_up : AddUpTo shares_of (charges_of steps jobs lines credits)
  shares_add_up =
      let late = over_centres (λ (share : Charges). share.late) ∙ all_lines charged_amount in
      let back = over_centres (λ (share : Charges). share.reversed) ∙ all_lines reversed_amount in
      let credited = over_centres (λ (share : Charges). share.credited)
      ∙ all_credits (λ credit. credit.credited) in
      let debited = over_centres (λ (share : Charges). share.debited)
      ∙ all_credits (λ credit. credit.debited) in
      record {
        steps = all_steps;
        jobs = all_jobs;
        late = late;
        reversed = back;
        credited = credited;
        debited = debited;
        owed =
            owed_by_sums shares_of
            ∙ (λ i. pos (charged_in_four shares_of i) -ℤ pos (taken_in_two shares_of i))
            ∙ (λ i. pos (all_steps i + all_jobs i + late i + debited i)
            -ℤ pos (back i + credited i));
      }

-- the law
pub bills_add_up : BillsAddUp
bills_add_up naming book number period =
    let details : List Detail = details_of naming book.rulings period in
    let lines : List Line = lines_of naming book.rulings period in
    let office : BillSeen = bill_of naming book number None period in
    let bill_for : List ℕ → BillSeen =
    λ centre. bill_of naming book number (Some centre) period in
    let each : (centre : List ℕ) → all_charges (bill_for centre)
    ≡ (charges_on office centre).charges =
    λ centre.
    let own : plain_lines (bill_for centre).lines ≡ lines_of_centre centre (plain_lines office.lines) =
    lines_billed naming book number (Some centre) lines
    ∙ ap (lines_of_centre centre) (sym (lines_billed naming book number None lines)) in
    let steps = rows_there is_step centre details in
    let jobs = rows_there (λ detail. not (is_step detail)) centre details in
    let credits : plain_credits (bill_for centre).credits
    ≡ credits_of_centre centre (plain_credits office.credits) =
    sym (filter-map (λ (credit : CreditAmount). same_bytes credit.centre centre) plain_credit
    office.credits) in
    λ i. record {
      steps = steps i;
      jobs = jobs i;
      late = sum_by charged_amount (own i);
      reversed = sum_by reversed_amount (own i);
      credited = sum_by (λ credit. credit.credited) (credits i);
      debited = sum_by (λ credit. credit.debited) (credits i);
    } in
    record {
      each = each;
      all =
          subst (λ shares. AddUpTo shares (all_charges office))
          (λ i. map (λ (centre : List ℕ). sym (each centre) i) (centres_on office))
          (shares_add_up office.steps office.jobs (plain_lines office.lines)
          (plain_credits office.credits));
    }
