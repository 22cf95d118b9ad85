-- What a bill charges: its plain lines, what one centre has, and the centres, each in its place.
use Rattle.std.proofs.Common.{◌≡◌, ◌∙◌, ℕ, List, [], ◌∷◌, ◌++◌, map, ap, arith, subst, append-nil}
use Rattle.std.proofs.Common.{append_assoc, get_or, sym, All, fold}
use Rattle.std.specs.BTreeSet.{insert_key}
use Rattle.book_model.proofs.Std.{nat_list_cmp_total, get_or-map, length-map, All-map, sum_by-cons}
use Rattle.book_model.proofs.Std.{sum_by_push, exact_bytes}
use Rattle.book_model.specs.declared.bill.BilledLine.{BilledLine}
use Rattle.book_model.specs.Words.{AreLines, BillSeen, IsDay, by_bytes, members, same_bytes, set_of}
use Rattle.book_model.proofs.Lemmas.{members-empty, members-with, set_of-alike, SumsAlike}
use Rattle.report_texts.proofs.Words.{Line, ChargeRow, charged_amount, FitCharges, plain_lines}
use Rattle.report_texts.specs.AdjustmentLists.{reversed_amount}
use Rattle.report_texts.specs.Charges.{IsBill, all_charges, centres_of, centres_on, charges_of}
use Rattle.report_texts.specs.Charges.{charges_of_centre, charges_on, each_charges, plain_credits}
use Rattle.report_texts.specs.declared.charges.CentreCharges.{CentreCharges}
use Rattle.report_texts.specs.declared.charges.CreditAmount.{CreditAmount}
use Rattle.report_texts.proofs.AmountLemmas.{charged_within, credited_within, debited_within}
use Rattle.report_texts.proofs.AmountLemmas.{reversed_within}
use Rattle.report_texts.proofs.CentreLemmas.{filter_most}

-- the records of a bill's lines are dated on days, where those of the plain lines are
pub billed_days : (billed : List BilledLine) → AreLines (plain_lines billed)
    → All (λ (one : BilledLine). IsDay one.line.priced.day) billed
billed_days billed are k one inside =
    let line_of : BilledLine → Line = λ one. one.line in
    subst (λ (line : Line). IsDay line.priced.day)
    (get_or-map line_of billed k one one.line inside)
    (are.days k one.line (simp length-map inside))

-- what a bill that can be shown charges fits
pub bill_fits : (bill : BillSeen) → IsBill bill → FitCharges (all_charges bill)
bill_fits bill is =
    let late = charged_within (plain_lines bill.lines) in
    let back = reversed_within (plain_lines bill.lines) in
    let credited = credited_within (plain_credits bill.credits) in
    let debited = debited_within (plain_credits bill.credits) in
    record {
      charged = omega (arith, is.amount, is.lines.amount, is.credits, late, debited);
      taken = omega (arith, is.lines.amount, is.credits, back, credited);
    }

-- what one centre is charged fits, where all does
centre_fits : (centre : List ℕ) (steps jobs : List ChargeRow) (lines : List Line)
    (credits : List CreditAmount) → FitCharges (charges_of steps jobs lines credits)
    → FitCharges (charges_of_centre centre steps jobs lines credits)
centre_fits centre steps jobs lines credits fits =
    let own_row = λ (row : ChargeRow). same_bytes row.centre centre in
    let own_line = λ (line : Line). same_bytes line.priced.centre centre in
    let own_credit = λ (credit : CreditAmount). same_bytes credit.centre centre in
    let own_steps = filter_most own_row (λ row. row.amount) steps in
    let own_jobs = filter_most own_row (λ row. row.amount) jobs in
    let own_late = filter_most own_line charged_amount lines in
    let own_back = filter_most own_line reversed_amount lines in
    let own_debits = filter_most own_credit (λ credit. credit.debited) credits in
    let own_credits = filter_most own_credit (λ credit. credit.credited) credits in
    record { charged = omega (arith, fits.charged); taken = omega (arith, fits.taken) }

-- so what each centre of such a bill is charged fits
pub each_fits : (bill : BillSeen) → IsBill bill
    → All (λ (one : CentreCharges). FitCharges one.charges) (each_charges bill)
each_fits bill is =
    let centres = centres_on bill in
    All-map (λ (one : CentreCharges). FitCharges one.charges) (charges_on bill) centres
    (λ k d within. centre_fits (get_or centres k d) bill.steps bill.jobs (plain_lines bill.lines)
    (plain_credits bill.credits) (bill_fits bill is))

-- one more name joins the others in its place
pub one_more : (names : List (List ℕ)) (name : List ℕ)
    → members (set_of by_bytes (names ++ name ∷ []))
    ≡ insert_key by_bytes (members (set_of by_bytes names)) name
one_more names name =
    let alike : SumsAlike (names ++ name ∷ []) (name ∷ names) = record {
      sums = λ f.
          let last = sum_by_push f names name in
          let first = sum_by-cons f name names in
          omega arith;
    } in
    ap members (set_of-alike nat_list_cmp_total exact_bytes alike)
    ∙ members-with nat_list_cmp_total (set_of by_bytes names) name

-- names in order, with the names of some elements in their places
abbrev pub joined : {X : Type 0} → (X → List ℕ) → List (List ℕ) → List X → List (List ℕ)
joined name keys xs = fold (λ all x. insert_key by_bytes all (name x)) keys xs

-- so the names of some are joined by those of others
joined_members : {X : Type 0} (name : X → List ℕ) (names : List (List ℕ)) (xs : List X)
    → joined name (members (set_of by_bytes names)) xs
    ≡ members (set_of by_bytes (names ++ map name xs))
joined_members name names [] =
    ap (λ all. members (set_of by_bytes all)) (sym (append-nil names))
joined_members name names (x ∷ xs) =
    ap (λ keys. joined name keys xs) (sym (one_more names (name x)))
    ∙ joined_members name (names ++ name x ∷ []) xs
    ∙ ap (λ all. members (set_of by_bytes all)) (append_assoc names (name x ∷ []) (map name xs))

-- the centres of steps, jobs, lines and credits, joined in this order
pub centres_joined : (steps jobs : List ChargeRow) (lines : List Line) (credits : List CreditAmount)
    (none by_steps by_jobs by_lines all : List (List ℕ)) → none ≡ []
    → by_steps ≡ joined (λ (row : ChargeRow). row.centre) none steps
    → by_jobs ≡ joined (λ (row : ChargeRow). row.centre) by_steps jobs
    → by_lines ≡ joined (λ (line : Line). line.priced.centre) by_jobs lines
    → all ≡ joined (λ (credit : CreditAmount). credit.centre) by_lines credits
    → all ≡ centres_of steps jobs lines credits
centres_joined steps jobs lines credits none by_steps by_jobs by_lines all empty of_steps of_jobs
    of_lines of_credits =
    let row_centre : ChargeRow → List ℕ = λ row. row.centre in
    let line_centre : Line → List ℕ = λ line. line.priced.centre in
    let credit_centre : CreditAmount → List ℕ = λ credit. credit.centre in
    let first = of_steps
    ∙ ap (λ keys. joined row_centre keys steps) (empty ∙ sym (members-empty by_bytes))
    ∙ joined_members row_centre [] steps in
    let second = of_jobs ∙ ap (λ keys. joined row_centre keys jobs) first
    ∙ joined_members row_centre (map row_centre steps) jobs in
    let third = of_lines ∙ ap (λ keys. joined line_centre keys lines) second
    ∙ joined_members line_centre (map row_centre steps ++ map row_centre jobs) lines in
    of_credits ∙ ap (λ keys. joined credit_centre keys credits) third
    ∙ joined_members credit_centre
    (map row_centre steps ++ map row_centre jobs ++ map line_centre lines) credits
