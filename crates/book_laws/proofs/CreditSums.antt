-- The credits of the centres add up to those of the office, and are taken off what is owed.
use Rattle.std.proofs.Common.{◌≡◌, ℕ, suc, ◌+◌, List, [], ◌∷◌, refl, sym, ap, ◌∙◌, true, false}
use Rattle.std.proofs.Common.{true≢false, cond, ◌||◌, Bool, filter, arith, ℤ, pos, negsuc, ◌+ℤ◌}
use Rattle.std.proofs.Common.{◌-ℤ◌, int_lt, if◌then◌else◌, sum_by, unsigned_abs}
use Rattle.book_model.proofs.Std.{list_any, ints, exact_bytes, tells_apart, All-head, All-tail}
use Rattle.book_model.proofs.Std.{sum_by-cons}
use Rattle.book_model.specs.Words.{Credit, same_bytes}
use Rattle.book_model.proofs.Lemmas.{same_bytes-by_cmp}
use Rattle.report_texts.specs.Charges.{all_charges, plain_credit, plain_credits}
use Rattle.report_texts.specs.declared.charges.CreditAmount.{CreditAmount}
use Rattle.book_laws.specs.CreditAmounts.{AreApart, CreditsAddUp, CreditsAreTakenOff, credited}
use Rattle.book_laws.specs.CreditAmounts.{credited_over}

-- a credit of no centre of a list adds nothing to what these are credited
adds_nothing : (credit : Credit) (credits : List Credit) (centres : List (List ℕ))
    → list_any (same_bytes credit.centre) centres ≡ false
    → credited_over centres (credit ∷ credits) ≡ credited_over centres credits
adds_nothing credit credits [] none = refl
adds_nothing credit credits (centre ∷ centres) none =
    let own : List Credit = filter (λ (one : Credit). same_bytes one.centre centre) credits in
    elim (same_bytes credit.centre centre) as (λ b.
    (b || list_any (same_bytes credit.centre) centres) ≡ false
    → (credited (cond b (credit ∷ own) own) +ℤ credited_over centres (credit ∷ credits))
    ≡ (credited own +ℤ credited_over centres credits)) [
      | true ↦ λ none. absurd (true≢false none)
      | false ↦ λ none. ap (λ rest. credited own +ℤ rest) (adds_nothing credit credits centres none)
    ] none

-- a credit of one of them adds its amount once
adds_once : (credit : Credit) (credits : List Credit) (centres : List (List ℕ)) → AreApart centres
    → list_any (same_bytes credit.centre) centres ≡ true
    → credited_over centres (credit ∷ credits)
    ≡ (credit.amount +ℤ credited_over centres credits)
adds_once credit credits [] apart some = absurd (true≢false (sym some))
adds_once credit credits (centre ∷ centres) apart some =
    let own : List Credit = filter (λ (one : Credit). same_bytes one.centre centre) credits in
    let more : ℤ = credited_over centres credits in
    let with_it : ℤ = credited_over centres (credit ∷ credits) in
    elim (same_bytes credit.centre centre) as (λ b. same_bytes credit.centre centre ≡ b
    → (b || list_any (same_bytes credit.centre) centres) ≡ true
    → (credited (cond b (credit ∷ own) own) +ℤ with_it)
    ≡ (credit.amount +ℤ (credited own +ℤ more))) [
      | true ↦ λ same some.
          let it : credit.centre ≡ centre = tells_apart exact_bytes credit.centre centre
          (sym (λ i. same_bytes-by_cmp i credit.centre centre) ∙ same) in
          let none = ap (λ c. list_any (same_bytes c) centres) it ∙ apart.0 in
          let rest : with_it ≡ more = adds_nothing credit credits centres none in
          omega (arith, ints, rest)
      | false ↦ λ differ some.
          let rest : with_it ≡ (credit.amount +ℤ more) =
          adds_once credit credits centres apart.1 some in
          omega (arith, ints, rest)
    ] refl some

-- no credit comes to nothing over any centres
none_over : (centres : List (List ℕ)) → credited_over centres [] ≡ pos 0
none_over [] = refl
none_over (centre ∷ centres) = ap (λ rest. pos 0 +ℤ rest) (none_over centres)

-- the law
pub credits_add_up : CreditsAddUp
credits_add_up centres [] apart all = none_over centres
credits_add_up centres (credit ∷ credits) apart all =
    let known : Credit → Bool = λ one. list_any (same_bytes one.centre) centres in
    adds_once credit credits centres apart
    (All-head (λ (one : Credit). known one ≡ true) credit credits all)
    ∙ ap (λ rest. credit.amount +ℤ rest)
    (credits_add_up centres credits apart
    (All-tail (λ (one : Credit). known one ≡ true) credit credits all))

-- ---- what is owed

abbrev credited_by : CreditAmount → ℕ
credited_by credit = credit.credited

abbrev debited_by : CreditAmount → ℕ
debited_by credit = credit.debited

-- a number that is not below 0, and one that is
not_below : (n : ℕ) → int_lt (pos n) (pos 0) ≡ false
not_below n = grind (arith, ints)

is_below : (n : ℕ) → int_lt (negsuc n) (pos 0) ≡ true
is_below n = grind (arith, ints)

-- one credit more, whatever its sign
one_credit : (amount : ℤ) (a b : ℕ) (others : ℤ) → (pos a -ℤ pos b) ≡ others
    → (pos ((if int_lt amount (pos 0) then 0 else unsigned_abs amount) + a)
    -ℤ pos ((if int_lt amount (pos 0) then unsigned_abs amount else 0) + b))
    ≡ (amount +ℤ others)
one_credit (pos n) a b others is =
    let plus : (pos (n + a) -ℤ pos (0 + b)) ≡ (pos n +ℤ others) = omega (arith, ints, is) in
    ap (λ below. pos ((if below then 0 else n) + a) -ℤ pos ((if below then n else 0) + b))
    (not_below n)
    ∙ plus
one_credit (negsuc n) a b others is =
    let less : (pos (0 + a) -ℤ pos (suc n + b)) ≡ (negsuc n +ℤ others) = omega (arith, ints, is) in
    ap (λ below. pos ((if below then 0 else suc n) + a) -ℤ pos ((if below then suc n else 0) + b))
    (is_below n)
    ∙ less

-- what credits take off, less what those below 0 add, is what they come to
both_sides : (credits : List Credit)
    → (pos (sum_by credited_by (plain_credits credits))
    -ℤ pos (sum_by debited_by (plain_credits credits)))
    ≡ credited credits
both_sides [] = refl
both_sides (credit ∷ others) =
    let rest = plain_credits others in
    (λ i. pos (sum_by-cons credited_by (plain_credit credit) rest i)
    -ℤ pos (sum_by-cons debited_by (plain_credit credit) rest i))
    ∙ one_credit credit.amount (sum_by credited_by rest) (sum_by debited_by rest) (credited others)
    (both_sides others)

-- so they are taken off
taken_off : (charged reversed a b : ℕ) (all : ℤ) → (pos a -ℤ pos b) ≡ all
    → (pos (charged + b) -ℤ pos (reversed + a)) ≡ ((pos charged -ℤ pos reversed) -ℤ all)
taken_off charged reversed a b all is = omega (arith, ints, is)

-- the law
pub credits_are_taken_off : CreditsAreTakenOff
credits_are_taken_off bill =
    let charges = all_charges bill in
    taken_off (charges.steps + charges.jobs + charges.late) charges.reversed charges.credited
    charges.debited (credited bill.credits) (both_sides bill.credits)
