-- How rows check: each comes to what its work does, but for half a ten-thousandth a record.
use Rattle.std.proofs.Common.{◌≡◌, ◌∙◌, ℕ, ◌+◌, ◌*◌, ◌≤◌, List, [], ◌∷◌, length, All, arith, sum_by}
use Rattle.book_model.proofs.Std.{All-head, All-tail, sum_by-cons}
use Rattle.book_model.specs.Words.{Priced, charged_at}
use Rattle.tariff_rules.specs.Price.{half_parts, parts_of, whole_parts}
use Rattle.tariff_rules.specs.Terms.{RatesOf}
use Rattle.book_laws.specs.CheckLaws.{IsPricedBy, RowsCheck, parts_by}

-- the parts of one record, and of others, are those of all
parts_more : (rates : RatesOf) (percent count cpu more_cpu blocks more_blocks : ℕ)
    → parts_by rates percent (count + 1) (more_cpu + cpu) (more_blocks + blocks)
    ≡ parts_of rates more_cpu more_blocks * percent + parts_by rates percent count cpu blocks
parts_more rates percent count cpu more_cpu blocks more_blocks = omega arith

-- prices come to what their work does, but for half a ten-thousandth each
record Check (rates : RatesOf) (percent : ℕ) (priced : List Priced) : Type 0 where
  no_less : parts_by rates percent (length priced) (sum_by (λ one. one.cpu) priced)
      (sum_by (λ one. one.excp) priced)
      ≤ whole_parts * sum_by (λ one. one.amount) priced + half_parts * length priced
  no_more : whole_parts * sum_by (λ one. one.amount) priced
      ≤ parts_by rates percent (length priced) (sum_by (λ one. one.cpu) priced)
      (sum_by (λ one. one.excp) priced) + half_parts * length priced

all_check : (rates : RatesOf) (percent : ℕ) (priced : List Priced)
    → All (IsPricedBy rates percent) priced → Check rates percent priced
all_check rates percent [] all = record { no_less = omega arith; no_more = omega arith }
all_check rates percent (one ∷ others) all =
    let rest = all_check rates percent others (All-tail (IsPricedBy rates percent) one others all) in
    let first = All-head (IsPricedBy rates percent) one others all in
    let cpu = sum_by-cons (λ (one : Priced). one.cpu) one others in
    let blocks = sum_by-cons (λ (one : Priced). one.excp) one others in
    let amount = sum_by-cons (λ (one : Priced). one.amount) one others in
    let count : length (one ∷ others) ≡ length others + 1 = omega arith in
    let parts = (λ i. parts_by rates percent (count i) (cpu i) (blocks i))
    ∙ parts_more rates percent (length others) (sum_by (λ (one : Priced). one.cpu) others) one.cpu
    (sum_by (λ (one : Priced). one.excp) others) one.excp in
    let less = rest.no_less in
    let more = rest.no_more in
    record { no_less = omega arith; no_more = omega arith }

-- the law
pub rows_check : RowsCheck
rows_check rates percent priced key all =
    let found = all_check rates percent (charged_at priced key) all in
    record { no_less = found.no_less; no_more = found.no_more }
