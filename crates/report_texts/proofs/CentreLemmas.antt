-- What one centre has of a period can be shown, where all that the period has can.
use Rattle.std.proofs.Common.{◌≡◌, ◌+◌, ◌<◌, ◌≤◌, ◌^◌, ℕ, Bool, List, arith, refl, filter, not}
use Rattle.std.proofs.Common.{sum_by}
use Rattle.book_model.proofs.Std.{All-filter, sum_by-filter_both}
use Rattle.book_model.specs.Words.{AreLines, AreRows, IsDay}
use Rattle.report_texts.proofs.Words.{Line, ChargeRow}

-- a sum over some is within the sum over all
pub filter_most : {X : Type 0} (p : X → Bool) (f : X → ℕ) (xs : List X)
    → sum_by f (filter p xs) ≤ sum_by f xs
filter_most p f xs =
    let both : sum_by f (filter p xs) + sum_by f (filter (λ x. not (p x)) xs) ≡ sum_by f xs =
    sum_by-filter_both p (λ x. not (p x)) (λ x. refl) f xs in
    omega arith

filter_within : {X : Type 0} (p : X → Bool) (f : X → ℕ) (xs : List X) (most : ℕ)
    → sum_by f xs < most → sum_by f (filter p xs) < most
filter_within p f xs most fits =
    let within : sum_by f (filter p xs) ≤ sum_by f xs = filter_most p f xs in
    omega arith

pub filtered_rows : (p : ChargeRow → Bool) (rows : List ChargeRow) → AreRows rows
    → AreRows (filter p rows)
filtered_rows p rows are = record {
  days = All-filter p (λ row. IsDay row.day) rows are.days;
  count = filter_within p (λ row. row.count) rows (2 ^ 64) are.count;
  cpu = filter_within p (λ row. row.cpu) rows (2 ^ 64) are.cpu;
  blocks = filter_within p (λ row. row.blocks) rows (2 ^ 64) are.blocks;
  amount = filter_within p (λ row. row.amount) rows (2 ^ 64) are.amount;
}

pub filtered_lines : (p : Line → Bool) (lines : List Line) → AreLines lines
    → AreLines (filter p lines)
filtered_lines p lines are = record {
  days = All-filter p (λ line. IsDay line.priced.day) lines are.days;
  amount = filter_within p (λ line. line.priced.amount) lines (2 ^ 63) are.amount;
}
