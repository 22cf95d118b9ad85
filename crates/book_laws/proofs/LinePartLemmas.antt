-- The sums of what came late and of what was reversed.
use Rattle.std.proofs.Common.{◌≡◌, ◌∙◌, ℕ, Bool, true, false, not, cond, if◌then◌else◌, refl, sum_by}
use Rattle.book_model.specs.declared.line.Line.{Line}
use Rattle.book_model.proofs.Lemmas.{sum_by-filter}
use Rattle.book_laws.specs.BookedLaws.{LinesAddUp}

-- an amount counts where its line is no plus
turned : (plus : Bool) (amount : ℕ) → cond (not plus) amount 0 ≡ (if plus then 0 else amount)
turned true amount = refl
turned false amount = refl

-- the law
pub lines_add_up : LinesAddUp
lines_add_up = record {
  late = λ lines.
      sum_by-filter (λ (line : Line). line.priced.amount) (λ (line : Line). line.plus) lines;
  reversed = λ lines.
      sum_by-filter (λ (line : Line). line.priced.amount) (λ (line : Line). not line.plus) lines
      ∙ (λ i. sum_by (λ (line : Line). turned line.plus line.priced.amount i) lines);
}
