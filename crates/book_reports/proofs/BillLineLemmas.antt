-- The adjustment lines of a bill, and the periods that they speak of.
use Rattle.std.proofs.Common.{◌≡◌, ◌∙◌, ℕ, ◌+◌, ◌<◌, ◌≤◌, List, [], ◌∷◌, ◌++◌, length, map, refl, sym}
use Rattle.std.proofs.Common.{ap, get_or, take, take_all, Option, Some, Result, Ok, Err}
use Rattle.book_model.proofs.Std.{map-append, take_more}
use Rattle.book_model.specs.Words.{Book, Naming, adjustments_outcome, billed_line, line_alone}
use Rattle.book_model.specs.Words.{line_period_outcome}
use Rattle.book_reports.proofs.Words.{BilledLine, LedgerFault, Line, lines_of_centre, same_value}
use Rattle.book_reports.proofs.Words.{billed_outcome, shown_by}

-- what is shown of what is shown
shown_twice : {A B C : Type 0} (f : B → C) (g : A → B) (answer : Result A LedgerFault)
    → shown_by (λ value. f (g value)) answer ≡ shown_by f (shown_by g answer)
shown_twice f g (Ok value) = refl
shown_twice f g (Err fault) = refl

-- without their periods lines are as they were
pub plain_lines : (lines : List Line) → map (λ (one : BilledLine). one.line) (map line_alone lines) ≡ lines
plain_lines [] = refl
plain_lines (line ∷ later) = ap (λ lines. line ∷ lines) (plain_lines later)

-- Of a book: these are the lines of the centre in a period, and those are the first of them, each with
-- the period that it speaks of.
pub record KnowsLines (naming : Naming) (period : ℕ) (centre : List ℕ) (kept : List Line) (count : ℕ)
    (billed : List BilledLine) (book : Book) : Type 0 where
  pub answered : shown_by (lines_of_centre centre) (adjustments_outcome naming period book).answer
      ≡ Ok kept
  pub spoken : billed ≡ map (billed_line naming book period) (take count kept)

module _ {naming : Naming} {period : ℕ} {centre : List ℕ} {kept : List Line} {count : ℕ}
    {billed : List BilledLine} {book : Book}
    (it : KnowsLines naming period centre kept count billed book)
  where
    -- one line more
    pub line_known : (line : Line) (spoken_of : Option ℕ) (more : List BilledLine)
        → count < length kept → line ≡ get_or kept count line
        → (line_period_outcome naming period line book).answer ≡ Ok spoken_of
        → more ≡ billed ++ record { line = line; period = spoken_of } ∷ []
        → KnowsLines naming period centre kept (count + 1) more book
    line_known line spoken_of more inside is said pushed = record {
      answered = it.answered;
      spoken =
          let own : billed_line naming book period line
          ≡ record { line = line; period = spoken_of } =
          (λ i. record { line = line; period = same_value said i }) in
          pushed ∙ (λ i. it.spoken i ++ sym own i ∷ [])
          ∙ sym (map-append (billed_line naming book period) (take count kept) (line ∷ []))
          ∙ ap (map (billed_line naming book period))
          (ap (λ one. take count kept ++ one ∷ []) is ∙ sym (take_more kept count line inside));
    }

    -- these are all
    pub lines_known : length kept ≤ count
        → (billed_outcome naming period (Some centre) book).answer ≡ Ok billed
    lines_known past =
        shown_twice (map (billed_line naming book period)) (lines_of_centre centre)
        (adjustments_outcome naming period book).answer
        ∙ ap (shown_by (map (billed_line naming book period))) it.answered
        ∙ ap Ok (sym (it.spoken ∙ ap (map (billed_line naming book period)) (take_all count kept past)))

-- their lines are the first of the period's
pub lines_more : (kept : List Line) (count : ℕ) (line : Line) (spoken_of : Option ℕ)
    (billed more : List BilledLine) → count < length kept → line ≡ get_or kept count line
    → more ≡ billed ++ record { line = line; period = spoken_of } ∷ []
    → map (λ (one : BilledLine). one.line) billed ≡ take count kept
    → map (λ (one : BilledLine). one.line) more ≡ take (count + 1) kept
lines_more kept count line spoken_of billed more inside is pushed so_far =
    ap (map (λ (one : BilledLine). one.line)) pushed
    ∙ map-append (λ (one : BilledLine). one.line) billed (record { line = line; period = spoken_of } ∷ [])
    ∙ (λ i. so_far i ++ is i ∷ [])
    ∙ sym (take_more kept count line inside)
