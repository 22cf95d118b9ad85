-- The life of a record, as its lines are looked up one period after another.
use Rattle.std.proofs.Common.{◌≡◌, ◌∙◌, ℕ, zero, suc, ◌+◌, ◌-◌, ◌≤◌, List, ◌++◌, refl, sym, ap}
use Rattle.std.proofs.Common.{Bool, true, false, Option, Some, None, append-nil, arith}
use Rattle.std.proofs.Common.{append_assoc}
use Rattle.book_model.proofs.Std.{get, option_or}
use Rattle.book_model.specs.declared.trail.Deed.TheVariants.{Charged}
use Rattle.book_model.specs.declared.trail.Turn.{Turn}
use Rattle.book_model.specs.Words.{Rulings, open_by, period_on, turn_if}
use Rattle.table_model.specs.Words.{LineTable, charged_before_lines, first_line, NamedRow}
use Rattle.table_model.specs.Words.{life_read, line_turns}
use Rattle.table_model.specs.TrailRead.{line_turn}
use Rattle.table_ledger.specs.TrailReads.{charged_before}

-- one period more comes after the others
line_turns-more : (lines : LineTable) (name : List ℕ) (number later : ℕ)
    → line_turns lines name number (suc later)
    ≡ line_turns lines name number later
    ++ line_turn (number + later) (get lines (number + later, name))
line_turns-more lines name number zero =
    let same : number ≡ number + 0 = omega arith in
    append-nil (line_turn number (get lines (number, name)))
    ∙ ap (λ n. line_turn n (get lines (n, name))) same
line_turns-more lines name number (suc later) =
    let same : suc number + later ≡ number + suc later = omega arith in
    let own : List Turn = line_turn number (get lines (number, name)) in
    let others : List Turn = line_turns lines name (suc number) later in
    ap (λ turns. own ++ turns) (line_turns-more lines name (suc number) later)
    ∙ sym (append_assoc own others
    (line_turn (suc number + later) (get lines (suc number + later, name))))
    ∙ ap (λ n. own ++ others ++ line_turn n (get lines (n, name))) same

-- the line of the next period joins those of the periods before it
pub turns_on : (after period next : ℕ) (lines : LineTable) (name : List ℕ) (line : Option Bool)
    (olds news : List Turn) → after ≤ period → next ≡ period + 1
    → olds ≡ line_turns lines name (suc after) (period - after)
    → line ≡ get lines (next, name) → news ≡ olds ++ line_turn next line
    → news ≡ line_turns lines name (suc after) (next - after)
turns_on after period next lines name line olds news since is so_far found adds =
    let place : suc after + (period - after) ≡ next = omega arith in
    let many : suc (period - after) ≡ next - after = omega arith in
    adds
    ∙ (λ i. so_far i ++ line_turn next (found i))
    ∙ ap (λ n. line_turns lines name (suc after) (period - after)
    ++ line_turn n (get lines (n, name))) (sym place)
    ∙ sym (line_turns-more lines name (suc after) (period - after))
    ∙ ap (line_turns lines name (suc after)) many

-- the first of the turns tells what the first of the lines tells
told_before : (lines : LineTable) (name : List ℕ) (number later : ℕ) (charged : Bool)
    → charged_before charged (line_turns lines name number later)
    ≡ charged_before_lines (first_line lines name number later) charged
told_before lines name number zero charged = refl
told_before lines name number (suc later) charged =
    by_line (get lines (number, name)) (told_before lines name (suc number) later charged)
  where
    by_line : (line : Option Bool)
        → charged_before charged (line_turns lines name (suc number) later)
        ≡ charged_before_lines (first_line lines name (suc number) later) charged
        → charged_before charged (line_turn number line ++ line_turns lines name (suc number) later)
        ≡ charged_before_lines (option_or line (first_line lines name (suc number) later)) charged
    by_line None rest = rest
    by_line (Some true) rest = refl
    by_line (Some false) rest = refl

-- So the life of a record is told by its mark and by the turns after the period of its day.
pub life_told : (rulings : Rulings) (lines : LineTable) (entry : NamedRow) (own last : ℕ)
    (turns life : List Turn) → own ≡ period_on rulings.closes entry.1.priced.day
    → last ≡ open_by rulings → turns ≡ line_turns lines entry.0 (suc own) (last - own)
    → life ≡ turn_if (charged_before entry.1.charged turns) own Charged ++ turns
    → life ≡ life_read rulings lines entry
life_told rulings lines entry own last turns life its_own its_last so_far is =
    let charged : Bool = entry.1.charged in
    is
    ∙ (λ i. turn_if (charged_before charged (so_far i)) own Charged ++ so_far i)
    ∙ ap (λ (counted : Bool). turn_if counted own Charged
    ++ line_turns lines entry.0 (suc own) (last - own))
    (told_before lines entry.0 (suc own) (last - own) charged)
    ∙ (λ i. turn_if (charged_before_lines
    (first_line lines entry.0 (suc (its_own i)) (its_last i - its_own i)) charged) (its_own i) Charged
    ++ line_turns lines entry.0 (suc (its_own i)) (its_last i - its_own i))
