-- The choices, one after the other.
use Rattle.std.proofs.Common.{◌≡◌, ◌<◌, ◌≤◌, ◌+◌, ◌∙◌, ◌++◌, ◌∷◌, [], ℕ, List, Bool, true, false}
use Rattle.std.proofs.Common.{Option, Some, None, cond, map, length, ap, refl, sym, subst, arith}
use Rattle.std.proofs.Common.{length-append, find, reverse, option_map}
use Rattle.sqlite_trees.specs.Tree.{Trees}
use Rattle.sqlite_trees.proofs.ListLemmas.{all-append, all_weaker, ascending-append}
use Rattle.sqlite_value.specs.Order.{Row}
use Rattle.book_model.proofs.Std.{AllByRecursion, length-map, map-append, reverse-append}
use Rattle.book_model.specs.Words.{same_bytes}
use Rattle.table_model.specs.Words.{under_numbers}
use Rattle.table_model.proofs.UnderNumbers.{one_more}
use Rattle.tree_tables.specs.Columns.{choice_columns}
use Rattle.book_audit.specs.ChoiceRows.{AreMade, Chooses, IsMade, Made, last_made, made_rows}
use Rattle.book_audit.specs.ChoiceRows.{named_in, row_of, said}
use Rattle.book_audit.specs.declared.choices.Named.{Named}
use Rattle.book_audit.specs.Choices.{last_chosen}
use Rattle.book_audit.specs.declared.choices.Choice.{Choice}
use Rattle.book_audit.specs.declared.choices.Chosen.{Chosen}
use Rattle.book_audit.specs.declared.identity_rule.IdentityRule.{IdentityRule}

-- one row more
pub rows_pushed : (made : List Made) (one : Made) (number : ℕ) (row : Row)
    → row ≡ choice_columns (number, one.1) → number ≡ length made + 1
    → made_rows made ++ row ∷ [] ≡ made_rows (made ++ one ∷ [])
rows_pushed made one number row is next =
    let long : length (said made) ≡ length made = length-map made (λ (x : Made). x.1) in
    ap (λ (r : Row). made_rows made ++ r ∷ []) is
    ∙ sym (ap (λ vs. map choice_columns (under_numbers 1 vs)) (map-append (λ (x : Made). x.1) made (one ∷ []))
    ∙ ap (map choice_columns) (one_more 1 (said made) one.1 number (omega (arith, long, next)))
    ∙ map-append choice_columns (under_numbers 1 (said made)) ((number, one.1) ∷ []))

-- a choice behind others is the last of its identity
found_first : (own : Bool) (one : Made) (rest : Option Made)
    → option_map (λ (x : Made). named_in x.1) (cond own (Some one) rest)
    ≡ cond own (Some (named_in one.1)) (option_map (λ (x : Made). named_in x.1) rest)
found_first true one rest = refl
found_first false one rest = refl

last_pushed : (made : List Made) (one : Made) (identity : List ℕ)
    → last_made (made ++ one ∷ []) identity
    ≡ cond (same_bytes identity one.0) (Some (named_in one.1)) (last_made made identity)
last_pushed made one identity =
    let own : Made → Bool = λ (x : Made). same_bytes identity x.0 in
    ap (λ (xs : List Made). option_map (λ (x : Made). named_in x.1) (find own xs))
    (reverse-append made (one ∷ []))
    ∙ found_first (own one) one (find own (reverse made))

-- no choices
pub none_made : (trees : Trees) (rule : IdentityRule) (open_period : ℕ) (chosen : Chosen)
    → chosen.count ≡ 0 → chosen.since ≡ 1
    → ((identity : List ℕ) → last_chosen chosen identity ≡ None)
    → AreMade trees rule open_period chosen []
none_made trees rule open_period chosen none since last = record {
  counted = none;
  each = tt;
  first = omega (arith, since);
  numbered = tt;
  begun = tt;
  since = tt;
  in_order = tt;
  last = last;
}

-- one choice more
pub made_pushed : (trees : Trees) (rule : IdentityRule) (open_period : ℕ) (old new : Chosen)
    (made : List Made) (choice : Choice) → AreMade trees rule open_period old made
    → (step : Chooses trees rule open_period old new choice)
    → choice.number ≡ old.count + 1 → new.count ≡ choice.number
    → AreMade trees rule open_period new (made ++ (step.identity, row_of choice) ∷ [])
made_pushed trees rule open_period old new made choice so_far step next count =
    let one : Made = (step.identity, row_of choice) in
    let counted = so_far.counted in
    let long = length-append made (one ∷ []) in
    let later : old.since ≤ choice.period = step.later in
    let since : new.since ≡ choice.period = step.since in
    let own : choice.period ≤ new.since = omega (arith, since) in
    let first : 0 < old.since = so_far.first in
    let numbered : 0 < choice.period = omega (arith, later, first) in
    let before : AllByRecursion (λ (x : Made). x.1.period ≤ choice.period) made =
    all_weaker (λ (x : Made). x.1.period ≤ old.since) (λ (x : Made). x.1.period ≤ choice.period)
    (λ x less. omega (arith, less, later)) made so_far.since in
    record {
      counted = omega (arith, counted, next, count, long);
      each = subst (AllByRecursion (IsMade trees rule))
          (sym (one_more 1 made one choice.number (omega (arith, counted, next))))
          (all-append (IsMade trees rule) (under_numbers 1 made) ((choice.number, one) ∷ [])
          so_far.each (step.made, tt));
      first = omega (arith, since, numbered);
      numbered = all-append (λ (x : Made). 0 < x.1.period) made (one ∷ []) so_far.numbered
          (numbered, tt);
      begun = all-append (λ (x : Made). x.1.period ≤ open_period) made (one ∷ []) so_far.begun
          (step.begun, tt);
      since = all-append (λ (x : Made). x.1.period ≤ new.since) made (one ∷ [])
          (all_weaker (λ (x : Made). x.1.period ≤ choice.period) (λ (x : Made). x.1.period ≤ new.since)
          (λ x less. omega (arith, less, since)) made before) (own, tt);
      in_order = ascending-append (λ (a : Made) (b : Made). a.1.period ≤ b.1.period) made (one ∷ [])
          so_far.in_order (tt, tt)
          (all_weaker (λ (x : Made). x.1.period ≤ choice.period)
          (λ (x : Made). AllByRecursion (λ (b : Made). x.1.period ≤ b.1.period) (one ∷ []))
          (λ x less. (less, tt)) made before);
      last = λ identity. step.last identity
          ∙ ap (λ (rest : Option Named). cond (same_bytes identity step.identity)
          (Some (named_in one.1)) rest)
          (so_far.last identity)
          ∙ sym (last_pushed made one identity);
    }
