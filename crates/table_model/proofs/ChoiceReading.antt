-- The choices are read back from their table.
use Rattle.std.proofs.Common.{◌≡◌, ℕ, ◌+◌, List, [], ◌∷◌, map, length, refl, sym, ap, ◌∙◌, Some}
use Rattle.std.proofs.Common.{None, arith, All, unwrap_or, filter_map, option_map}
use Rattle.book_model.proofs.Std.{keys, values, cons_option, last_or, length-map, All-head}
use Rattle.book_model.proofs.Std.{All-tail}
use Rattle.book_model.specs.Words.{Book, Choice, IsChoiceOf, IsSound, Naming, name_of}
use Rattle.table_model.specs.Words.{AreFramed, ChoiceRow, RecordRow, RecordTable, choice_row}
use Rattle.table_model.specs.Words.{tables_of, choice_read, row_record}
use Rattle.table_model.proofs.LineReading.{held_row}
use Rattle.table_model.proofs.UnderNumbers.{entries-numbers, last_number, values-numbers}

-- the table has as many rows as there are choices
pub choices_count : (naming : Naming) (book : Book)
    → length (values (tables_of naming book).choices) ≡ length book.rulings.choices
choices_count naming book =
    ap length (values-numbers (map (choice_row naming) book.rulings.choices))
    ∙ length-map book.rulings.choices (choice_row naming)

-- so the number of the last choice is their count
pub choices_numbered : (naming : Naming) (book : Book)
    → unwrap_or (last_or None (keys (tables_of naming book).choices)) 0
    ≡ length (values (tables_of naming book).choices)
choices_numbered naming book =
    let rows : List ChoiceRow = map (choice_row naming) book.rulings.choices in
    let none_before : 0 + length rows ≡ length rows = omega arith in
    ap (λ es. unwrap_or (last_or None (map (λ (e : ℕ × ChoiceRow). e.0) es)) 0)
    (entries-numbers rows)
    ∙ last_number 0 None rows refl ∙ none_before
    ∙ ap length (sym (values-numbers rows))

module _ (naming : Naming) (book : Book) (sound : IsSound naming book)
    (framed : AreFramed book.held) where
  -- the table of the records
  abbrev records : RecordTable
  records = (tables_of naming book).records

  -- a choice of a record that is held is read back
  one_read : (choice : Choice) → IsChoiceOf book.held choice
      → choice_read records
      (record {
        name = name_of naming choice.chosen;
        counts = choice.counts;
        period = choice.period;
      })
      ≡ Some choice
  one_read choice there =
      ap (option_map (λ (found : RecordRow).
      record { chosen = row_record found; counts = choice.counts; period = choice.period }))
      (held_row naming book sound choice.chosen there).2
      ∙ (λ i. Some (record {
        chosen = sym (framed choice.chosen there).is i;
        counts = choice.counts;
        period = choice.period;
      }))

  -- so are all of them
  all_read : (choices : List Choice) → All (IsChoiceOf book.held) choices
      → filter_map (choice_read records) (map (choice_row naming) choices) ≡ choices
  all_read [] all = refl
  all_read (choice ∷ choices) all =
      let first = one_read choice (All-head (IsChoiceOf book.held) choice choices all) in
      let rest = all_read choices (All-tail (IsChoiceOf book.held) choice choices all) in
      λ i. cons_option (first i) (rest i)

  -- and from their table
  pub choices_back : filter_map (choice_read records) (values (tables_of naming book).choices)
      ≡ book.rulings.choices
  choices_back =
      ap (filter_map (choice_read records))
      (values-numbers (map (choice_row naming) book.rulings.choices))
      ∙ all_read book.rulings.choices sound.chosen
