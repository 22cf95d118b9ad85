-- The choices of the list of rulings are those of the table.
use Rattle.std.proofs.Common.{◌≡◌, ◌∙◌, ◌+◌, ℕ, suc, List, [], ◌∷◌, ◌++◌, map, refl, sym, ap, arith}
use Rattle.std.proofs.Common.{Option, Some, None, slice_get, option_map}
use Rattle.std.proofs.lemmas.Option.{slice_get-map}
use Rattle.book_model.proofs.Std.{nat_cmp_total, get, get-from_entries}
use Rattle.book_model.specs.Words.{Book, Choice, Naming, RulingSeen, adoption_seen, choice_seen}
use Rattle.book_model.specs.Words.{all_replaced_seen, choices_seen, closes_seen, credits_seen}
use Rattle.book_model.specs.Words.{rulings_listed, tariffs_seen}
use Rattle.table_model.specs.Words.{ChoiceRow, choice_entries, choice_row, tables_of, under_numbers}
use Rattle.table_model.specs.Words.{choice_read_at}
use Rattle.table_model.proofs.UnderNumbers.{entries-numbers, find-numbers}
use Rattle.table_model.specs.ListsRead.{choice_shown, rulings_read}

-- the table has each choice under its number,
pub choice_row_at : (naming : Naming) (book : Book) (place : ℕ)
    → get (tables_of naming book).choices (place + 1)
    ≡ option_map (choice_row naming) (slice_get book.rulings.choices place)
choice_row_at naming book place =
    let rows : List ChoiceRow = map (choice_row naming) book.rulings.choices in
    get-from_entries nat_cmp_total (under_numbers 1 rows) (place + 1)
    ∙ find-numbers 1 (place + 1) place rows (omega arith)
    ∙ slice_get-map (choice_row naming) book.rulings.choices place

-- and it is shown so
pub choice_listed : (naming : Naming) (book : Book) (place : ℕ)
    → option_map (choice_seen naming (place + 1)) (slice_get book.rulings.choices place)
    ≡ choice_read_at (place + 1) (tables_of naming book).choices
choice_listed naming book place =
    shown (slice_get book.rulings.choices place)
    ∙ ap (option_map (λ (row : ChoiceRow). choice_shown (place + 1, row)))
    (sym (choice_row_at naming book place))
  where
    shown : (found : Option Choice) → option_map (choice_seen naming (place + 1)) found
        ≡ option_map (λ (row : ChoiceRow). choice_shown (place + 1, row))
        (option_map (choice_row naming) found)
    shown None = refl
    shown (Some choice) = refl

-- the rows are shown as the choices are
all_shown : (naming : Naming) (n : ℕ) (choices : List Choice)
    → choices_seen naming n choices ≡ map choice_shown (choice_entries naming n choices)
all_shown naming n [] = refl
all_shown naming n (choice ∷ choices) =
    ap (λ list. choice_seen naming n choice ∷ list) (all_shown naming (suc n) choices)

-- so the list is the one that is read
pub rulings_listed-read : (naming : Naming) (book : Book)
    → rulings_listed naming book.rulings ≡ rulings_read book.rulings (tables_of naming book)
rulings_listed-read naming book =
    ap (λ (choices : List RulingSeen). tariffs_seen book.rulings.tariffs
    ++ closes_seen 1 book.rulings.closes ++ choices ++ adoption_seen book.rulings.adopted
    ++ all_replaced_seen book.rulings.replaced ++ credits_seen 1 book.rulings.credits)
    (all_shown naming 1 book.rulings.choices
    ∙ ap (map choice_shown)
    (sym (entries-numbers (map (choice_row naming) book.rulings.choices))))
