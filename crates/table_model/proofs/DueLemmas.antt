-- By the tables, a record is due to be charged if the book calls it undisputed.
use Rattle.std.proofs.Common.{◌≡◌, ℕ, List, [], ◌∷◌, map, refl, sym, ap, ◌∙◌, true, false, Bool}
use Rattle.std.proofs.Common.{◌||◌, ◌&&◌, not, Option, Some, None, filter, option_map}
use Rattle.book_model.proofs.Std.{last_or, list_any, option_map_or, nat_list_eq_equiv, All-weaker}
use Rattle.book_model.specs.Words.{Book, share_identity, is_chosen, last_chosen, is_undisputed}
use Rattle.book_model.specs.Words.{Records, Naming, name_of, same_bytes, price_in, identity_by, has}
use Rattle.book_model.specs.Words.{Choice, IsChoiceOf, IsSound, is_withheld, last_choice}
use Rattle.book_model.specs.Words.{was_withheld}
use Rattle.book_model.proofs.Lemmas.{all_chosen, filter-agree, filter-map, is_back}
use Rattle.book_model.proofs.Lemmas.{list_any-map, same_bytes-by_cmp}
use Rattle.book_model.proofs.ListLemmas.{list_any-agree}
use Rattle.book_model.proofs.ChosenLemmas.{chosen_held, last_passes}
use Rattle.table_model.specs.Words.{Tables, status_by, tables_at, name_has_identity, last_named}
use Rattle.table_model.specs.Words.{is_due_at, is_due_in, is_withheld_in, last_row, ChoiceRow}
use Rattle.table_model.specs.Words.{choice_row}
use Rattle.table_model.specs.RulingsRead.{was_withheld_in}
use Rattle.table_model.proofs.Restated.{row-found}
use Rattle.table_model.proofs.RowsWhere.{lone_where}
use Rattle.table_model.proofs.TableParts.{what_is}
use Rattle.table_model.proofs.UnderNumbers.{values-numbers}
use Rattle.table_model.proofs.ViewLemmas.{chosen_are_held, same_names, names_in}

-- a function of the last element is the last of the function's results
pub last_map : {X Y : Type 0} (f : X → Y) (list : List X) (was : Option X)
    → last_or (option_map f was) (map f list) ≡ option_map f (last_or was list)
last_map f [] was = refl
last_map f (x ∷ list) was = last_map f list (Some x)

module _ (naming : Naming) (book : Book) (sound : IsSound naming book) (charged : Records)
    (one : List ℕ) where
  -- the tables of the records, by what is charged
  abbrev tables : Tables
  tables = tables_at naming book (status_by book.rulings charged)

  -- what its tables look for
  abbrev own : List ℕ
  own = identity_by book.rulings one

  abbrev share : List ℕ → Bool
  share = share_identity book.rulings one

  -- the record of a name has the identity if the record shares it
  pub shares_by : (q : List ℕ) → has book.held q ≡ true
      → name_has_identity tables.records own (name_of naming q) ≡ share q
  shares_by q in_it =
      let cost = what_is (price_in book.rulings q) (sound.priced q in_it) in
      ap (λ found. option_map_or (λ row. same_bytes row.identity own) found false)
      (row-found naming book sound (price_in book.rulings) (identity_by book.rulings) charged q
      in_it cost.0 cost.1)
      ∙ nat_list_eq_equiv.symm (identity_by book.rulings q) own

  -- the last choice of the identity is that of the last row
  last_row-is : last_row tables own
      ≡ option_map (choice_row naming) (last_choice book.rulings one)
  last_row-is =
      let has_own : ChoiceRow → Bool = λ row. name_has_identity tables.records own row.name in
      let shares : Choice → Bool = λ choice. share choice.chosen in
      let all : List Choice = book.rulings.choices in
      ap (λ rows. last_or None (filter has_own rows)) (values-numbers (map (choice_row naming) all))
      ∙ ap (last_or None) (filter-map has_own (choice_row naming) all
      ∙ ap (map (choice_row naming)) (filter-agree (λ choice. has_own (choice_row naming choice))
      shares all (All-weaker (IsChoiceOf book.held)
      (λ choice. has_own (choice_row naming choice) ≡ shares choice)
      (λ choice in_it. shares_by choice.chosen in_it) all sound.chosen)))
      ∙ last_map (choice_row naming) (filter shares all) None

  -- so the work is withheld by the tables if it is by the rulings
  pub withheld_by : is_withheld_in tables own ≡ is_withheld book.rulings one
  withheld_by =
      ap (λ last. option_map_or (λ (row : ChoiceRow). not row.counts) last false) last_row-is
      ∙ by_last (last_choice book.rulings one)
    where
      by_last : (last : Option Choice)
          → option_map_or (λ (row : ChoiceRow). not row.counts)
          (option_map (choice_row naming) last) false
          ≡ option_map_or (λ (choice : Choice). not choice.counts) last false
      by_last None = refl
      by_last (Some choice) = refl

  -- and it was, if it was
  pub was_withheld_by : was_withheld_in tables own ≡ was_withheld book.rulings one
  was_withheld_by =
      let has_own : ChoiceRow → Bool =
      λ row. not row.counts && name_has_identity tables.records own row.name in
      let shares : Choice → Bool = λ choice. not choice.counts && share choice.chosen in
      let all : List Choice = book.rulings.choices in
      ap (list_any has_own) (values-numbers (map (choice_row naming) all))
      ∙ list_any-map has_own (choice_row naming) all
      ∙ list_any-agree (λ choice. has_own (choice_row naming choice)) shares all
      (All-weaker (IsChoiceOf book.held)
      (λ choice. has_own (choice_row naming choice) ≡ shares choice)
      (λ choice in_it. ap (λ b. not choice.counts && b) (shares_by choice.chosen in_it))
      all sound.chosen)

module _ (naming : Naming) (book : Book) (sound : IsSound naming book) (charged : Records)
    (one : List ℕ) (there : has book.held one ≡ true) where
  abbrev its_tables : Tables
  its_tables = tables_at naming book (status_by book.rulings charged)

  abbrev name : List ℕ
  name = name_of naming one

  abbrev its_own : List ℕ
  its_own = identity_by book.rulings one

  abbrev its_share : List ℕ → Bool
  its_share = share_identity book.rulings one

  -- the record of a name has the identity if the record shares it
  pub its_identity : (q : List ℕ) → has book.held q ≡ true
      → name_has_identity its_tables.records its_own (name_of naming q) ≡ its_share q
  its_identity q in_it = shares_by naming book sound charged one q in_it

  -- so the record that was chosen last is the same
  last_by : last_named its_tables its_own ≡ option_map (name_of naming) (last_chosen book.rulings one)
  last_by =
      let has_own : List ℕ → Bool = name_has_identity its_tables.records its_own in
      let all : List (List ℕ) = all_chosen book.rulings in
      ap (λ names. last_or None (filter has_own names)) (names_in naming book)
      ∙ ap (last_or None) (filter-map has_own (name_of naming) all
      ∙ ap (map (name_of naming)) (filter-agree (λ q. has_own (name_of naming q)) its_share all
      (All-weaker (λ q. has book.held q ≡ true) (λ q. has_own (name_of naming q) ≡ its_share q)
      its_identity all (chosen_are_held naming book sound))))
      ∙ last_map (name_of naming) (filter its_share all) None

  -- and it is chosen by its name if it is chosen
  chosen_by : option_map_or (same_bytes name) (last_named its_tables its_own) false
      ≡ is_chosen book.rulings one
  chosen_by =
      ap (λ last. option_map_or (same_bytes name) last false) last_by
      ∙ by_last (last_chosen book.rulings one) refl
    where
      by_last : (last : Option (List ℕ)) → last_chosen book.rulings one ≡ last
          → option_map_or (same_bytes name) (option_map (name_of naming) last) false
          ≡ option_map_or (same_bytes one) last false
      by_last None is_none = refl
      by_last (Some other) is_other =
          let in_it = chosen_held book.held book.rulings.choices sound.chosen other
          (last_passes its_share (all_chosen book.rulings) None other is_other
          (λ none. cc) (λ on passes. on)) in
          same_names naming book sound other one in_it there
          ∙ is_back other one ∙ sym (λ i. same_bytes-by_cmp i one other)

  -- By the tables it is due if it is undisputed.
  pub due-follows : is_due_in its_tables name ≡ is_undisputed book.rulings book.held one
  due-follows =
      let cost = what_is (price_in book.rulings one) (sound.priced one there) in
      ap (is_due_at its_tables name)
      (row-found naming book sound (price_in book.rulings) (identity_by book.rulings) charged one
      there cost.0 cost.1)
      ∙ (λ i. not (withheld_by naming book sound charged one i)
      && (lone_where naming book sound charged one there i || chosen_by i))
