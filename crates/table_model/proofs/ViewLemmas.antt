-- The view of a record is read from the tables alone.
use Rattle.std.proofs.Common.{◌≡◌, ℕ, suc, List, [], ◌∷◌, map, length, refl, sym, ap, ◌∙◌, true}
use Rattle.std.proofs.Common.{false, Bool, ◌&&◌, Some, None, arith, All, filter, if◌then◌else◌}
use Rattle.std.proofs.Math.Bool.{or-false, and-true}
use Rattle.book_model.proofs.Std.{values, list_any, last_or, nat_list_cmp_total, nat_list_eq_equiv}
use Rattle.book_model.proofs.Std.{All-map, All-weaker, exact_bytes, tells_apart, map-map}
use Rattle.book_model.specs.Words.{Priced, Book, share_identity, charged_of, is_chosen, Naming}
use Rattle.book_model.specs.Words.{name_of, same_bytes, Choice, price_in, identity_by, members, has}
use Rattle.book_model.specs.Words.{IsSound}
use Rattle.book_model.proofs.Lemmas.{no_length, all_chosen, list_any-map, is, is_itself, first_of}
use Rattle.book_model.proofs.Lemmas.{second_of, is_back, members-those, same_bytes-by_cmp}
use Rattle.book_model.proofs.ChargedChanges.{share_on}
use Rattle.book_model.proofs.ChosenLemmas.{lone_chosen}
use Rattle.book_model.proofs.ListLemmas.{list_any-agree}
use Rattle.table_model.specs.Laws.{ViewFollows}
use Rattle.table_model.specs.Words.{RecordRow, ChoiceRow, ChoiceTable, choice_row, record_row}
use Rattle.table_model.specs.Words.{status_of, tables_of, member_by, sharing, rows_with, member_at}
use Rattle.table_model.specs.Words.{has_choice, rows_count, only_row, lone_members}
use Rattle.table_model.specs.Views.{members_of, only_by}
use Rattle.table_model.proofs.OpenNames.{names_differ}
use Rattle.table_model.proofs.RowsWhere.{among-filter, count_where, one_where}
use Rattle.table_model.proofs.UnderNumbers.{values-numbers}

-- rows of which there are two or more are all members, and none is the only one
many_rows : (choices : ChoiceTable) (rows : List (List ℕ × RecordRow)) (n : ℕ)
    → length rows ≡ suc (suc n)
    → (rows_count choices rows ≡ length rows) × (only_row choices rows ≡ None)
many_rows choices [] n count = absurd (omega arith)
many_rows choices (one ∷ []) n count = absurd (omega arith)
many_rows choices (one ∷ other ∷ more) n count = (refl, refl)

-- if a record is held, tests of it and of what is held are tests of it
pub held_too : (a held c : Bool) → held ≡ true → (a && held) ≡ c → a ≡ c
held_too a held c there both = sym (and-true a) ∙ ap (λ h. a && h) (sym there) ∙ both

module _ (naming : Naming) (book : Book) where
  -- the names of the choices are those of the records that were chosen
  pub names_in : map (λ (row : ChoiceRow). row.name) (values (tables_of naming book).choices)
      ≡ map (name_of naming) (all_chosen book.rulings)
  names_in =
      let choices : List Choice = book.rulings.choices in
      ap (map (λ (row : ChoiceRow). row.name)) (values-numbers (map (choice_row naming) choices))
      ∙ map-map (λ (row : ChoiceRow). row.name) (choice_row naming) choices
      ∙ sym (map-map (name_of naming) (λ (choice : Choice). choice.chosen) choices)

  module _ (sound : IsSound naming book) where
    -- each of them is held
    pub chosen_are_held : All (λ q. has book.held q ≡ true) (all_chosen book.rulings)
    chosen_are_held =
        All-map (λ q. has book.held q ≡ true) (λ (choice : Choice). choice.chosen)
        book.rulings.choices sound.chosen

    -- names of records that are held distinguish them
    pub same_names : (one other : List ℕ) → has book.held one ≡ true → has book.held other ≡ true
        → same_bytes (name_of naming other) (name_of naming one) ≡ is one other
    same_names one other there too =
        (λ i. same_bytes-by_cmp i (name_of naming other) (name_of naming one))
        ∙ is_back (name_of naming other) (name_of naming one)
        ∙ elim (is one other) as (λ t. is one other ≡ t
        → is (name_of naming one) (name_of naming other) ≡ t) [
          | true ↦ λ same.
              ap (λ q. is (name_of naming one) (name_of naming q))
              (sym (tells_apart exact_bytes one other same))
              ∙ is_itself (name_of naming one)
          | false ↦ λ apart. names_differ naming book sound one other there too
              (is_back other one ∙ apart)
        ] refl

    -- so some choice names a record if the record is among those that were chosen
    choices_named : (one : List ℕ) → has book.held one ≡ true
        → has_choice (tables_of naming book).choices (name_of naming one)
        ≡ list_any (is one) (all_chosen book.rulings)
    choices_named one there =
        let named : List ℕ → Bool = λ name. same_bytes name (name_of naming one) in
        sym (list_any-map named (λ (row : ChoiceRow). row.name)
        (values (tables_of naming book).choices))
        ∙ ap (list_any named) names_in
        ∙ list_any-map named (name_of naming) (all_chosen book.rulings)
        ∙ list_any-agree (λ q. named (name_of naming q)) (is one) (all_chosen book.rulings)
        (All-weaker (λ q. has book.held q ≡ true) (λ q. named (name_of naming q) ≡ is one q)
        (λ q held. same_names one q there held) (all_chosen book.rulings) chosen_are_held)

    module _ (bytes : List ℕ) where
      -- the rows of an identity, and the records that share it
      abbrev own : List ℕ × RecordRow → Bool
      own row = same_bytes row.1.identity (identity_by book.rulings bytes)

      abbrev share : List ℕ → Bool
      share = share_identity book.rulings bytes

      abbrev rows : List (List ℕ × RecordRow)
      rows = rows_with (identity_by book.rulings bytes) (tables_of naming book).records

      abbrev choices : ChoiceTable
      choices = (tables_of naming book).choices

      shares : (other : List ℕ) (cost : Priced) → price_in book.rulings other ≡ Some cost
          → same_bytes (identity_by book.rulings other) (identity_by book.rulings bytes)
          ≡ share other
      shares other cost costs =
          nat_list_eq_equiv.symm (identity_by book.rulings other) (identity_by book.rulings bytes)

      -- if one record has the identity, some choice names it if it is chosen
      lone_named : (one : List ℕ) → filter share (members book.held) ≡ one ∷ []
          → has_choice choices (name_of naming one) ≡ is_chosen book.rulings one
      lone_named one listed =
          let among = λ (q : List ℕ). sym (among-filter share book.held q)
          ∙ ap (list_any (is q)) listed ∙ or-false (is q one) in
          let both = among one ∙ is_itself one in
          let shared = first_of (share one) (has book.held one) both in
          let alone = λ (q : List ℕ) (in_it : has book.held q ≡ true).
          sym (share_on book.rulings bytes one q shared)
          ∙ held_too (share q) (has book.held q) (is q one) in_it (among q) ∙ is_back q one in
          choices_named one (second_of (share one) (has book.held one) both)
          ∙ sym (lone_chosen book.rulings book.held one sound.chosen alone)

      -- so the members are counted alike, and the only one is the same
      members_rows : (shared : List (List ℕ)) → filter share (members book.held) ≡ shared
          → (rows_count choices rows ≡ members_of book.rulings shared)
          × (only_row choices rows ≡ only_by naming book shared)
      members_rows [] listed =
          let none = no_length rows
          (count_where naming book sound (status_of book) sound.priced own share shares
          ∙ ap length listed) in
          (ap (rows_count choices) none, ap (only_row choices) none)
      members_rows (one ∷ []) listed =
          let only = one_where naming book sound (status_of book) sound.priced own share shares one
          listed in
          let named = lone_named one listed in
          let its_row : List ℕ × RecordRow = (
            name_of naming one,
            record_row book.rulings (charged_of book) book.posted one only.0,
          ) in (
            ap (rows_count choices) only.2 ∙ ap lone_members named,
            ap (only_row choices) only.2
                ∙ ap (λ c. if c then None else Some (member_at its_row)) named
                ∙ ap (λ member. if is_chosen book.rulings one then None else member)
                (ap (member_by naming book one) (sym only.1)),
          )
      members_rows (a ∷ b ∷ rest) listed =
          let count = count_where naming book sound (status_of book) sound.priced own share shares
          ∙ ap length listed in
          let many = many_rows choices rows (length rest) count in
          (many.0 ∙ count, many.1)

-- the law
pub view_follows : ViewFollows
view_follows naming book bytes sound =
    let both = members_rows naming book sound bytes (sharing book bytes)
    (sym (members-those nat_list_cmp_total exact_bytes (share_identity book.rulings bytes)
    book.held)) in
    λ i. record {
      through = last_or None (values-numbers book.rulings.closes i);
      members = both.0 i;
      only = both.1 i;
    }
