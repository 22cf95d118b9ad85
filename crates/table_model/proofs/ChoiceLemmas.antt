-- A choice is answered by the rows of its record's identity.
use Rattle.std.proofs.Common.{◌≡◌, ℕ, suc, ◌≤◌, List, [], ◌∷◌, length, refl, sym, ap, ◌∙◌, is_some}
use Rattle.std.proofs.Common.{subst, true, false, true≢false, Bool, not, ◌||◌, ◌&&◌, Some, None}
use Rattle.std.proofs.Common.{arith}
use Rattle.std.proofs.Common.{filter, nat_le, slice_get, take, ◌==◌, option_map, is_eq}
use Rattle.std.proofs.Math.Bool.{and-false}
use Rattle.book_model.proofs.Std.{entries, get, get-from_entries, list_any, IsStrictlySortedBy}
use Rattle.book_model.proofs.Std.{nat_tests, nat_list_cmp_total, nat_list_eq_equiv}
use Rattle.book_model.proofs.Std.{IsStrictlySortedBy-filter, sorted_head, exact_bytes}
use Rattle.book_model.proofs.Std.{All-weaker, false_from_ne_true, tells_apart}
use Rattle.book_model.specs.Words.{Book, Naming, Records, by_bytes, charged_of, choose_answer}
use Rattle.book_model.specs.Words.{chosen_answer, has, identity_by, is_chosen, is_undisputed}
use Rattle.book_model.specs.Words.{is_unrivalled, members, most_choices, name_of, price_in}
use Rattle.book_model.specs.Words.{record_named, same_bytes, share_identity, Choice, IsChoiceOf}
use Rattle.book_model.specs.Words.{conflict, is_withheld, was_withheld, withheld_answer}
use Rattle.book_model.specs.Words.{withhold_answer}
use Rattle.book_model.proofs.ChargedChanges.{do_conflict}
use Rattle.book_model.proofs.Lemmas.{filter-filter, is, is_itself, first_of, second_of}
use Rattle.book_model.proofs.Lemmas.{has_those, is_first, is_back, list_any-map, not_true}
use Rattle.book_model.proofs.Lemmas.{fails_too, members_rise, named_held}
use Rattle.book_model.proofs.ListLemmas.{list_any-agree}
use Rattle.book_model.proofs.ChosenLemmas.{one_charged as charged_once, lone_chosen}
use Rattle.book_model.proofs.RecordSets.{is_second}
use Rattle.table_model.specs.Words.{Tables, status_of, tables_of, member_at, only_of, rows_with}
use Rattle.table_model.specs.Words.{NamedRow, IsReadable}
use Rattle.table_model.proofs.LineReading.{held_row}
use Rattle.table_model.proofs.RecordChanges.{no_entry}
use Rattle.table_model.proofs.RowsWhere.{count_where, lone_where, members_held}
use Rattle.table_model.specs.AnswerLaws.{ChoicesFollow}
use Rattle.table_model.specs.RulingsRead.{chosen_by, choose_read, choose_row, withhold_read}
use Rattle.table_model.specs.RulingsRead.{withheld_by as none_by, withhold_row}
use Rattle.table_model.proofs.ChoiceReading.{choices_count, choices_numbered}
use Rattle.table_model.proofs.DueLemmas.{was_withheld_by, withheld_by}
use Rattle.table_model.proofs.RecordReading.{all_entries}
use Rattle.table_model.proofs.Rivals.{having}
use Rattle.table_model.proofs.SetReading.{among-filter}
use Rattle.table_model.proofs.Texts.{same_is}
use Rattle.book_core.proofs.NamedLemmas.{is_some-named, its_name, same_texts}

-- the answer is one if the record with a rival is chosen when it is charged
same_tests : (lone chosen charged full : Bool) → (lone ≡ false → charged ≡ chosen)
    → chosen_by lone chosen full ≡ chosen_by lone charged full
same_tests true chosen charged full same = refl
same_tests false chosen charged full same = ap (λ c. chosen_by false c full) (sym (same refl))

-- what passes two tests passes one of them
any_weaker : {X : Type 0} (p q : X → Bool) (xs : List X) → list_any (λ x. p x && q x) xs ≡ true
    → list_any q xs ≡ true
any_weaker p q [] some = some
any_weaker p q (x ∷ xs) some =
    elim (q x) as (λ b. ((p x && b) || list_any (λ x. p x && q x) xs) ≡ true
    → (b || list_any q xs) ≡ true) [
      | true ↦ λ some. refl
      | false ↦ λ some. any_weaker p q xs
          (sym (ap (λ b. b || list_any (λ x. p x && q x) xs) (and-false (p x))) ∙ some)
    ] some

-- By whether a record has no rival, u, whether its work was ever withheld, whether it is the one that
-- was named last, x, and whether its work is withheld, w, it is charged where it is held, h.
by_bits : (u was x w h : Bool) → (u && not was) ≡ false → h ≡ true
    → (u ≡ true → was ≡ true → x ≡ true)
    → ((not w && (u || x)) && h) ≡ (x && not w)
by_bits u was x w false decides there known = absurd (true≢false (sym there))
by_bits true false x w true decides there known = absurd (true≢false decides)
by_bits true true x true true decides there known = sym (and-false x)
by_bits true true x false true decides there known = ap (λ x. x && true) (sym (known refl refl))
by_bits false was x true true decides there known = sym (and-false x)
by_bits false was x false true decides there known = refl

-- the first two rows of an identity show whether one is alone
lone_in_two : (rows : List NamedRow) → (length rows == 1) ≡ (length (take 2 rows) == 1)
lone_in_two [] = refl
lone_in_two (one ∷ []) = refl
lone_in_two (one ∷ other ∷ rows) = two_or_more (length rows)
  where
    two_or_more : (n : ℕ) → (suc (suc n) == 1) ≡ false
    two_or_more n = grind (arith, nat_tests)

-- if there is at most one row, the first one is the only one
first_only : (rows : List NamedRow) → length rows ≤ 1 → slice_get rows 0 ≡ only_of rows
first_only [] few = refl
first_only (one ∷ []) few = refl
first_only (one ∷ other ∷ rows) few = absurd (omega arith)

module _ (naming : Naming) (book : Book) (whole : IsReadable naming book) where
  -- the book's tables
  abbrev tables : Tables
  tables = tables_of naming book

  -- what is charged
  abbrev charged : Records
  charged = charged_of book

  module _ (name : List ℕ) where
    -- a record has the name
    abbrev has_name : List ℕ → Bool
    has_name bytes = same_bytes (name_of naming bytes) name

    -- if no record of the name is held, the name has no row
    pub row_absent : record_named naming book.held name ≡ None → get tables.records name ≡ None
    row_absent unfound =
        get-from_entries nat_list_cmp_total (all_entries naming book whole.sound) name
        ∙ no_entry naming (price_in book.rulings) (identity_by book.rulings) book.posted name charged
        (members book.held) (λ other among.
        is_back name (name_of naming other) ∙ sym (same_is (name_of naming other) name)
        ∙ fails_too nat_list_cmp_total exact_bytes has_name book.held other
        (sym (is_some-named naming book.held name) ∙ ap is_some unfound) (members_held book.held other among))

    module _ (bytes : List ℕ) (found : record_named naming book.held name ≡ Some bytes) where
      -- the record is held
      there : has book.held bytes ≡ true
      there = named_held naming book.held name bytes found

      -- it has the name
      named : name_of naming bytes ≡ name
      named = its_name naming book.held name bytes found

      -- where it has no rival, it is the only one of its identity
      alone : is_unrivalled book.rulings book.held bytes ≡ true → (q : List ℕ)
          → has book.held q ≡ true → share_identity book.rulings bytes q ≡ is bytes q
      alone lone q in_it =
          let apart = fails_too nat_list_cmp_total exact_bytes (conflict book.rulings bytes)
          book.held q (not_true (list_any (conflict book.rulings bytes) (members book.held)) lone)
          in_it in
          elim (is bytes q) as (λ t. is bytes q ≡ t → share_identity book.rulings bytes q ≡ t) [
            | true ↦ λ same.
                ap (share_identity book.rulings bytes) (sym (tells_apart exact_bytes bytes q same))
                ∙ nat_list_eq_equiv.refl (identity_by book.rulings bytes)
            | false ↦ λ differ.
                false_from_ne_true (share_identity book.rulings bytes q) (λ shares.
                true≢false (sym (do_conflict book.rulings bytes q differ shares) ∙ apart))
          ] refl

      -- so it is the one that was named last, if its work was ever withheld
      named_last : is_unrivalled book.rulings book.held bytes ≡ true
          → was_withheld book.rulings bytes ≡ true → is_chosen book.rulings bytes ≡ true
      named_last lone was =
          lone_chosen book.rulings book.held bytes whole.sound.chosen (alone lone)
          ∙ list_any-map (is bytes) (λ (choice : Choice). choice.chosen) book.rulings.choices
          ∙ sym (list_any-agree (λ (choice : Choice). share_identity book.rulings bytes choice.chosen)
          (λ (choice : Choice). is bytes choice.chosen) book.rulings.choices
          (All-weaker (IsChoiceOf book.held)
          (λ (choice : Choice). share_identity book.rulings bytes choice.chosen
          ≡ is bytes choice.chosen)
          (λ choice in_it. alone lone choice.chosen in_it) book.rulings.choices whole.sound.chosen))
          ∙ any_weaker (λ (choice : Choice). not choice.counts)
          (λ (choice : Choice). share_identity book.rulings bytes choice.chosen)
          book.rulings.choices was

      -- if it has a rival, or its work was withheld, it is charged if it is chosen
      chosen_charged : (is_unrivalled book.rulings book.held bytes
          && not (was_withheld book.rulings bytes)) ≡ false
          → has charged bytes ≡ (is_chosen book.rulings bytes && not (is_withheld book.rulings bytes))
      chosen_charged decides =
          has_those (is_undisputed book.rulings book.held) book.held bytes
          ∙ by_bits (is_unrivalled book.rulings book.held bytes) (was_withheld book.rulings bytes)
          (is_chosen book.rulings bytes) (is_withheld book.rulings bytes) (has book.held bytes)
          decides there named_last

      -- so the choice is answered by the row
      by_row : chosen_answer book (Some bytes) ≡ choose_row tables (get tables.records name)
      by_row =
          let lone : Bool = is_unrivalled book.rulings book.held bytes in
          let was : Bool = was_withheld book.rulings bytes in
          let full : ℕ → Bool = nat_le most_choices in
          same_tests (lone && not was)
          (is_chosen book.rulings bytes && not (is_withheld book.rulings bytes)) (has charged bytes)
          (full (length book.rulings.choices)) chosen_charged
          ∙ (λ i. chosen_by (sym (lone_where naming book whole.sound charged bytes there) i
          && not (sym (was_withheld_by naming book whole.sound charged bytes) i))
          (has charged bytes) (full (sym (choices_count naming book) i)))
          ∙ ap (choose_row tables) (sym (held_row naming book whole.sound bytes there).2
          ∙ ap (get tables.records) named)

      -- and so is the choice of none
      by_row_none : withheld_answer book (Some bytes)
          ≡ withhold_row tables (get tables.records name)
      by_row_none =
          let full : ℕ → Bool = nat_le most_choices in
          (λ i. none_by (sym (withheld_by naming book whole.sound charged bytes) i)
          (full (sym (choices_count naming book) i)))
          ∙ ap (withhold_row tables) (sym (held_row naming book whole.sound bytes there).2
          ∙ ap (get tables.records) named)

    -- the answers
    answered_none : withhold_answer naming book name ≡ withhold_read tables name
    answered_none =
        elim (record_named naming book.held name) as
        (λ found. record_named naming book.held name ≡ found
        → withheld_answer book found ≡ withhold_row tables (get tables.records name)) [
          | None ↦ λ unfound. sym (ap (withhold_row tables) (row_absent unfound))
          | Some bytes ↦ λ found. by_row_none bytes found
        ] refl

    answered : choose_answer naming book name ≡ choose_read tables name
    answered =
        elim (record_named naming book.held name) as
        (λ found. record_named naming book.held name ≡ found
        → chosen_answer book found ≡ choose_row tables (get tables.records name)) [
          | None ↦ λ unfound. sym (ap (choose_row tables) (row_absent unfound))
          | Some bytes ↦ λ found. by_row bytes found
        ] refl

  -- of two records of one identity, at most one is charged
  one_charged : (a b : List ℕ) → has charged a ≡ true → has charged b ≡ true
      → share_identity book.rulings a b ≡ true → is a b ≡ false → ⊥
  one_charged a b of_a of_b shared differ =
      let same = charged_once book.rulings book.held a b of_a of_b shared in
      true≢false (sym (ap (is a) (sym same) ∙ is_itself a) ∙ differ)

  module _ (id : List ℕ) where
    -- a record of the identity is charged
    abbrev both : List ℕ → Bool
    both q = has charged q && having book.rulings book.held id q

    -- the charged rows of the identity
    abbrev marked : List NamedRow
    marked = filter (λ row. row.1.charged) (rows_with id tables.records)

    -- they are those of these records
    marked_count : length marked ≡ length (filter both (members book.held))
    marked_count =
        let own : NamedRow → Bool = λ row. same_bytes row.1.identity id in
        let mark : NamedRow → Bool = λ row. row.1.charged in
        ap length (filter-filter mark own (entries tables.records))
        ∙ count_where naming book whole.sound (status_of book) whole.sound.priced
        (λ row. mark row && own row) both (λ bytes cost costs. refl)

    -- so there is at most one
    few_by : (ks : List (List ℕ)) → filter both (members book.held) ≡ ks → length marked ≤ 1
    few_by [] listed = let count = marked_count ∙ ap length listed in omega arith
    few_by (k ∷ []) listed = let count = marked_count ∙ ap length listed in omega arith
    few_by (a ∷ b ∷ rest) listed =
        let has_both = λ (q : List ℕ) (on : list_any (is q) (a ∷ b ∷ rest) ≡ true).
        first_of (both q) (has book.held q)
        (sym (among-filter both book.held q) ∙ ap (list_any (is q)) listed ∙ on) in
        let of_a = has_both a (is_first a (b ∷ rest)) in
        let of_b = has_both b (is_second a b rest) in
        let rising =
        subst (IsStrictlySortedBy by_bytes) listed
        (IsStrictlySortedBy-filter by_bytes both (members book.held)
        (members_rise nat_list_cmp_total book.held)) in
        let less = sorted_head by_bytes a (b ∷ rest) rising in
        let own = λ (q : List ℕ) (of_q : both q ≡ true).
        same_texts (identity_by book.rulings q) id
        (second_of (has charged q) (having book.rulings book.held id q) of_q) in
        absurd (one_charged a b
        (first_of (has charged a) (having book.rulings book.held id a) of_a)
        (first_of (has charged b) (having book.rulings book.held id b) of_b)
        (ap (same_bytes (identity_by book.rulings a)) (own b of_b ∙ sym (own a of_a))
        ∙ nat_list_eq_equiv.refl (identity_by book.rulings a))
        (ap is_eq less.0))

    few_marked : length marked ≤ 1
    few_marked = few_by (filter both (members book.held)) refl

-- the law
pub choices_follow : ChoicesFollow
choices_follow = record {
  answer = λ naming book name whole. answered naming book whole name;
  withhold = λ naming book name whole. answered_none naming book whole name;
  lone = λ records row. lone_in_two (rows_with row.identity records);
  counted = λ naming book whole. choices_numbered naming book;
  few = λ naming book identity whole. few_marked naming book whole identity;
  current = λ naming book identity whole.
      ap (option_map member_at)
      (first_only (marked naming book whole identity) (few_marked naming book whole identity));
}
