-- The journal of sound trees: its entries have numbers without gaps, and say how many records came by
-- each.
use Rattle.std.proofs.Common.{◌≡◌, ◌∙◌, ◌+◌, ◌≤◌, ◌∷◌, [], ℕ, List, Bool, true, false, Option, Some}
use Rattle.std.proofs.Common.{ap, arith, cond, eq-eqb, filter, filter_map, length, option_map, refl}
use Rattle.std.proofs.Common.{subst, suc, sym, ◌||◌, Less}
use Rattle.std.specs.Cmp.{nat_cmp_total}
use Rattle.std.specs.FinMap.{nat_cmp-IsAntisymmetric}
use Rattle.std.specs.FinMap as fin
use Rattle.sqlite_trees.specs.Tree.{IsAscending, Trees}
use Rattle.sqlite_trees.proofs.ListLemmas.{all-filter, all_both, all_from_map, ascending-filter}
use Rattle.book_model.proofs.Std.{AllByRecursion, cons_option, entries, exact_bytes, get, length-map}
use Rattle.book_model.proofs.Std.{length_permutation, list_any, nat_list_cmp_total, tells_apart}
use Rattle.book_model.proofs.Std.{values}
use Rattle.book_model.specs.Words.{Naming, Records, by_bytes, has, members, name_of, set_of}
use Rattle.book_model.proofs.Lemmas.{is, no_length}
use Rattle.book_model.proofs.PermutedSets.{Apart, members_permuted}
use Rattle.table_model.specs.BookIn.{came_with, row_record}
use Rattle.table_model.specs.Tables.{ImportRow, JournalRow, RecordRow, RowAct, RulingRow, Tables}
use Rattle.table_model.specs.Words.{under_numbers}
use Rattle.table_model.proofs.Finding.{get_one}
use Rattle.table_model.proofs.UnderNumbers.{entries-numbers, values-numbers}
use Rattle.consistent_tables.specs.Consistent.{IsKeptBy, IsOwnCame}
use Rattle.consistent_tables.proofs.Entries.{each_entry}
use Rattle.tree_rows.proofs.IndexOrders.{by_bytes_exact}
use Rattle.book_audit.specs.Came.{came_one, due_by}
use Rattle.book_audit.specs.Journal.{kept_in}
use Rattle.book_audit.specs.OfBook.{sha_names}
use Rattle.book_audit.specs.Records.{Told, came_by}
use Rattle.book_audit.specs.SoundTrees.{AreSound}
use Rattle.book_audit.specs.declared.audited.Counts.{Counts as Numbers}
use Rattle.book_audit.proofs.Held.Pigeonhole.{not_below}
use Rattle.book_audit.proofs.Rows.Came.{came_pairs, each_pair, is_of, pairs_counted, pairs_kept}
use Rattle.book_audit.proofs.Rows.Came.{pairs_rise}
use Rattle.book_audit.proofs.Rows.Due.{as_many_due, due_inside, none_due}
use Rattle.book_audit.proofs.Sound.Records.{own_row}
use Rattle.book_audit.proofs.Sound.Tables.{names_rise, records_in_order, tables_held, told_all}

-- what has no members has no record
none_among : (records : Records) → length (members records) ≡ 0 → (bytes : List ℕ)
    → has records bytes ≡ false
none_among records none bytes =
    fin.contains_key-keys records bytes ∙ ap (list_any (is bytes)) (no_length (members records) none)

-- a row that says how many records came by it says what came by it
by_kept : (records : Records) (act : RowAct) → kept_in act ≡ length (members records)
    → IsKeptBy records act
by_kept records (RulingRow place) many = none_among records (sym many)
by_kept records (ImportRow reading ending kept) many = many

-- of some records each is no more than all
all_within : (all : ℕ → ℕ) (told : List Told) → ((number : ℕ) → came_by number told ≤ all number)
    → AllByRecursion (λ (one : Told). (number : ℕ) → came_one number one.2 ≤ all number) told
all_within all [] within = tt
all_within all (one ∷ told) within = (
  λ number. let both = within number in omega (arith, both),
  all_within all told (λ number. let both = within number in omega (arith, both)),
)

-- ---- the records of names

module _ (naming : Naming) (give : List ℕ × ℕ → Option (List ℕ)) where
  -- a name gives a record, whose name it is
  abbrev pub IsGiven : List ℕ × ℕ → Type 0
  IsGiven one = (bytes : List ℕ) × (give one ≡ Some bytes) × (one.0 ≡ name_of naming bytes)

  -- each name gives one
  all_given : (names : List (List ℕ × ℕ)) → AllByRecursion IsGiven names
      → length (filter_map give names) ≡ length names
  all_given [] each = refl
  all_given (one ∷ names) each =
      let rest = all_given names each.1 in
      let first : length (filter_map give (one ∷ names)) ≡ suc (length (filter_map give names)) =
      ap (λ (found : Option (List ℕ)). length (cons_option found (filter_map give names))) each.0.1 in
      omega (arith, first, rest)

  -- a record whose name is below others is none of theirs
  other_records : (name bytes : List ℕ) (names : List (List ℕ × ℕ)) → name ≡ name_of naming bytes
      → AllByRecursion (λ (one : List ℕ × ℕ). by_bytes name one.0 ≡ Less) names
      → AllByRecursion IsGiven names → list_any (is bytes) (filter_map give names) ≡ false
  other_records name bytes [] own below each = refl
  other_records name bytes (one ∷ names) own below each =
      let rest = other_records name bytes names own below.1 each.1 in
      let its : List ℕ = each.0.0 in
      subst (λ (found : Option (List ℕ)). list_any (is bytes) (cons_option found (filter_map give names))
      ≡ false) (sym each.0.1)
      (elim (is bytes its) as (λ b. is bytes its ≡ b
      → (b || list_any (is bytes) (filter_map give names)) ≡ false) [
        | true ↦ λ tied.
            let same : name ≡ one.0 =
            own ∙ ap (name_of naming) (tells_apart exact_bytes bytes its tied) ∙ sym each.0.2 in
            absurd (not_below nat_list_cmp_total name
            (subst (λ (x : List ℕ). by_bytes name x ≡ Less) (sym same) below.0))
        | false ↦ λ differ. rest
      ] refl)

  -- so names that rise give different records
  apart_given : (names : List (List ℕ × ℕ))
      → IsAscending (λ (a : List ℕ × ℕ) (b : List ℕ × ℕ). by_bytes a.0 b.0 ≡ Less) names
      → AllByRecursion IsGiven names → Apart is (filter_map give names)
  apart_given [] rise each = tt
  apart_given (one ∷ names) rise each =
      subst (λ (found : Option (List ℕ)). Apart is (cons_option found (filter_map give names)))
      (sym each.0.1) (
        other_records one.0 each.0.0 names each.0.2 rise.0 each.1,
        apart_given names rise.1 each.1,
      )

  -- and as many as there are
  pub given_many : (names : List (List ℕ × ℕ))
      → IsAscending (λ (a : List ℕ × ℕ) (b : List ℕ × ℕ). by_bytes a.0 b.0 ≡ Less) names
      → AllByRecursion IsGiven names
      → length (members (set_of by_bytes (filter_map give names))) ≡ length names
  given_many names rise each =
      let records : List (List ℕ) = filter_map give names in
      sym (length_permutation (members (set_of by_bytes records)) records
      (members_permuted by_bytes nat_list_cmp_total records (apart_given names rise each)))
      ∙ all_given names each

-- ---- the tables

module _ (trees : Trees) (numbers : Numbers) (sound : AreSound trees numbers) where
  abbrev tables : Tables
  tables = tables_held trees numbers sound

  abbrev told_here : List Told
  told_here = told_all trees numbers sound

  abbrev its_entries : List JournalRow
  its_entries = sound.entered.entries

  pub journal_entered : entries tables.journal ≡ under_numbers 1 (values tables.journal)
  journal_entered =
      entries-numbers its_entries ∙ ap (under_numbers 1) (sym (values-numbers its_entries))

  -- as many came by a number as were due by it
  came_due : (number : ℕ) → due_by sound.due number ≡ came_by number told_here
  came_due number =
      sound.records.came number
      ∙ ap (λ n. n + came_by number told_here) (none_due sound.left sound.there number)
      ∙ nothing_more (came_by number told_here)
    where
      nothing_more : (n : ℕ) → 0 + n ≡ n
      nothing_more n = omega arith

  -- a record is found by its name, and is one of those that came by its entry
  abbrev IsAmong : Told → Type 0
  IsAmong told =
      (get tables.records told.0.0 ≡ Some told.0.1)
      × ((number : ℕ) → came_one number told.2 ≤ came_by number told_here)

  abbrev IsFound : List ℕ × RecordRow → Type 0
  IsFound entry = get tables.records entry.0 ≡ Some entry.1

  each_among : AllByRecursion IsAmong told_here
  each_among =
      all_both (λ (told : Told). IsFound told.0)
      (λ (told : Told). (number : ℕ) → came_one number told.2 ≤ came_by number told_here) IsAmong
      (λ told found few. (found, few)) told_here
      (all_from_map IsFound (λ (told : Told). told.0) told_here
      (subst (AllByRecursion IsFound) (records_in_order trees numbers sound)
      (each_entry nat_list_cmp_total by_bytes_exact IsFound tables.records (λ name row there. there))))
      (all_within (λ number. came_by number told_here) told_here (λ number. omega arith))

  -- ---- what came by a number is held, and its entry is there

  as_many_entries : length sound.due ≡ length (values tables.journal)
  as_many_entries =
      ap length sound.entered.says ∙ length-map its_entries (λ (one : JournalRow). kept_in one.act)
      ∙ ap length (sym (values-numbers its_entries))

  its_own : (told : Told) (number : ℕ) → IsAmong told → told.2 ≡ Some number
      → IsOwnCame tables told.0.0 number
  its_own told number among came =
      let one : came_one number told.2 ≡ 1 =
      ap (came_one number) came ∙ ap (λ b. cond b 1 0) (eq-eqb number number refl) in
      let few = among.1 number in
      let due = came_due number in
      let inside = due_inside sound.due number (omega (arith, one, few, due)) in
      let within = inside.1 in
      let many = as_many_entries in
      record {
        row = told.0.1;
        held = among.0;
        numbered = inside.0;
        there = omega (arith, within, many);
      }

  pub own_came : (name : List ℕ) (number : ℕ) → get tables.came name ≡ Some number
      → IsOwnCame tables name number
  own_came name number there =
      get_one nat_list_cmp_total by_bytes_exact
      (λ (name : List ℕ) (number : ℕ). IsOwnCame tables name number) (came_pairs told_here)
      (each_pair (λ (one : List ℕ × ℕ). IsOwnCame tables one.0 one.1) IsAmong its_own told_here
      each_among) name number there

  -- ---- each row says what came by its number

  abbrev given : List ℕ × ℕ → Option (List ℕ)
  given one = option_map row_record (get tables.records one.0)

  each_given : AllByRecursion (IsGiven sha_names given) (came_pairs told_here)
  each_given =
      each_pair (IsGiven sha_names given) IsAmong
      (λ told number among came. (
        row_record told.0.1,
        ap (option_map row_record) among.0,
        (own_row trees numbers sound told.0.0 told.0.1 among.0).named,
      ))
      told_here each_among

  so_many_came : (number : ℕ)
      → length (members (came_with tables.records tables.came number)) ≡ came_by number told_here
  so_many_came number =
      let pairs : List (List ℕ × ℕ) = came_pairs told_here in
      let rise = names_rise trees numbers sound in
      ap (λ (es : List (List ℕ × ℕ)).
      length (members (set_of by_bytes (filter_map given (filter (is_of number) es)))))
      (pairs_kept told_here rise)
      ∙ given_many sha_names given (filter (is_of number) pairs)
      (ascending-filter (λ (a : List ℕ × ℕ) (b : List ℕ × ℕ). by_bytes a.0 b.0 ≡ Less)
      (is_of number) pairs (pairs_rise told_here rise))
      (all-filter (IsGiven sha_names given) (is_of number) pairs each_given)
      ∙ pairs_counted number told_here

  pub own_kept : (number : ℕ) (row : JournalRow) → get tables.journal number ≡ Some row
      → IsKeptBy (came_with tables.records tables.came number) row.act
  own_kept number row there =
      let due = get_one nat_cmp_total nat_cmp-IsAntisymmetric
      (λ (number : ℕ) (row : JournalRow). due_by sound.due number ≡ kept_in row.act)
      (under_numbers 1 its_entries) (as_many_due sound.due its_entries sound.entered.says) number row
      there in
      by_kept (came_with tables.records tables.came number) row.act
      (sym due ∙ came_due number ∙ sym (so_many_came number))
