-- Records that are charged under the second rule: what is due, and a step that charges it.
use Rattle.std.proofs.Common.{◌≡◌, ◌∙◌, ℕ, List, Bool, true, false, Option, Some, None, refl, sym}
use Rattle.std.proofs.Common.{ap, map, ◌++◌, ◌∷◌, [], ◌==◌, ◌&&◌, ◌||◌, not, ℤ, filter, option_map}
use Rattle.std.proofs.Common.{if◌then◌else◌}
use Rattle.std.proofs.Math.Bool.{or-false, or-true}
use Rattle.book_model.proofs.Std.{entries, get, last_or, option_map_or, nat_list_eq_equiv, map-map}
use Rattle.book_model.proofs.Std.{values}
use Rattle.book_model.specs.Words.{same_bytes}
use Rattle.book_model.proofs.Lemmas.{filter-map}
use Rattle.table_model.specs.RulingsRead.{is_lone_row}
use Rattle.table_model.specs.Words.{charge_due_step, ChoiceRow, RecordRow, RecordTable, Tables}
use Rattle.table_model.specs.Words.{is_due_at, is_due_in, is_withheld_in, last_named, last_row}
use Rattle.table_model.specs.Words.{name_has_identity}
use Rattle.table_model.proofs.ChoiceLemmas.{choices_follow}
use Rattle.table_model.proofs.DueLemmas.{last_map}
use Rattle.table_model.proofs.DueStays.{due_stays, last_pushed, last_stays, withheld_stays}
use Rattle.tree_tables.specs.Answers.{CountsSharing}
use Rattle.tree_tables.specs.Stored.{IsAsRead}
use Rattle.table_ledger.proofs.Words.{FindsRecord, choice_entry, stored_entry, StoredChoice}
use Rattle.table_ledger.proofs.Words.{StoredRecord, IsLastOf}
use Rattle.table_ledger.specs.Adoptions.{IsLast, IsLastIn, JoinsLast, is_last, last_chosen, withholds}
use Rattle.table_ledger.specs.declared.chosen.Chosen.{Chosen}
use Rattle.table_ledger.proofs.LineReadings.{found_row}

-- ---- the last choices

-- whether the record of a name has an identity, by the row that was found
abbrev has_row : List ℕ → Option RecordRow → Bool
has_row identity found =
    option_map_or (λ (row : RecordRow). same_bytes row.identity identity) found false

-- a choice of a record that was found is the last of its identity
pub joins_found : (chosen more : Chosen) (choice : StoredChoice) (stored : StoredRecord)
    (tables : Tables) → FindsRecord choice.name tables (Some stored)
    → ((other : List ℕ) → last_chosen more other
    ≡ (if same_bytes other stored.identity.items then Some choice else last_chosen chosen other))
    → JoinsLast choice tables.records chosen more
joins_found chosen more choice stored tables found puts identity =
    let row = (found_row choice.name stored (get tables.records choice.name) found).0 in
    puts identity
    ∙ ap (λ (is : Bool). if is then Some choice else last_chosen chosen identity)
    (nat_list_eq_equiv.symm identity stored.identity.items ∙ sym (ap (has_row identity) row))

-- one more choice
pub last_more : (choices : List StoredChoice) (choice : StoredChoice) (records : RecordTable)
    (chosen more : Chosen) → IsLastOf choices records chosen
    → JoinsLast choice records chosen more → IsLastOf (choices ++ choice ∷ []) records more
last_more choices choice records chosen more lasts joins identity =
    let own : StoredChoice → Bool = λ one. name_has_identity records identity one.name in
    joins identity
    ∙ ap (λ (before : Option StoredChoice). if own choice then Some choice else before)
    (lasts identity)
    ∙ sym (last_pushed own None choices choice)

-- a choice as its row
abbrev row_of : StoredChoice → ChoiceRow
row_of choice = (choice_entry choice).1

-- what the row of the last choice says is what the last choice says
by_last : (last : Option StoredChoice)
    → option_map_or (λ (choice : StoredChoice). not choice.counts) last false
    ≡ option_map_or (λ (row : ChoiceRow). not row.counts) (option_map row_of last) false
by_last None = refl
by_last (Some choice) = refl

by_name : (name : List ℕ) (last : Option StoredChoice)
    → option_map_or (λ (choice : StoredChoice). same_bytes name choice.name) last false
    ≡ option_map_or (same_bytes name)
    (option_map (λ (row : ChoiceRow). row.name) (option_map row_of last)) false
by_name name None = refl
by_name name (Some choice) = refl

module _ (choices : List StoredChoice) (chosen : Chosen) (tables : Tables)
    (lists : map choice_entry choices ≡ entries tables.choices)
    (lasts : IsLastOf choices tables.records chosen) (identity : List ℕ) where
  -- the rows of the choices that name a record of the identity
  abbrev own : ChoiceRow → Bool
  own row = name_has_identity tables.records identity row.name

  -- the choices are those of the tables
  rows_are : map row_of choices ≡ values tables.choices
  rows_are =
      sym (map-map (λ (entry : ℕ × ChoiceRow). entry.1) choice_entry choices)
      ∙ ap (map (λ (entry : ℕ × ChoiceRow). entry.1)) lists

  -- so the last of them is the last row
  last_is : last_row tables identity ≡ option_map row_of (last_chosen chosen identity)
  last_is =
      ap (λ rows. last_or None (filter own rows)) (sym rows_are)
      ∙ ap (last_or None) (filter-map own row_of choices)
      ∙ last_map row_of (filter (λ (choice : StoredChoice). own (row_of choice)) choices) None
      ∙ ap (option_map row_of) (sym (lasts identity))

  -- and it has the name that was named last
  name_is : last_named tables identity
      ≡ option_map (λ (row : ChoiceRow). row.name) (last_row tables identity)
  name_is =
      ap (last_or None)
      (filter-map (name_has_identity tables.records identity) (λ (row : ChoiceRow). row.name)
      (values tables.choices))
      ∙ last_map (λ (row : ChoiceRow). row.name) (filter own (values tables.choices)) None

  -- all choices that were listed
  pub last_listed : IsLastIn chosen tables identity
  last_listed = record {
    named = λ name.
        by_name name (last_chosen chosen identity)
        ∙ ap (λ (last : Option ChoiceRow). option_map_or (same_bytes name)
        (option_map (λ (row : ChoiceRow). row.name) last) false) (sym last_is)
        ∙ ap (λ last. option_map_or (same_bytes name) last false) (sym name_is);
    withheld =
        by_last (last_chosen chosen identity)
        ∙ ap (λ (last : Option ChoiceRow). option_map_or (λ (row : ChoiceRow). not row.counts)
        last false) (sym last_is);
  }

-- ---- what is due

module _ (chosen : Chosen) (tables : Tables) (stored : StoredRecord)
    (as_read : IsAsRead stored tables) (lasts : IsLast chosen tables) where
  abbrev its : List ℕ
  its = stored.identity.items

  -- it is alone in its identity
  abbrev alone : Bool
  alone = is_lone_row tables.records (stored_entry stored).1

  -- what is due is told by the last choice, and by whether it is alone
  due_by : is_due_in tables stored.name
      ≡ (not (withholds chosen its) && (alone || is_last chosen its stored.name))
  due_by =
      ap (is_due_at tables stored.name) as_read
      ∙ (λ i. not (sym (lasts its).withheld i) && (alone || sym ((lasts its).named stored.name) i))

  -- of a work that is withheld nothing is,
  pub due_withheld : withholds chosen its ≡ true → false ≡ is_due_in tables stored.name
  due_withheld withheld =
      sym (due_by ∙ ap (λ b. not b && (alone || is_last chosen its stored.name)) withheld)

  module _ (counts : withholds chosen its ≡ false) where
    -- else the one that was named last,
    pub due_last : is_last chosen its stored.name ≡ true → true ≡ is_due_in tables stored.name
    due_last last =
        sym (due_by ∙ (λ i. not (counts i) && (alone || last i)) ∙ or-true alone)

    -- or one that is alone
    pub due_alone : is_last chosen its stored.name ≡ false → (many : ℕ)
        → CountsSharing its tables many → (many == 1) ≡ is_due_in tables stored.name
    due_alone other many shared =
        sym (due_by ∙ (λ i. not (counts i) && (alone || other i)) ∙ or-false alone
        ∙ choices_follow.lone tables.records (stored_entry stored).1
        ∙ ap (λ n. n == 1) (sym shared))

-- ---- the walk

-- what still holds in the walk: the same records are due as before it, and the same ones were chosen
-- last
pub record IsStill (chosen : Chosen) (before now : Tables) : Type 0 where
  pub due : (name : List ℕ) → is_due_in now name ≡ is_due_in before name
  pub lasts : IsLast chosen now

-- the steps of the walk, by the tables before it
abbrev pub settle_of : ℕ → Option ℤ → Tables → List ℕ → Tables → Tables
settle_of period last before = charge_due_step period last (is_due_in before)

-- this holds before the first step,
pub still_first : (chosen : Chosen) (tables : Tables) → IsLast chosen tables
    → IsStill chosen tables tables
still_first chosen tables lasts = record { due = λ name. refl; lasts = lasts }

-- and after each one
pub still_next : (period : ℕ) (last : Option ℤ) (chosen : Chosen) (before now : Tables)
    (name : List ℕ) → IsStill chosen before now
    → IsStill chosen before (settle_of period last before name now)
still_next period last chosen before now name still = record {
  due = λ other.
      due_stays period last (is_due_in before) (name ∷ []) now other ∙ still.due other;
  lasts = λ identity. record {
    named = λ other.
        (still.lasts identity).named other
        ∙ ap (λ last. option_map_or (same_bytes other) last false)
        (sym (last_stays period last (is_due_in before) name now identity));
    withheld =
        (still.lasts identity).withheld
        ∙ sym (withheld_stays period last (is_due_in before) name now identity);
  };
}

-- the step by what is due now is the step by what was due before the walk
pub settles_still : (period : ℕ) (last : Option ℤ) (chosen : Chosen) (before now : Tables)
    (name : List ℕ) → IsStill chosen before now
    → charge_due_step period last (is_due_in now) name now ≡ settle_of period last before name now
settles_still period last chosen before now name still =
    ap (λ due. charge_due_step period last (λ one. due) name now) (still.due name)
