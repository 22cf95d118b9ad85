-- Which choice was the last of an identity, as an adoption remembers it, and what it does to a
-- record.
use Rattle.std.specs.Prelude.{◌≡◌, ℕ, ℤ, Bool, false, if◌then◌else◌, List, Option, Some, None}
use Rattle.std.specs.Prelude.{filter, not}
use Rattle.std.specs.BTreeMap.{get_by}
use Rattle.book_model.specs.Std.{slice_cmp, last_or, option_map_or, nat_cmp}
use Rattle.book_model.specs.Words.{same_bytes}
use Rattle.table_model.specs.Words.{charge_due_step, RecordTable, Tables, is_due_in, is_withheld_in}
use Rattle.table_model.specs.Words.{last_named, name_has_identity}
use Rattle.tree_tables.specs.declared.choice_rows.StoredChoice.{StoredChoice}
use Rattle.table_ledger.specs.declared.chosen.Chosen.{Chosen}

-- the last choice among the records of an identity, if there was one
abbrev pub last_chosen : Chosen → List ℕ → Option StoredChoice
last_chosen chosen identity = get_by (λ key. slice_cmp nat_cmp identity key.items) chosen.lasts

-- it names the record of this name
abbrev pub is_last : Chosen → List ℕ → List ℕ → Bool
is_last chosen identity name =
    option_map_or (λ (choice : StoredChoice). same_bytes name choice.name)
    (last_chosen chosen identity) false

-- it says that none of the records counts
abbrev pub withholds : Chosen → List ℕ → Bool
withholds chosen identity =
    option_map_or (λ (choice : StoredChoice). not choice.counts) (last_chosen chosen identity) false

-- One more choice was made: it is the last of the identity of the record that it names, if there is
-- one, and of no other.
abbrev pub JoinsLast : StoredChoice → RecordTable → Chosen → Chosen → Type 0
JoinsLast choice records old new =
    (identity : List ℕ)
    → last_chosen new identity
    ≡ (if name_has_identity records identity choice.name then Some choice
    else last_chosen old identity)

-- from some choices, the last of each identity is remembered
abbrev pub IsLastOf : List StoredChoice → RecordTable → Chosen → Type 0
IsLastOf choices records chosen =
    (identity : List ℕ)
    → last_chosen chosen identity
    ≡ last_or None (filter (λ (choice : StoredChoice). name_has_identity records identity choice.name)
    choices)

-- from all choices it is known of an identity which record was named last, and whether it is
-- withheld
pub record IsLastIn (chosen : Chosen) (tables : Tables) (identity : List ℕ) : Type 0 where
  pub named : (name : List ℕ) → is_last chosen identity name
      ≡ option_map_or (same_bytes name) (last_named tables identity) false
  pub withheld : withholds chosen identity ≡ is_withheld_in tables identity

-- of each identity
abbrev pub IsLast : Chosen → Tables → Type 0
IsLast chosen tables = (identity : List ℕ) → IsLastIn chosen tables identity

-- the record of a name is charged, if the tables say that it is due and is not charged
abbrev pub charge_where_due : ℕ → Option ℤ → List ℕ → Tables → Tables
charge_where_due period last name tables =
    charge_due_step period last (is_due_in tables) name tables
