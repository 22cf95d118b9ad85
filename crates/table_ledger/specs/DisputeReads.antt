-- Records as disputes are made from them, and the next identity in dispute.
use Rattle.std.specs.Prelude.{◌≡◌, ◌⊎◌, ◌||◌, ℕ, Bool, List, Option, Vec, filter, length, map}
use Rattle.std.specs.Prelude.{option_map}
use Rattle.std.specs.Global.{Global}
use Rattle.std.specs.List.{list_any}
use Rattle.book_model.specs.Words.{Disputed, IsDay, identity_length, identity2_length}
use Rattle.table_model.specs.Words.{Tables, FindsDisputed, NamedRow, grouped, is_unsettled}
use Rattle.table_model.specs.Words.{is_withheld_in, rows_with, variant_read}
use Rattle.tree_tables.specs.Answers.{is_charged}
use Rattle.tree_tables.specs.Stored.{stored_entry}
use Rattle.tree_tables.specs.declared.stored_record.StoredRecord.{StoredRecord}

-- an identity has the length that its parts need by one of the two rules
abbrev pub IsIdentity : List ℕ → Type 0
IsIdentity identity =
    (length identity ≡ identity_length) ⊎ (length identity ≡ identity2_length)

-- a row that a dispute can show: its identity is one, and the record is dated on a day
pub record IsShownRow (row : NamedRow) : Type 0 where
  pub identity : IsIdentity row.1.identity
  pub day : IsDay row.1.priced.day

-- the dispute of an identity with these records
abbrev pub dispute_made : List ℕ → List StoredRecord → Disputed
dispute_made identity rows =
    record { identity = identity; members = map variant_read (map stored_entry rows) }

-- an identity is settled: a record of it is charged, or it is withheld
abbrev pub is_settled_in : Tables → List ℕ → Bool
is_settled_in tables identity =
    list_any is_charged (rows_with identity tables.records) || is_withheld_in tables identity

-- rows in groups, each of one identity, but for those of an identity that is settled
abbrev pub FindsGroups : List NamedRow → Tables → List Disputed → Type 0
FindsGroups rows tables found = found ≡ grouped (filter (is_unsettled tables) rows)

-- the least identity in dispute from some bytes on, if there is one
abbrev pub FindsNext : List ℕ → Tables → Option (Vec ℕ Global) → Type 0
FindsNext from tables found =
    FindsDisputed from tables (option_map (λ (identity : Vec ℕ Global). identity.items) found)
