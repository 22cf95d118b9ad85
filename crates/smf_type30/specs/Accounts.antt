-- The accounting fields of a work record (SA38-0667, type 30, accounting section).
use Rattle.std.specs.Prelude.{◌≡◌, ℕ, zero, suc, ◌-◌, ◌==◌, nat_lt, if◌then◌else◌, List, [], ◌∷◌}
use Rattle.std.specs.Prelude.{◌++◌, length, take, drop, Option, Some, None, option_map}
use Rattle.std.specs.Prelude.{option_and_then, slice_get}
use Rattle.smf_type30.specs.Layout.{accounting}
use Rattle.smf_type30.specs.Section.{offset_of, count_of}

-- fields one after the other, each a byte that gives its length, and that many bytes (SMF30ACL,
-- SMF30ACT)
abbrev pub fields_text : List (List ℕ) → List ℕ
fields_text [] = []
fields_text (field ∷ fields) = length field ∷ field ++ fields_text fields

-- the accounting fields of a record: as many as the triplet counts, at the start of the text that
-- begins at the triplet's offset
pub record AreAccounts (bytes : List ℕ) (fields : List (List ℕ)) : Type 0 where
  pub number : length fields ≡ count_of bytes accounting
  pub rest : List ℕ
  pub text : drop (offset_of bytes accounting) bytes ≡ fields_text fields ++ rest

-- no fields are those of the record
abbrev pub HasNoAccounts : List ℕ → Type 0
HasNoAccounts bytes = (fields : List (List ℕ)) → AreAccounts bytes fields → ⊥

-- accounting field n is the n-th of them, the first being 1
pub record IsAccount (bytes : List ℕ) (n : ℕ) (account : Option (List ℕ)) : Type 0 where
  pub fields : List (List ℕ)
  pub are : AreAccounts bytes fields
  pub nth : account ≡ (if n == 0 then None else slice_get fields (n - 1))

-- a number of fields at the start of a text, found one by one; none where not all lie inside it
abbrev pub fields_in : ℕ → List ℕ → Option (List (List ℕ))
fields_in zero text = Some []
fields_in (suc count) [] = None
fields_in (suc count) (len ∷ text) =
    if nat_lt (length text) len then None
    else option_map (λ fields. take len text ∷ fields) (fields_in count (drop len text))

-- the accounting fields, found so
unfoldable pub accounts_of : List ℕ → Option (List (List ℕ))
accounts_of bytes = fields_in (count_of bytes accounting) (drop (offset_of bytes accounting) bytes)

-- the field after n others
abbrev pub nth_of : Option (List (List ℕ)) → ℕ → Option (List ℕ)
nth_of fields n = option_and_then (λ list. slice_get list n) fields

-- accounting field n among them
unfoldable pub account_of : List ℕ → ℕ → Option (List ℕ)
account_of bytes n = if n == 0 then None else nth_of (accounts_of bytes) (n - 1)
