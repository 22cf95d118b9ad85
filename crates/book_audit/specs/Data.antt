-- What the row of a record has to say, by the bytes of the record and the tariffs.
use Rattle.std.specs.Prelude.{◌≡◌, ◌≤◌, ℕ, ℤ, Bool, not, int_lt, find, length, reverse, List}
use Rattle.std.specs.Prelude.{Option, Some, option_map}
use Rattle.sha2.specs.Sha256.{sha256}
use Rattle.book_model.specs.Words.{most_data, record_with, IsUsage, day_of, price_by, Terms, Priced}
use Rattle.tree_tables.specs.declared.stored_record.StoredRecord.{StoredRecord}
use Rattle.book_audit.specs.Rules.{identity_under}
use Rattle.book_audit.specs.declared.rulings.Rulings.{Rulings}

-- the record, with the descriptor that the length of its data gives
abbrev pub stored_bytes : StoredRecord → List ℕ
stored_bytes stored = record_with stored.data_bytes.items

-- a tariff has begun on a day
abbrev pub has_begun : ℤ → Terms → Bool
has_begun day terms = not (int_lt day terms.effective)

-- the last of the tariffs that has begun on a day
abbrev pub in_force : ℤ → List Terms → Option Terms
in_force day tariffs = find (has_begun day) (reverse tariffs)

-- what usage costs by that tariff, if one has begun on its day
abbrev pub price_of : List Terms → List ℕ → Option Priced
price_of tariffs bytes =
    option_map (λ terms. price_by terms bytes) (in_force (day_of bytes) tariffs)

-- The data of a record are those of usage, and its name, identity and price are as they say.
pub record SaysData (rulings : Rulings) (stored : StoredRecord) : Type 0 where
  pub short : length stored.data_bytes.items ≤ most_data
  pub name : stored.name ≡ sha256 stored.data_bytes.items
  pub usage : IsUsage (stored_bytes stored)
  pub identity : stored.identity.items ≡ identity_under rulings.rule (stored_bytes stored)
  pub price : price_of rulings.tariffs.items (stored_bytes stored) ≡ Some stored.priced
