-- What the tables of a tariff file have at their keys, by the TOML document that the file is.
use Rattle.std.specs.Prelude.{◌≡◌, ◌≢◌, ℕ, ◌&&◌, nat_le, nat_lt, if◌then◌else◌, List, [], ◌∷◌}
use Rattle.std.specs.Prelude.{length, Option, Some, None, Result, Ok, Err, MatchResult, Vec, ℤ, pos}
use Rattle.std.specs.Global.{Global}
use Rattle.std.specs.Option.{ok_or, option_map}
use Rattle.smf_text.specs.Names.{is_name}
use Rattle.toml.specs.Data.{as_array, as_integer, as_str, get_member}
use Rattle.toml.specs.Data.{Data, item, Items, Members, no_items}
use Rattle.tariff_rules.specs.Faults.{key_text}
use Rattle.tariff_rules.specs.declared.fault.TariffFault.{TariffFault}
use Rattle.tariff_rules.specs.declared.fault.TariffFault.TheVariants.{Memory, Missing, Name}
use Rattle.tariff_rules.specs.declared.fault.TariffFault.TheVariants.{Range, TooMany}
use Rattle.tariff_rules.specs.declared.key.Key.{Key}
use Rattle.tariff_rules.specs.declared.key.Key.TheVariants as key

-- what was read, and then the next step with it; or the first fault
infixl 10 ◌>>=◌
abbrev pub ◌>>=◌ : {A B : Type 0}
    → Result A TariffFault → (A → Result B TariffFault) → Result B TariffFault
Ok value >>= next = next value
Err fault >>= next = Err fault

-- the answer is the expected one, unless memory runs out
abbrev pub IsUnlessMemory : {A : Type 0} → Result A TariffFault → Result A TariffFault → Type 0
IsUnlessMemory result wanted =
    MatchResult result
    (λ value. wanted ≡ Ok value)
    (λ fault. fault ≢ Memory → wanted ≡ Err fault)

-- the same of a list
abbrev pub AreUnlessMemory : {A : Type 0}
    → Result (Vec A Global) TariffFault → Result (List A) TariffFault → Type 0
AreUnlessMemory result wanted =
    MatchResult result
    (λ values. wanted ≡ Ok values.items)
    (λ fault. fault ≢ Memory → wanted ≡ Err fault)

-- what a table has at a key that need not be there
abbrev pub value_at : Members → Key → Option Data
value_at table key = get_member (key_text key) table

-- what a table has at a key that has to be there
unfoldable pub required_at : Members → Key → Result Data TariffFault
required_at table key = ok_or (value_at table key) (Missing key)

-- the same, read as a value of the key's type and range
unfoldable pub read_at : {A : Type 0} → Members → Key → (Data → Option A) → Result A TariffFault
read_at table key read = do
  value ← required_at table key
  ok_or (read value) (Range key)

-- a whole number, if it lies in the range
abbrev pub integer_between : ℕ → ℕ → Option ℤ → Option ℕ
integer_between least most (Some (pos n)) = if nat_le least n && nat_le n most then Some n else None
integer_between least most _ = None

-- what a value says as a whole number in a range
abbrev pub integer_in : ℕ → ℕ → Data → Option ℕ
integer_in least most value = integer_between least most (as_integer value)

-- the whole number at a key
abbrev pub integer_at : Members → Key → ℕ → ℕ → Result ℕ TariffFault
integer_at table key least most = read_at table key (integer_in least most)

-- the text at a key
abbrev pub text_at : Members → Key → Result (List ℕ) TariffFault
text_at table key = read_at table key as_str

-- the name of a shift or a centre; a text that is no name is a fault of its own
unfoldable pub name_at : Members → Result (List ℕ) TariffFault
name_at table = do
  text ← text_at table key.Name
  if is_name text then Ok text else Err Name

-- the entries, in order, as a list
abbrev pub list_of : Items → List Data
list_of no_items = []
list_of (item entry rest) = entry ∷ list_of rest

-- the entries of an array
abbrev pub entries_in : Data → Option (List Data)
entries_in value = option_map list_of (as_array value)

-- what each entry says, in order, or the first fault
unfoldable pub read_each : {A : Type 0}
    → (Data → Result A TariffFault) → List Data → Result (List A) TariffFault
read_each read [] = Ok []
read_each read (entry ∷ rest) = do
  first ← read entry
  others ← read_each read rest
  Ok (first ∷ others)

-- the rules of an array, if there is one; that they are too many is said before the first is read
abbrev pub rules_in : {A : Type 0}
    → Key → ℕ → (Data → Result A TariffFault) → Option Data → Result (List A) TariffFault
rules_in key most read None = Ok []
rules_in key most read (Some value) = do
  entries ← ok_or (entries_in value) (Range key)
  if nat_lt most (length entries) then Err TooMany else read_each read entries

-- the rules at a key
unfoldable pub rules_at : {A : Type 0}
    → Members → Key → ℕ → (Data → Result A TariffFault) → Result (List A) TariffFault
rules_at table key most read = rules_in key most read (value_at table key)
