-- What an entry of a tariff file's array of centres says.
use Rattle.std.specs.Prelude.{ℕ, List, Option, Some, None, Result, Ok, Err}
use Rattle.std.specs.Option.{ok_or}
use Rattle.toml.specs.Data.{as_table, Data, Members}
use Rattle.tariff_rules.specs.Document.{◌>>=◌, name_at, text_at, value_at, integer_in}
use Rattle.tariff_rules.specs.Limits.{last_account, most_account_prefix, most_job_prefix}
use Rattle.tariff_rules.specs.Prefix.{prefix_of}
use Rattle.tariff_rules.specs.Terms.{CentreRule}
use Rattle.tariff_rules.specs.declared.centre.Field.{Field}
use Rattle.tariff_rules.specs.declared.centre.Field.TheVariants.{Account, Job}
use Rattle.tariff_rules.specs.declared.fault.TariffFault.{TariffFault}
use Rattle.tariff_rules.specs.declared.fault.TariffFault.TheVariants.{Missing, Range}
use Rattle.tariff_rules.specs.declared.key.Key.{Key}
use Rattle.tariff_rules.specs.declared.key.Key.TheVariants as key

-- an accounting field where there is one, whatever the job is; else the job's name
abbrev pub field_of : Option Data → Option Data → Result Field TariffFault
field_of (Some account) job = do
  n ← ok_or (integer_in 1 last_account account) (Range key.Account)
  Ok (Account n)
field_of None (Some job) = Ok Job
field_of None None = Err (Missing key.Account)

-- the field that the rule looks at
unfoldable pub field_at : Members → Result Field TariffFault
field_at table = field_of (value_at table key.Account) (value_at table key.Job)

-- the prefix at a key
unfoldable pub prefix_at : Members → Key → ℕ → Result (List ℕ) TariffFault
prefix_at table key most = do
  text ← text_at table key
  ok_or (prefix_of most text) (Range key)

-- what the field has to begin with
abbrev pub prefix_for : Members → Field → Result (List ℕ) TariffFault
prefix_for table (Account n) = prefix_at table key.Prefix most_account_prefix
prefix_for table Job = prefix_at table key.Job most_job_prefix

-- the rule of a table: its centre, then the field, then what that has to begin with
unfoldable pub centre_rule_of : Members → Result CentreRule TariffFault
centre_rule_of table = do
  centre ← name_at table
  field ← field_at table
  prefix ← prefix_for table field
  Ok (record { centre = centre; field = field; prefix = prefix })

-- the rule of an entry, which has to be a table
unfoldable pub centre_rule_in : Data → Result CentreRule TariffFault
centre_rule_in value = do
  table ← ok_or (as_table value) (Range key.Centre)
  centre_rule_of table
