-- What an entry of a tariff file's array of shifts says.
use Rattle.std.specs.Prelude.{ℕ, ◌==◌, ◌&&◌, not, Bool, nat_le, nat_lt, if◌then◌else◌}
use Rattle.std.specs.Prelude.{List, length, is_some, Option, Some, None, Result, Ok, Err}
use Rattle.std.specs.List.{filter_map, list_all}
use Rattle.std.specs.Option.{ok_or}
use Rattle.toml.specs.Data.{as_table, Data, Members}
use Rattle.tariff_rules.specs.Clock.{minute_of_text}
use Rattle.tariff_rules.specs.Document.{◌>>=◌, entries_in, name_at, read_at, text_at}
use Rattle.tariff_rules.specs.Document.{integer_at, integer_in}
use Rattle.tariff_rules.specs.Limits.{days_per_week, most_percent}
use Rattle.tariff_rules.specs.Terms.{ShiftRule}
use Rattle.tariff_rules.specs.declared.fault.TariffFault.{TariffFault}
use Rattle.tariff_rules.specs.declared.fault.TariffFault.TheVariants.{Range}
use Rattle.tariff_rules.specs.declared.key.Key.{Key}
use Rattle.tariff_rules.specs.declared.key.Key.TheVariants as key

-- a weekday, Monday 1 to Sunday 7
abbrev pub weekday_in : Data → Option ℕ
weekday_in value = integer_in 1 days_per_week value

abbrev pub is_weekday : Data → Bool
is_weekday value = is_some (weekday_in value)

-- one to seven of them, some of which may be the same
abbrev pub are_weekdays : List Data → Bool
are_weekdays entries =
    not (length entries == 0) && nat_le (length entries) days_per_week
    && list_all is_weekday entries

-- the weekdays that they are, in order
abbrev pub weekdays_of : List Data → Option (List ℕ)
weekdays_of entries = if are_weekdays entries then Some (filter_map weekday_in entries) else None

-- the weekdays at the key `days`
unfoldable pub days_at : Members → Result (List ℕ) TariffFault
days_at table = do
  entries ← read_at table key.Days entries_in
  ok_or (weekdays_of entries) (Range key.Days)

-- a minute of the day
unfoldable pub minute_at : Members → Key → Result ℕ TariffFault
minute_at table key = do
  text ← text_at table key
  ok_or (minute_of_text text) (Range key)

-- the first minute after the shift, which is later than its first minute
unfoldable pub to_at : Members → ℕ → Result ℕ TariffFault
to_at table from = do
  to ← minute_at table key.To
  if nat_lt from to then Ok to else Err (Range key.To)

-- the rule of a table, by its keys in the order in which they are tested
unfoldable pub shift_rule_of : Members → Result ShiftRule TariffFault
shift_rule_of table = do
  name ← name_at table
  days ← days_at table
  from ← minute_at table key.From
  to ← to_at table from
  percent ← integer_at table key.Percent 0 most_percent
  Ok (record {
    shift = record { name = name; percent = percent };
    days = days;
    from = from;
    to = to;
  })

-- the rule of an entry, which has to be a table
unfoldable pub shift_rule_in : Data → Result ShiftRule TariffFault
shift_rule_in value = do
  table ← ok_or (as_table value) (Range key.Shift)
  shift_rule_of table
