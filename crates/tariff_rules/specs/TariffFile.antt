-- What a tariff file says: the terms of its TOML document, or the first fault in the order of the
-- keys.
use Rattle.std.specs.Prelude.{ℕ, nat_lt, ℤ, if◌then◌else◌, List, length}
use Rattle.std.specs.Prelude.{Option, Some, None, Result, Ok, Err}
use Rattle.std.specs.Option.{ok_or}
use Rattle.smf_text.specs.Day.{day_of_text_of}
use Rattle.toml.specs.Data.{as_table, Members}
use Rattle.toml.specs.Parse.{parse_document}
use Rattle.tariff_rules.specs.CentreEntry.{centre_rule_in}
use Rattle.tariff_rules.specs.Document.{◌>>=◌, read_at, rules_at, text_at, integer_at}
use Rattle.tariff_rules.specs.Limits.{most_centres, most_rate, most_shifts, most_text}
use Rattle.tariff_rules.specs.ShiftConflict.{has_conflict}
use Rattle.tariff_rules.specs.ShiftEntry.{shift_rule_in}
use Rattle.tariff_rules.specs.Terms.{rates_of, RatesOf, ShiftRule, Terms}
use Rattle.tariff_rules.specs.declared.fault.TariffFault.{TariffFault}
use Rattle.tariff_rules.specs.declared.fault.TariffFault.TheVariants.{Range, ShiftConflict, Syntax}
use Rattle.tariff_rules.specs.declared.fault.TariffFault.TheVariants.{TooMany}
use Rattle.tariff_rules.specs.declared.key.Key.{Key}
use Rattle.tariff_rules.specs.declared.key.Key.TheVariants as key
use Rattle.tariff_rules.specs.declared.tariff.file.Head.{Head}

-- the rates of one kind of record, by their keys
unfoldable pub rates_at : Members → Key → Key → Key → Result RatesOf TariffFault
rates_at table cpu_key excp_key record_key = do
  cpu ← integer_at table cpu_key 0 most_rate
  excp ← integer_at table excp_key 0 most_rate
  record_fee ← integer_at table record_key 0 most_rate
  Ok (rates_of cpu excp record_fee)

-- the first day
unfoldable pub effective_at : Members → Result ℤ TariffFault
effective_at document = do
  text ← text_at document key.Effective
  ok_or (day_of_text_of text) (Range key.Effective)

-- the shifts as they are, unless one name has two percents among them and BASE
abbrev pub agreed : List ShiftRule → Result (List ShiftRule) TariffFault
agreed rules = if has_conflict rules then Err ShiftConflict else Ok rules

-- the shifts; that they do not agree is said when each of them was read, before the centres are
unfoldable pub shifts_at : Members → Result (List ShiftRule) TariffFault
shifts_at document = do
  rules ← rules_at document key.Shift most_shifts shift_rule_in
  agreed rules

-- what a document says before its lists of rules, by its keys in the order in which they are tested
unfoldable pub head_of : Members → Result Head TariffFault
head_of document = do
  effective ← effective_at document
  table ← read_at document key.Rates as_table
  step ← rates_at table key.StepCpu key.StepExcp key.StepRecord
  job ← rates_at table key.JobCpu key.JobExcp key.JobRecord
  Ok (record { effective = effective; step = step; job = job })

-- the terms of a document: its head, then its shifts, then its centres
unfoldable pub terms_of : Members → Result Terms TariffFault
terms_of document = do
  head ← head_of document
  shifts ← shifts_at document
  centres ← rules_at document key.Centre most_centres centre_rule_in
  Ok (record {
    effective = head.effective;
    step = head.step;
    job = head.job;
    shifts = shifts;
    centres = centres;
  })

-- the document that the text of a tariff file is, if it is one and not too long
abbrev pub document_in : List ℕ → Option Members
document_in text = if nat_lt most_text (length text) then None else parse_document text

-- the terms, where the text is a document at all
abbrev pub terms_of_document : Option Members → Result Terms TariffFault
terms_of_document None = Err Syntax
terms_of_document (Some document) = terms_of document

-- what a text says; that it is too long is said before it is read
abbrev pub terms_in : List ℕ → Result Terms TariffFault
terms_in text =
    if nat_lt most_text (length text) then Err TooMany
    else terms_of_document (parse_document text)
